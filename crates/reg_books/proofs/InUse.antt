-- An interface is in use where it is on a channel.
use Rattle.std.proofs.Common.{◌↔◌, ◌⊎◌, Option, Some, None, IsSome, IsTrue, is_some, refl, inl, inr}
use Rattle.std.proofs.lemmas.Bool.{false≢true}
use Rattle.reg_journal.specs.Facts.{Journal}
use Rattle.reg_journal.specs.Permits.{channel_in, channel_of}
use Rattle.reg_journal.specs.Present.{Check, Iface, Operation, check_of, operation_of}
use Rattle.reg_journal.specs.Refusals.{IsInUse}

pub used_on_channel : (J : Journal) (x : Iface) → IsTrue (is_some (channel_of J x)) ↔ IsInUse J x
used_on_channel J x = by (operation_of J x.index) (check_of J x.index)
  where
    by : (o : Option Operation) (k : Option Check) → IsTrue (is_some (channel_in o k)) ↔ (IsSome o ⊎ IsSome k)
    by (Some o) k = (λ t. inl refl, λ used. refl)
    by None (Some k) = (λ t. inr refl, λ used. refl)
    by None None = (λ t. absurd (false≢true t), λ used. elim used [ inl o ↦ o | inr k ↦ k ])
