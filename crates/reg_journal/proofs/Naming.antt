-- The interface that a look-up of a name finds has the name.
use Rattle.std.proofs.Common.{◌≡◌, ℕ, List, [], ◌∷◌, find, Some, inl, inr, subst}
use Rattle.std.proofs.lemmas.Bool.{cases_Bool}
use Rattle.std.proofs.lemmas.Option.{none-some, same_Some}
use Rattle.reg_journal.specs.Facts.{Journal}
use Rattle.reg_base.specs.Texts.{same_bytes}
use Rattle.reg_journal.specs.Present.{Iface, ifaces_of, named}
use Rattle.reg_journal.proofs.SameNames.{same_name-to}

found_name : (xs : List Iface) (name : List ℕ) (x : Iface) → find (λ y. same_bytes y.name name) xs ≡ Some x → x.name ≡ name
found_name [] name x found = absurd (none-some x found)
found_name (y ∷ xs) name x found = elim (cases_Bool (same_bytes y.name name)) [
  | inl same ↦ subst (λ (z : Iface). z.name ≡ name) (same_Some y x (rw same at found)) (same_name-to y.name name same)
  | inr other ↦ found_name xs name x (rw other at found)
]

pub named_name : (J : Journal) (name : List ℕ) (x : Iface) → named J name ≡ Some x → x.name ≡ name
named_name J name x found = found_name (ifaces_of J) name x found
