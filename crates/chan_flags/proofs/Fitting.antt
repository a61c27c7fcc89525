-- What holds of the record of a channel.
use Rattle.std.proofs.Common.{◌≡◌, ℕ, ◌+◌, ◌⊎◌, IfSome, List, Option, Some, None, sym, subst, inl, inr, ◌∙◌}
use Rattle.chan_def.specs.Covered.{width_khz, IsCovered, IsSubchannel}
use Rattle.chan_def.specs.declared.definition.ChanDef.{ChanDef}
use Rattle.chan_flags.specs.ByRecords.{chan_with_centre, FitHas, IfFit}
use Rattle.chan_flags.specs.declared.record.Chan.{Chan}
use Rattle.chan_flags.specs.declared.record.Fit.{Fit}
use Rattle.chan_flags.proofs.Covering.{EachBelow, EachBelow-more}

IfSome-weaker : (P Q : Fit → Type 0) → ((fit : Fit) → P fit → Q fit) → (o : Option Fit) → IfSome o P → IfSome o Q
IfSome-weaker P Q to None is = tt
IfSome-weaker P Q to (Some fit) is = to fit is

IfFit-weaker : (P Q : Fit → Type 0) → ((fit : Fit) → P fit → Q fit) → (o : Option Chan) → IfFit P o → IfFit Q o
IfFit-weaker P Q to None is = tt
IfFit-weaker P Q to (Some chan) is = IfSome-weaker P Q to chan.fit is

-- each of the first subchannels goes on to have it, and the next one has it too
pub EachBelow-fit : (P Q : Fit → Type 0) (chans : List Chan) (c : ChanDef) (i s : ℕ) → ((fit : Fit) → P fit → Q fit) → EachBelow (λ t. IfFit P (chan_with_centre chans t)) c i
    → IsSubchannel (width_khz c.width) c.centre_khz i s → IfFit Q (chan_with_centre chans s) → EachBelow (λ t. IfFit Q (chan_with_centre chans t)) c (i + 1)
EachBelow-fit P Q chans c i s to each is here =
    EachBelow-more (λ t. IfFit Q (chan_with_centre chans t)) c i s (λ t j below is_t. IfFit-weaker P Q to (chan_with_centre chans t) (each t j below is_t)) is here

-- a number that was the first one or that of a record goes on to be one, or is that of the next record
pub one_of_records : (R : ℕ → Fit → Type 0) (chans : List Chan) (c : ChanDef) (i s first old new : ℕ) → IsSubchannel (width_khz c.width) c.centre_khz i s
    → (old ≡ first) ⊎ ((t : ℕ) × IsCovered c t × FitHas (R old) (chan_with_centre chans t))
    → (new ≡ old) ⊎ FitHas (R new) (chan_with_centre chans s)
    → (new ≡ first) ⊎ ((t : ℕ) × IsCovered c t × FitHas (R new) (chan_with_centre chans t))
one_of_records R chans c i s first old new is was (inr here) = inr (s, (i, is), here)
one_of_records R chans c i s first old new is (inl start) (inl same) = inl (same ∙ start)
one_of_records R chans c i s first old new is (inr found) (inl same) = inr (subst (λ n. (t : ℕ) × IsCovered c t × FitHas (R n) (chan_with_centre chans t)) (sym same) found)
