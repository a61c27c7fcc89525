-- Going over the subchannels of a channel from the lowest one.
use Rattle.std.proofs.Common.{◌≡◌, ℕ, ◌+◌, ◌/◌, ◌<◌, ◌≤◌, arith, subst}
use Rattle.std.proofs.lemmas.Bool.{cases_lt}
use Rattle.std.proofs.Common.{inl, inr}
use Rattle.chan_def.specs.Covered.{width_khz, IsCovered, IsSubchannel}
use Rattle.chan_def.specs.declared.definition.ChanDef.{ChanDef}
use Rattle.chan_def.specs.declared.definition.TheConstants.{MOST_SUBCHANNELS}
use Rattle.chan_def.specs.declared.width.Width.{Width}
use Rattle.chan_def.specs.declared.width.Width.TheVariants.{Noht, W20, W40, W80, W160, W320}
use Rattle.chan_flags.specs.Verdicts.{BarsFirst}

-- P holds of the first n subchannels
abbrev pub EachBelow : (ℕ → Type 0) → ChanDef → ℕ → Type 0
EachBelow P c n = (s j : ℕ) → j < n → IsSubchannel (width_khz c.width) c.centre_khz j s → P s

pub one_centre : (width centre i s t : ℕ) → IsSubchannel width centre i s → IsSubchannel width centre i t → s ≡ t
one_centre width centre i s t a b =
    let at_s = a.at in
    let at_t = b.at in
    omega (arith, at_s, at_t)

pub EachBelow-more : (P : ℕ → Type 0) (c : ChanDef) (i s : ℕ) → EachBelow P c i → IsSubchannel (width_khz c.width) c.centre_khz i s → P s → EachBelow P c (i + 1)
EachBelow-more P c i s each is here t j below is_t = elim (cases_lt j i) [
  | inl earlier ↦ each t j earlier is_t
  | inr last ↦
      let same : i ≡ j = omega arith in
      subst P (one_centre (width_khz c.width) c.centre_khz j s t (subst (λ n. IsSubchannel (width_khz c.width) c.centre_khz n s) same is) is_t) here
]

few_subchannels : (w : Width) → width_khz w / 20000 ≤ MOST_SUBCHANNELS
few_subchannels Noht = omega arith
few_subchannels W20 = omega arith
few_subchannels W40 = omega arith
few_subchannels W80 = omega arith
few_subchannels W160 = omega arith
few_subchannels W320 = omega arith

-- P holds of all subchannels where it holds of so many
pub each_covered : (P : ℕ → Type 0) (c : ChanDef) (n : ℕ) → width_khz c.width / 20000 ≤ n → EachBelow P c n → (s : ℕ) → IsCovered c s → P s
each_covered P c n past each s covered =
    let within = covered.1.within in
    each s covered.0 (omega (arith, past, within)) covered.1

pub each_covered_of_most : (P : ℕ → Type 0) (c : ChanDef) (n : ℕ) → MOST_SUBCHANNELS ≤ n → EachBelow P c n → (s : ℕ) → IsCovered c s → P s
each_covered_of_most P c n all each =
    let few = few_subchannels c.width in
    each_covered P c n (omega (arith, few, all)) each

pub BarsFirst-here : (bars : ℕ → Type 0) (c : ChanDef) (i s : ℕ) → EachBelow (λ t. bars t → ⊥) c i → IsSubchannel (width_khz c.width) c.centre_khz i s → bars s → BarsFirst bars c s
BarsFirst-here bars c i s none is here = record {
  covered = (i, is);
  here = here;
  none_below = λ t below covered bar.
      let at_s = is.at in
      let at_t = covered.1.at in
      none t covered.0 (omega (arith, at_s, at_t, below)) covered.1 bar;
}
