-- Whether the channel table has a channel in one of the bands.
use Rattle.std.proofs.Common.{◌≡◌, ℕ, zero, suc, ◌+◌, ◌-◌, ◌*◌, ◌%◌, ◌<◌, ◌≤◌, ◌⊎◌, Bool, IsTrue, arith, subst, sym, ◌∙◌, inl, inr}
use Rattle.std.proofs.lemmas.Bool.{cases_Bool, cases_eq, cases_lt, true≢false}
use Rattle.freq_range.specs.Channels.{IsChannel, IsStepOfFour}
use Rattle.freq_range.specs.declared.channel.Band.{Band}
use Rattle.freq_range.specs.declared.channel.Band.TheVariants.{Ghz2, Ghz5, Ghz6}
use Rattle.freq_range.proofs.Deciding.{Told, told_as, told_both, told_le}
use Rattle.chan_flags.specs.Lists.{IsRadioChannel}
use Rattle.chan_flags.specs.Profiles.{has_band}
use Rattle.chan_flags.specs.declared.profile.Bands.{Bands}
use Rattle.freq_range.proofs.Listed.{number_small}

pub told_either : {P Q : Type 0} → Told P → Told Q → Told (P ⊎ Q)
told_either p q = elim p [
  | inl is ↦ inl (inl is)
  | inr never ↦ elim q [
    | inl is ↦ inl (inr is)
    | inr neither ↦ inr (λ either. elim either [ inl is ↦ never is | inr is ↦ neither is ])
  ]
]

told_step : (first last n : ℕ) → Told (IsStepOfFour first last n)
told_step first last n = told_as
    (λ parts. record { from_first = parts.0; to_last = parts.1.0; by_four = parts.1.1 })
    (λ step. (step.from_first, (step.to_last, step.by_four)))
    (told_both (told_le first n) (told_both (told_le n last) (cases_eq ((n - first) % 4) 0)))

pub told_channel : (band : Band) (n khz : ℕ) → Told (IsChannel band n khz)
told_channel Ghz2 n khz = told_either
    (told_as (λ parts. (parts.0, parts.1.0, parts.1.1)) (λ is. (is.0, (is.1, is.2))) (told_both (told_le 1 n) (told_both (told_le n 13) (cases_eq khz (2407000 + 5000 * n)))))
    (told_both (cases_eq n 14) (cases_eq khz 2484000))
told_channel Ghz5 n khz = told_both
    (told_either (told_step 36 64 n) (told_either (told_step 100 144 n) (told_step 149 177 n)))
    (cases_eq khz (5000000 + 5000 * n))
told_channel Ghz6 n khz = told_both (told_step 1 233 n) (cases_eq khz (5950000 + 5000 * n))

pub told_below : (P : ℕ → Type 0) → ((n : ℕ) → Told (P n)) → (m : ℕ) → Told ((n : ℕ) × (n < m) × P n)
told_below P tell zero = inr (λ (n, below, is). omega arith)
told_below P tell (suc m) = elim (tell m) [
  | inl is ↦ inl (m, omega arith, is)
  | inr never ↦ elim (told_below P tell m) [
    | inl found ↦ let below = found.1 in inl (found.0, omega (arith, below), found.2)
    | inr none ↦ inr (λ (n, below, is). elim (cases_lt n m) [
      | inl less ↦ none (n, less, is)
      | inr more ↦ never (subst P (last n below more) is)
    ])
  ]
]
  where
    last : (n : ℕ) → n < suc m → m ≤ n → n ≡ m
    last n below more = omega arith

-- the band has a channel with this centre, and is one of the bands
abbrev InBand : Bands → ℕ → Band → Type 0
InBand bands khz band = ((n : ℕ) × (n < 234) × IsChannel band n khz) × IsTrue (has_band bands band)

told_band : (bands : Bands) (khz : ℕ) (band : Band) → Told (InBand bands khz band)
told_band bands khz band = told_both (told_below (λ n. IsChannel band n khz) (λ n. told_channel band n khz) 234) (told_true (has_band bands band))
  where
    told_true : (b : Bool) → Told (IsTrue b)
    told_true b = elim (cases_Bool b) [
      | inl is ↦ inl is
      | inr not ↦ inr (λ is. true≢false (sym is ∙ not))
    ]

from_band : (bands : Bands) (khz : ℕ) (band : Band) → InBand bands khz band → IsRadioChannel bands khz
from_band bands khz band (number, has) = (band, number.0, number.2, has)

to_band : (bands : Bands) (khz : ℕ) → (there : IsRadioChannel bands khz) → InBand bands khz there.0
to_band bands khz (band, n, is, has) = ((n, number_small band n khz is, is), has)

pub told_radio_channel : (bands : Bands) (khz : ℕ) → Told (IsRadioChannel bands khz)
told_radio_channel bands khz = elim (told_band bands khz Ghz2) [
  | inl in_2 ↦ inl (from_band bands khz Ghz2 in_2)
  | inr not_2 ↦ elim (told_band bands khz Ghz5) [
    | inl in_5 ↦ inl (from_band bands khz Ghz5 in_5)
    | inr not_5 ↦ elim (told_band bands khz Ghz6) [
      | inl in_6 ↦ inl (from_band bands khz Ghz6 in_6)
      | inr not_6 ↦ inr (λ there. neither not_2 not_5 not_6 there.0 (to_band bands khz there))
    ]
  ]
]
  where
    neither : (InBand bands khz Ghz2 → ⊥) → (InBand bands khz Ghz5 → ⊥) → (InBand bands khz Ghz6 → ⊥) → (band : Band) → InBand bands khz band → ⊥
    neither not_2 not_5 not_6 Ghz2 is = not_2 is
    neither not_2 not_5 not_6 Ghz5 is = not_5 is
    neither not_2 not_5 not_6 Ghz6 is = not_6 is
