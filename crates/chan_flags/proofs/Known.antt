-- What is known of a radio's channel, where each channel has its record over a list of domains.
use Rattle.std.proofs.Common.{◌≡◌, ◌==◌, ℕ, ◌⊎◌, false, cond, Option, Some, None, List, [], ◌∷◌, map, Contains, refl, subst, ap, ◌∙◌, inl, inr}
use Rattle.std.proofs.lemmas.Bool.{cases_Bool, eqb-true, eq-eqb}
use Rattle.std.proofs.lemmas.List.Elements.{All-contains}
use Rattle.freq_range.proofs.Members.{Contains-head, Contains-later, Contains-cases, Contains-nothing}
use Rattle.rule_tables.specs.declared.domain.Domain.{Domain}
use Rattle.rule_intersect.specs.Subchannels.{AreGoverning, SomeLacksRule}
use Rattle.rule_intersect.specs.Tuples.{Choice}
use Rattle.chan_flags.specs.ByRecords.{chan_with_centre}
use Rattle.chan_flags.specs.Lists.{AreChannels, IsRadioChannel}
use Rattle.chan_flags.specs.Records.{fit_of, AreRecords, IsRecord}
use Rattle.chan_flags.specs.Verdicts.{IsMissing}
use Rattle.chan_flags.specs.declared.profile.Bands.{Bands}
use Rattle.chan_flags.specs.declared.record.Chan.{Chan}
use Rattle.chan_flags.specs.declared.record.Fit.{Fit}

-- what is found is a channel of the list, with this centre; and where nothing is found, none has it
found_or_none : (chans : List Chan) (s : ℕ) → ((chan : Chan) × (chan_with_centre chans s ≡ Some chan) × Contains chans chan × (chan.khz ≡ s))
    ⊎ ((chan_with_centre chans s ≡ None) × (Contains (map (λ c. c.khz) chans) s → ⊥))
found_or_none [] s = inr (refl, λ has. Contains-nothing s has)
found_or_none (c ∷ chans) s = elim (cases_Bool (c.khz == s)) [
  | inl same ↦ inl (c, ap (λ b. cond b (Some c) (chan_with_centre chans s)) same, Contains-head c chans, eqb-true c.khz s same)
  | inr other ↦ elim (found_or_none chans s) [
    | inl found ↦ inl (found.0, ap (λ b. cond b (Some c) (chan_with_centre chans s)) other ∙ found.1, Contains-later c chans found.0 found.2, found.3)
    | inr none ↦ inr (ap (λ b. cond b (Some c) (chan_with_centre chans s)) other ∙ none.0, absent other none.1)
  ]
]
  where
    absent : (c.khz == s) ≡ false → (Contains (map (λ x. x.khz) chans) s → ⊥) → Contains (map (λ x. x.khz) (c ∷ chans)) s → ⊥
    absent other none has = elim (Contains-cases c.khz (map (λ x. x.khz) chans) s has) [
      | inl here ↦ let same = eq-eqb c.khz s here in cc
      | inr later ↦ none later
    ]

contains_centre : (chans : List Chan) (chan : Chan) → Contains chans chan → Contains (map (λ c. c.khz) chans) chan.khz
contains_centre [] chan has = absurd (Contains-nothing chan has)
contains_centre (c ∷ chans) chan has = elim (Contains-cases c chans chan has) [
  | inl same ↦ subst (λ x. Contains (c.khz ∷ map (λ y. y.khz) chans) x.khz) same (Contains-head c.khz (map (λ y. y.khz) chans))
  | inr later ↦ Contains-later c.khz (map (λ y. y.khz) chans) chan.khz (contains_centre chans chan later)
]

-- the channel with this record
abbrev pub channel_with : ℕ → Option Fit → Chan
channel_with khz fit = record { khz = khz; fit = fit }

-- the radio has no such channel
abbrev pub IsAbsent : List Chan → Bands → ℕ → Type 0
IsAbsent chans bands s = (chan_with_centre chans s ≡ None) × IsMissing bands s

-- it has the channel, and some domain has no rule for it
abbrev pub IsRuleless : List Domain → List Chan → Bands → ℕ → Type 0
IsRuleless ds chans bands s = (khz : ℕ) × (chan_with_centre chans s ≡ Some (channel_with khz None)) × IsRadioChannel bands s × SomeLacksRule ds s

-- it has the channel, and each domain has a governing rule for it
abbrev pub IsRuled : List Domain → List Chan → Bands → ℕ → Type 0
IsRuled ds chans bands s =
    (khz : ℕ) × (t : List Choice) × (chan_with_centre chans s ≡ Some (channel_with khz (Some (fit_of t)))) × IsRadioChannel bands s × AreGoverning ds s t

known_record : (ds : List Domain) (chans : List Chan) (bands : Bands) (s khz : ℕ) (fit : Option Fit) → chan_with_centre chans s ≡ Some (channel_with khz fit) → IsRadioChannel bands s
    → IsRecord ds s fit → IsRuleless ds chans bands s ⊎ IsRuled ds chans bands s
known_record ds chans bands s khz None at has lacks = inl (khz, at, has, lacks)
known_record ds chans bands s khz (Some fit) at has (t, are, is) = inr (khz, t, subst (λ f. chan_with_centre chans s ≡ Some (channel_with khz (Some f))) is at, has, are)

pub known : (ds : List Domain) (chans : List Chan) (bands : Bands) (s : ℕ) → AreRecords ds chans → AreChannels bands (map (λ c. c.khz) chans)
    → IsAbsent chans bands s ⊎ (IsRuleless ds chans bands s ⊎ IsRuled ds chans bands s)
known ds chans bands s records channels = elim (found_or_none chans s) [
  | inr none ↦ inl (none.0, λ is. none.1 (channels.all s is))
  | inl (chan, at, has, centre) ↦
      let here = All-contains (IsRadioChannel bands) (map (λ c. c.khz) chans) chan.khz channels.only (contains_centre chans chan has) in
      let record_is = All-contains (λ c. IsRecord ds c.khz c.fit) chans chan records.each has in
      inr (known_record ds chans bands s chan.khz chan.fit at (subst (IsRadioChannel bands) centre here) (subst (λ n. IsRecord ds n chan.fit) centre record_is))
]
