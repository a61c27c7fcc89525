-- Either some rule governs a channel, or none does.
use Rattle.std.proofs.Common.{◌≡◌, ℕ, zero, suc, ◌+◌, ◌<◌, ◌⊎◌, List, [], ◌∷◌, Some, length, get_or, slice_get, All, arith, inl, inr}
use Rattle.std.proofs.lemmas.Bool.{cases_lt}
use Rattle.std.proofs.lemmas.List.Elements.{All-cons, All-nil}
use Rattle.std.proofs.lemmas.Option.{slice_get_within, get_or_from_slice_get}
use Rattle.freq_range.specs.Channels.{Holds}
use Rattle.freq_range.specs.First.{IsFirst}
use Rattle.freq_range.specs.declared.rule.Rule.{Rule}
use Rattle.rule_tables.specs.Governing.{RuleHolds, HoldsAt, Governs, NoneGoverns}

pub holds_or_not : (centre start end : ℕ) → Holds start end centre ⊎ (Holds start end centre → ⊥)
holds_or_not centre start end = elim (cases_lt centre (start + 10000)) [
  | inl below ↦ inr (λ holds. let from_start = holds.from_start in omega (arith, from_start, below))
  | inr low ↦ elim (cases_lt end (centre + 10000)) [
    | inl past ↦ inr (λ holds. let to_end = holds.to_end in omega (arith, to_end, past))
    | inr high ↦ inl (record { from_start = low; to_end = high })
  ]
]

-- there is an element at place k, and P holds of it
abbrev pub IsAt : {X : Type 0} → (X → Type 0) → List X → ℕ → Type 0
IsAt {X} P xs k = (k < length xs) × ((d : X) → P (get_or xs k d))

later : {X : Type 0} (P : X → Type 0) (x : X) (xs : List X) → (P x → ⊥) → (k : ℕ) → IsFirst (IsAt P xs) k → IsFirst (IsAt P (x ∷ xs)) (suc k)
later {X} P x xs not k first = record {
  here = (let in_range = first.here.0 in omega arith, first.here.1);
  none_before = λ j below has. before j below has;
}
  where
    before : (j : ℕ) → j < suc k → IsAt P (x ∷ xs) j → ⊥
    before zero below has = not (has.1 x)
    before (suc j) below has = first.none_before j (omega arith) (let in_range = has.0 in omega arith, has.1)

-- what is decided of each element holds first at some place, or at none
pub first_or_none : {X : Type 0} (P : X → Type 0) → ((x : X) → P x ⊎ (P x → ⊥)) → (xs : List X) → ((k : ℕ) × IsFirst (IsAt P xs) k) ⊎ All (λ x. P x → ⊥) xs
first_or_none P decided [] = inr (All-nil (λ x. P x → ⊥))
first_or_none P decided (x ∷ xs) = elim (decided x) [
  | inl holds ↦ inl (0, record { here = (omega arith, λ d. holds); none_before = λ j below has. omega arith })
  | inr not ↦ elim (first_or_none P decided xs) [
    | inl found ↦ inl (suc found.0, later P x xs not found.0 found.1)
    | inr none ↦ inr (All-cons (λ x. P x → ⊥) x xs not none)
  ]
]

pub governs_or_none : (rules : List Rule) (centre : ℕ) → ((k : ℕ) × Governs rules centre k) ⊎ NoneGoverns rules centre
governs_or_none rules centre = first_or_none (RuleHolds centre) (λ r. holds_or_not centre r.start_khz r.end_khz) rules

-- a rule at its place that holds the channel
pub HoldsAt-from_get : (rules : List Rule) (centre k : ℕ) (r : Rule) → slice_get rules k ≡ Some r → RuleHolds centre r → HoldsAt rules centre k
HoldsAt-from_get rules centre k r at holds =
    (slice_get_within rules k r at, λ d. rw (get_or_from_slice_get rules k r d at) holds)
