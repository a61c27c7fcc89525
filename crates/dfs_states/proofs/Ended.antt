-- The latest end of the checks that are done.
use Rattle.std.proofs.Common.{◌≡◌, ℕ, ◌+◌, ◌≤◌, ◌<◌, ◌↔◌, List, length, get_or, Bool, false, Option, Some, None, arith, refl, subst, ◌⊎◌, inl, inr}
use Rattle.std.proofs.lemmas.Bool.{cases_lt, cases_eq}
use Rattle.std.proofs.lemmas.List.{get_or_past}
use Rattle.dfs_states.specs.Greatest.{IsMost}
use Rattle.dfs_states.specs.inner.Steps.{IsEnded}
use Rattle.dfs_states.specs.declared.check.Check.{Check}
use Rattle.dfs_states.proofs.Most.{most_same, most_either}

-- the check of a slot below i ended, and counts
abbrev pub EndedBelow : ℕ → ℕ → List Bool → List (Option Check) → ℕ → Type 0
EndedBelow i now counts checks end = (slot : ℕ) × (slot < i) × IsEnded now (get_or counts slot false) (get_or checks slot None) end

abbrev pub IsLatestBelow : ℕ → ℕ → List Bool → List (Option Check) → Option ℕ → Option ℕ → Type 0
IsLatestBelow i now counts checks since latest = IsMost (λ end. (since ≡ Some end) ⊎ EndedBelow i now counts checks end) latest

pub latest_none : (now : ℕ) (counts : List Bool) (checks : List (Option Check)) (since : Option ℕ) → IsLatestBelow 0 now counts checks since since
latest_none now counts checks None = λ n either. elim either [
  | inl same ↦ cc
  | inr ended ↦ let below = ended.1 in absurd (omega arith)
]
latest_none now counts checks (Some since) = record {
  holds = inl refl;
  none_above = λ m either. elim either [
    | inl same ↦ let same' : since ≡ m = cc in omega arith
    | inr ended ↦ let below = ended.1 in absurd (omega arith)
  ];
}

pub latest_more : (i now : ℕ) (counts : List Bool) (checks : List (Option Check)) (since latest ended next : Option ℕ)
    → ((end : ℕ) → (ended ≡ Some end) ↔ IsEnded now (get_or counts i false) (get_or checks i None) end)
    → IsMost (λ end. (latest ≡ Some end) ⊎ (ended ≡ Some end)) next → IsLatestBelow i now counts checks since latest → IsLatestBelow (i + 1) now counts checks since next
latest_more i now counts checks since latest ended next is_end later below =
    most_same (λ end. Before end ⊎ (ended ≡ Some end)) (λ end. (since ≡ Some end) ⊎ EndedBelow (i + 1) now counts checks end) next forth back
    (most_either Before (λ end. ended ≡ Some end) latest next below later)
  where
    Before : ℕ → Type 0
    Before end = (since ≡ Some end) ⊎ EndedBelow i now counts checks end

    forth : (end : ℕ) → Before end ⊎ (ended ≡ Some end) → (since ≡ Some end) ⊎ EndedBelow (i + 1) now counts checks end
    forth end (inl (inl same)) = inl same
    forth end (inl (inr earlier)) = let less = earlier.1 in inr (earlier.0, omega arith, earlier.2)
    forth end (inr same) = inr (i, omega arith, (is_end end).0 same)

    back : (end : ℕ) → (since ≡ Some end) ⊎ EndedBelow (i + 1) now counts checks end → Before end ⊎ (ended ≡ Some end)
    back end (inl same) = inl (inl same)
    back end (inr some) =
        let less = some.1 in
        elim (cases_eq some.0 i) [
          | inl same ↦ inr ((is_end end).1 (subst (λ j. IsEnded now (get_or counts j false) (get_or checks j None) end) same some.2))
          | inr apart ↦ inl (inr (some.0, omega arith, some.2))
        ]

-- there is no slot past the flags
pub latest_all : (i now : ℕ) (counts : List Bool) (checks : List (Option Check)) (since latest : Option ℕ) → length counts ≤ i
    → IsLatestBelow i now counts checks since latest
    → IsMost (λ end. (since ≡ Some end) ⊎ ((slot : ℕ) × IsEnded now (get_or counts slot false) (get_or checks slot None) end)) latest
latest_all i now counts checks since latest all below =
    most_same (λ end. (since ≡ Some end) ⊎ EndedBelow i now counts checks end)
    (λ end. (since ≡ Some end) ⊎ ((slot : ℕ) × IsEnded now (get_or counts slot false) (get_or checks slot None) end)) latest forth back below
  where
    forth : (end : ℕ) → (since ≡ Some end) ⊎ EndedBelow i now counts checks end
        → (since ≡ Some end) ⊎ ((slot : ℕ) × IsEnded now (get_or counts slot false) (get_or checks slot None) end)
    forth end (inl same) = inl same
    forth end (inr ended) = inr (ended.0, ended.2)

    back : (end : ℕ) → (since ≡ Some end) ⊎ ((slot : ℕ) × IsEnded now (get_or counts slot false) (get_or checks slot None) end)
        → (since ≡ Some end) ⊎ EndedBelow i now counts checks end
    back end (inl same) = inl same
    back end (inr ended) = elim (cases_lt ended.0 i) [
      | inl less ↦ inr (ended.0, less, ended.1)
      | inr past ↦
          let unset : get_or counts ended.0 false ≡ false = get_or_past counts ended.0 false (omega arith) in
          let set = ended.1.counting in
          absurd cc
    ]
