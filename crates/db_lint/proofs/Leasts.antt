-- The least channels that rules govern, of a front of the channels.
use Rattle.std.proofs.Common.{◌≡◌, ℕ, ◌+◌, ◌<◌, ◌≤◌, List, length, get_or, set, Option, Some, None, arith, sym, ap, ◌∙◌, subst, inl, inr, below_more, replicate}
use Rattle.std.specs.Option.{option_or}
use Rattle.std.proofs.lemmas.Bool.{cases_lt}
use Rattle.std.proofs.lemmas.List.{get_or_default, get_or-replicate, get_or-set_other, get_or-set_same, length-replicate, length-set}
use Rattle.freq_range.specs.Ascending.{AreAllAscending}
use Rattle.freq_range.specs.Channels.{IsCentre}
use Rattle.freq_range.specs.declared.rule.Rule.{Rule}
use Rattle.freq_range.proofs.Firsts.{IsFirst-unique}
use Rattle.rule_tables.specs.Governing.{Governs, HoldsAt, NoneGoverns}
use Rattle.db_lint.specs.Notes.{IsLeastChannel}
use Rattle.db_lint.specs.inner.Leasts.{AreLeasts}
use Rattle.db_lint.proofs.Noted.{NoneOfFirst, least_found, least_none, none_governs}

-- the first of the first i channels of which P holds, or none
abbrev pub FirstOf : (ℕ → Type 0) → List ℕ → ℕ → Option ℕ → Type 0
FirstOf P list i None = NoneOfFirst P list i
FirstOf P list i (Some khz) = (j : ℕ) × (j < i) × (khz ≡ get_or list j 0) × P khz × NoneOfFirst P list j

-- one channel more, of which P doesn't hold
first_past : (P : ℕ → Type 0) (list : List ℕ) (i : ℕ) (o : Option ℕ) → (P (get_or list i 0) → ⊥) → FirstOf P list i o → FirstOf P list (i + 1) o
first_past P list i None lacks none = below_more _ _ none lacks
first_past P list i (Some khz) lacks (j, before, at, has, none) = (j, omega (arith, before), at, has, none)

-- one channel more, of which P holds
first_kept : (P : ℕ → Type 0) (list : List ℕ) (i khz : ℕ) (o : Option ℕ) → khz ≡ get_or list i 0 → P khz → FirstOf P list i o → FirstOf P list (i + 1) (option_or o (Some khz))
first_kept P list i khz None at has none = (i, omega arith, at, has, none)
first_kept P list i khz (Some other) at has (j, before, there, holds, none) = (j, omega (arith, before), there, holds, none)

least_of_first : (P : ℕ → Type 0) (list : List ℕ) (i : ℕ) (o : Option ℕ) → AreAllAscending IsCentre list → i ≤ length list → length list ≤ i → FirstOf P list i o → IsLeastChannel P o
least_of_first P list i None are upto past none = least_none P list i are past none
least_of_first P list i (Some khz) are upto past (j, before, at, has, none) = least_found P list j khz are (omega (arith, before, upto)) at has none

-- for each rule the first of the first i channels that it governs
pub record Firsts (rules : List Rule) (channels : List ℕ) (i : ℕ) (leasts : List (Option ℕ)) : Type 0 where
  pub count : length leasts ≡ length rules
  pub each : (k : ℕ) → k < length rules → FirstOf (λ khz. Governs rules khz k) channels i (get_or leasts k None)

pub firsts_none : (rules : List Rule) (channels : List ℕ) (leasts : List (Option ℕ)) (n : ℕ) → n ≡ length rules → leasts ≡ replicate n None → Firsts rules channels 0 leasts
firsts_none rules channels leasts n count are = record {
  count = subst (λ xs. length xs ≡ length rules) (sym are) (length-replicate n None ∙ count);
  each = λ k below. subst (λ xs. FirstOf (λ khz. Governs rules khz k) channels 0 (get_or xs k None)) (sym are)
      (subst (FirstOf (λ khz. Governs rules khz k) channels 0) (sym (get_or-replicate n k None None (omega (arith, below, count)))) (λ j less. absurd (omega (arith, less))));
}

-- one channel more that no rule governs
pub firsts_past : (rules : List Rule) (channels : List ℕ) (i khz : ℕ) (leasts : List (Option ℕ)) → khz ≡ get_or channels i 0 → NoneGoverns rules khz
    → Firsts rules channels i leasts → Firsts rules channels (i + 1) leasts
firsts_past rules channels i khz leasts at none are = record {
  count = are.count;
  each = λ k below. first_past (λ c. Governs rules c k) channels i (get_or leasts k None) (λ is. none_governs rules khz k none (subst (λ c. Governs rules c k) (sym at) is)) (are.each k below);
}

-- one channel more that a rule governs
pub firsts_kept : (rules : List Rule) (channels : List ℕ) (i khz k : ℕ) (leasts : List (Option ℕ)) → khz ≡ get_or channels i 0 → Governs rules khz k
    → Firsts rules channels i leasts → Firsts rules channels (i + 1) (set leasts k (option_or (get_or leasts k None) (Some khz)))
firsts_kept rules channels i khz k leasts at governs are = record {
  count = length-set leasts k _ ∙ are.count;
  each = λ m below. elim (cases_lt m k) [
    | inl less ↦ other m below (λ same. absurd (omega (arith, less, same)))
    | inr upto ↦ elim (cases_lt k m) [
      | inl more ↦ other m below (λ same. absurd (omega (arith, more, same)))
      | inr down ↦ let same : k ≡ m = omega (arith, upto, down) in
          subst (λ n. FirstOf (λ c. Governs rules c n) channels (i + 1) (get_or (set leasts k (option_or (get_or leasts k None) (Some khz))) n None)) same (this (subst (λ n. n < length rules) (sym same) below))
    ]
  ];
}
  where
    this : k < length rules → FirstOf (λ c. Governs rules c k) channels (i + 1) (get_or (set leasts k (option_or (get_or leasts k None) (Some khz))) k None)
    this below = subst (FirstOf (λ c. Governs rules c k) channels (i + 1)) (sym (get_or-set_same leasts k (option_or (get_or leasts k None) (Some khz)) None (let count = are.count in omega (arith, below, count))))
        (first_kept (λ c. Governs rules c k) channels i khz (get_or leasts k None) at governs (are.each k below))

    other : (m : ℕ) → m < length rules → (m ≡ k → ⊥) → FirstOf (λ c. Governs rules c m) channels (i + 1) (get_or (set leasts k (option_or (get_or leasts k None) (Some khz))) m None)
    other m below apart = subst (FirstOf (λ c. Governs rules c m) channels (i + 1)) (sym (get_or-set_other leasts k m (option_or (get_or leasts k None) (Some khz)) None apart))
        (first_past (λ c. Governs rules c m) channels i (get_or leasts m None)
        (λ is. apart (IsFirst-unique (HoldsAt rules khz) m k (subst (λ c. Governs rules c m) (sym at) is) governs)) (are.each m below))

-- the same, as it is read and written
pub firsts_set : (rules : List Rule) (channels : List ℕ) (i khz k : ℕ) (leasts : List (Option ℕ)) (read new : Option ℕ) → khz ≡ get_or channels i 0 → Governs rules khz k
    → read ≡ get_or leasts k read → new ≡ option_or read (Some khz) → Firsts rules channels i leasts → Firsts rules channels (i + 1) (set leasts k new)
firsts_set rules channels i khz k leasts read new at governs read_is new_is are =
    subst (λ o. Firsts rules channels (i + 1) (set leasts k o)) (sym (new_is ∙ ap (λ o. option_or o (Some khz)) (read_is ∙ get_or_default leasts k read None within)))
    (firsts_kept rules channels i khz k leasts at governs are)
  where
    within : k < length leasts
    within = let count = are.count in let in_range = governs.here.0 in omega (arith, count, in_range)

pub firsts_all : (rules : List Rule) (channels : List ℕ) (i : ℕ) (leasts : List (Option ℕ)) → AreAllAscending IsCentre channels → i ≤ length channels → length channels ≤ i
    → Firsts rules channels i leasts → AreLeasts rules leasts
firsts_all rules channels i leasts whole upto past are = record {
  count = are.count;
  each = λ k below. least_of_first (λ khz. Governs rules khz k) channels i (get_or leasts k None) whole upto past (are.each k below);
}
