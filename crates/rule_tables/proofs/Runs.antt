-- The run of touching rules that has a rule, from that of the rule before, and the widths of all rules.
use Rattle.std.proofs.Common.{◌≡◌, ℕ, ◌+◌, ◌<◌, ◌≤◌, List, [], ◌∷◌, ◌++◌, length, get_or, arith, refl, sym, ◌∙◌, subst, inl, inr}
use Rattle.std.proofs.lemmas.Bool.{cases_lt}
use Rattle.std.proofs.lemmas.List.{get_or_append_left, get_or_at, length-append}
use Rattle.freq_range.specs.declared.rule.Rule.{Rule}
use Rattle.rule_tables.specs.Width.{IsTouchingRun, IsRunStart, IsRunEnd, IsAllowedWidth, AreAllowedWidths}
use Rattle.rule_tables.specs.inner.Runs.{IsRunOf}
use Rattle.rule_tables.specs.declared.run_widths.Run.{Run}

-- ---- runs

-- a run that begins with its rule, where no rule before reaches it
starts_here : (rules : List Rule) (k : ℕ) → ((i : ℕ) → i < k → IsTouchingRun rules i k → ⊥) → IsRunStart rules k k
starts_here rules k none = record {
  within = omega arith;
  run = λ i low high. absurd (omega (arith, low, high));
  least = none;
}

pub run_at_front : (rules : List Rule) (k : ℕ) (run : Run) → k ≡ 0 → run.first ≡ k → IsRunEnd rules k run.last → IsRunOf rules k run
run_at_front rules k run front at ends = record {
  starts = subst (IsRunStart rules k) (sym at) (starts_here rules k (λ i less touching. omega (arith, less, front)));
  ends = ends;
}

-- the next rule is in the run
pub run_goes_on : (rules : List Rule) (j k : ℕ) (run : Run) → k ≡ j + 1 → IsRunOf rules j run → k ≤ run.last → IsRunOf rules k run
run_goes_on rules j k run next is within = record {
  starts = record {
    within = let low = is.starts.within in omega (arith, low, next);
    run = λ i low high. elim (cases_lt i j) [
      | inl before ↦ is.starts.run i low before
      | inr past ↦ is.ends.run i past (omega (arith, high, within))
    ];
    least = λ i less touching. is.starts.least i less (λ n from to. touching n from (omega (arith, to, next)));
  };
  ends = record {
    within = within;
    in_range = is.ends.in_range;
    run = λ i low high. is.ends.run i (omega (arith, low, next)) high;
    greatest = λ i more in_range touching. is.ends.greatest i more in_range (λ n from to. elim (cases_lt n k) [
      | inl before ↦ is.ends.run n from (omega (arith, before, within))
      | inr past ↦ touching n past to
    ]);
  };
}

-- the next rule begins a run
pub run_begins : (rules : List Rule) (j k : ℕ) (old run : Run) → k ≡ j + 1 → IsRunOf rules j old → (k ≤ old.last → ⊥) → k < length rules → run.first ≡ k → IsRunEnd rules k run.last
    → IsRunOf rules k run
run_begins rules j k old run next is past below at ends = record {
  starts = subst (IsRunStart rules k) (sym at) (starts_here rules k (λ i less touching. is.ends.greatest k (ended k past) below
      (λ n from to. touching n (omega (arith, from, less, next)) to)));
  ends = ends;
}
  where
    ended : (n : ℕ) → (n ≤ old.last → ⊥) → old.last < n
    ended n not = elim (cases_lt old.last n) [ inl less ↦ less | inr upto ↦ absurd (not upto) ]

-- ---- widths

-- for each of the first n rules the width that it allows
pub record AreFirstWidths (rules : List Rule) (n : ℕ) (widths : List ℕ) : Type 0 where
  pub count : length widths ≡ n
  pub each : (k : ℕ) → k < n → IsAllowedWidth rules k (get_or widths k 0)

pub widths_none : (rules : List Rule) → AreFirstWidths rules 0 []
widths_none rules = record { count = refl; each = λ k below. absurd (omega (arith, below)) }

pub widths_push : (rules : List Rule) (n : ℕ) (widths : List ℕ) (width : ℕ) → AreFirstWidths rules n widths → IsAllowedWidth rules n width → AreFirstWidths rules (n + 1) (widths ++ width ∷ [])
widths_push rules n widths width are is = record {
  count = let len = length-append widths (width ∷ []) in let count = are.count in omega (arith, len, count);
  each = λ k below. elim (cases_lt k n) [
    | inl before ↦ subst (IsAllowedWidth rules k) (sym (get_or_append_left widths (width ∷ []) 0 k (let count = are.count in omega (arith, before, count)))) (are.each k before)
    | inr past ↦
        let same : n ≡ k = omega (arith, past, below) in
        subst (IsAllowedWidth rules k) (sym (get_or_at widths width [] 0 k (are.count ∙ same))) (subst (λ i. IsAllowedWidth rules i width) same is)
  ];
}

pub widths_all : (rules : List Rule) (n : ℕ) (widths : List ℕ) → n ≡ length rules → AreFirstWidths rules n widths → AreAllowedWidths rules widths
widths_all rules n widths whole are = record {
  count = are.count ∙ whole;
  each = λ k below. are.each k (omega (arith, below, whole));
}
