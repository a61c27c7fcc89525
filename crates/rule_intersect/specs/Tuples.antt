-- One rule of each domain of a list, and the row that joins them.
use Rattle.std.specs.Prelude.{◌≡◌, ℕ, ◌*◌, ◌<◌, ◌==◌, ◌⊎◌, max, min, List, [], ◌∷◌, slice_get, Some, if◌then◌else◌}
use Rattle.std.specs.List.{AllZip}
use Rattle.freq_range.specs.Flags.{joined_flags_by}
use Rattle.freq_range.specs.declared.rule.Rule.{Rule}
use Rattle.rule_tables.specs.Width.{IsAllowedWidth}
use Rattle.rule_tables.specs.declared.domain.Domain.{Domain}
use Rattle.rule_intersect.specs.declared.row.Row.{Row}
use Rattle.rule_intersect.specs.declared.row.TheConstants.{LEAST_CHECK_MS}

-- a rule that is taken of a domain: its number, counted from 0, the rule itself, and the width in kHz that it allows
pub record Choice : Type 0 where
  pub number : ℕ
  pub rule : Rule
  pub width_khz : ℕ

-- a rule with its place in the list, and the width that it allows
pub record IsChoice (rules : List Rule) (c : Choice) : Type 0 where
  pub rule : slice_get rules c.number ≡ Some c.rule
  pub width : IsAllowedWidth rules c.number c.width_khz

-- one rule of each domain, in the domains' order
abbrev pub IsTuple : List Domain → List Choice → Type 0
IsTuple ds t = AllZip (λ d c. IsChoice d.rules c) ds t

-- tuples are ordered by their rule numbers, and the first domain's number counts first
abbrev pub IsBefore : List Choice → List Choice → Type 0
IsBefore [] s = ⊥
IsBefore (c ∷ t) [] = ⊥
IsBefore (c ∷ t) (e ∷ s) = (c.number < e.number) ⊎ ((c.number ≡ e.number) × IsBefore t s)

-- how long, in ms, a channel is checked for radar under the rule (CAC, channel availability check): the least time where the
-- rule doesn't say, and not at all
-- without DFS
abbrev pub check_ms : Rule → ℕ
check_ms r = if r.flags.dfs then (if r.cac_s == 0 then LEAST_CHECK_MS else r.cac_s * 1000) else 0

-- the greatest value over the list, and 0 for none
abbrev pub greatest_by : {X : Type 0} → (X → ℕ) → List X → ℕ
greatest_by f [] = 0
greatest_by f (x ∷ xs) = max (f x) (greatest_by f xs)

-- the least value over the list
abbrev pub least_by : {X : Type 0} → (X → ℕ) → List X → ℕ
least_by f [] = 0
least_by f (x ∷ []) = f x
least_by f (x ∷ y ∷ ys) = min (f x) (least_by f (y ∷ ys))

-- The row of a tuple: the common range of its rules, and what all of them allow there. The widths are those that the rules
-- allow in their own domains, and are not cut to the common range.
abbrev pub row_of : List Choice → Row
row_of t = record {
  start_khz = greatest_by (λ c. c.rule.start_khz) t;
  end_khz = least_by (λ c. c.rule.end_khz) t;
  width_khz = least_by (λ c. c.width_khz) t;
  flags = joined_flags_by (λ c. c.rule.flags) t;
  eirp_mbm = least_by (λ c. c.rule.eirp_mbm) t;
  cac_ms = greatest_by (λ c. c.rule.cac_s * 1000) t;
  check_ms = greatest_by (λ c. check_ms c.rule) t;
}

-- the rules of a tuple have a common range: the greatest start is below the least end
abbrev pub HasCommonRange : List Choice → Type 0
HasCommonRange t = greatest_by (λ c. c.rule.start_khz) t < least_by (λ c. c.rule.end_khz) t
