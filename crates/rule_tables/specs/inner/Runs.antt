-- The run of touching rules that has a rule, by its first and its last rule.
use Rattle.std.specs.Prelude.{◌≡◌, ℕ, ◌+◌, List, Option, Some, None}
use Rattle.freq_range.specs.declared.rule.Rule.{Rule}
use Rattle.rule_tables.specs.Width.{IsRunStart, IsRunEnd}
use Rattle.rule_tables.specs.declared.run_widths.Run.{Run}

-- the run that has rule k
pub record IsRunOf (rules : List Rule) (k : ℕ) (run : Run) : Type 0 where
  pub starts : IsRunStart rules k run.first
  pub ends : IsRunEnd rules k run.last

-- the run that has the rule before rule k, or none where no rule is before it
abbrev pub IsRunBefore : List Rule → ℕ → Option Run → Type 0
IsRunBefore rules k None = k ≡ 0
IsRunBefore rules k (Some run) = (j : ℕ) × (k ≡ j + 1) × IsRunOf rules j run
