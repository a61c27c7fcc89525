-- The least channel that one of the rules holds.
use Rattle.std.specs.Prelude.{◌≡◌, ℕ, List, Option, Some, slice_get}
use Rattle.freq_range.specs.declared.rule.Rule.{Rule}
use Rattle.rule_tables.specs.Governing.{RuleHolds}
use Rattle.db_lint.specs.Notes.{IsLeastChannel}

-- this is the least channel that one of the rules holds, or that rule holds none
abbrev pub HeldByOne : List Rule → Option ℕ → Type 0
HeldByOne rules held = (k : ℕ) × (rule : Rule) × (slice_get rules k ≡ Some rule) × IsLeastChannel (λ khz. RuleHolds khz rule) held
