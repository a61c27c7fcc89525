use Rattle.std.proofs.Common.{ℕ, ◌<◌, slice_index_or}
use Rattle.freq_range.specs.declared.rule.Rule.{Rule}
use Rattle.rule_tables.specs.Governing.{RuleHolds}
use Rattle.rule_tables.proofs.govern.first_holding.Given as goal

abbrev pub invariant-loop-k : goal.invariant-loop-k
invariant-loop-k l = (k : ℕ) (d : Rule) → k < l.k → RuleHolds l.centre_khz (slice_index_or l.rules k d) → ⊥
