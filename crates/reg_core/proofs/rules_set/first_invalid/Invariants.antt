use Rattle.std.proofs.Common.{ℕ, ◌<◌, slice_index_or}
use Rattle.freq_range.specs.Valid.{IsValidRule}
use Rattle.freq_range.specs.declared.rule.Rule.{Rule}
use Rattle.reg_core.proofs.rules_set.first_invalid.Given as goal

abbrev pub invariant-loop-k : goal.invariant-loop-k
invariant-loop-k l = (k : ℕ) (d : Rule) → k < l.k → IsValidRule (slice_index_or l.rules k d)
