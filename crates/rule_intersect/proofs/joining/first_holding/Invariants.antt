use Rattle.std.proofs.Common.{ℕ, ◌<◌, slice_index_or}
use Rattle.rule_intersect.specs.Subchannels.{RowHolds}
use Rattle.rule_intersect.specs.declared.row.Row.{Row}
use Rattle.rule_intersect.proofs.joining.first_holding.Given as goal

abbrev pub invariant-loop-k : goal.invariant-loop-k
invariant-loop-k l = (k : ℕ) (d : Row) → k < l.k → RowHolds l.centre_khz (slice_index_or l.rows k d) → ⊥
