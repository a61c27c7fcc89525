use Rattle.std.proofs.Common.{◌≡◌, ℕ, ◌<◌, slice_index_or}
use Rattle.freq_range.specs.declared.rule.Rule.{Rule}
use Rattle.db_text.proofs.printer.first_time_among.Given as goal

abbrev pub invariant-loop-k : goal.invariant-loop-k
invariant-loop-k l = (j : ℕ) (r : Rule) → j < l.k → (slice_index_or l.rules j r).cac_s ≡ 0
