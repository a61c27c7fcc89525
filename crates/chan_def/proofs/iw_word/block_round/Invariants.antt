use Rattle.std.proofs.Common.{ℕ, ◌<◌, get_or}
use Rattle.chan_def.specs.Covered.{IsInside}
use Rattle.chan_def.proofs.iw_word.block_round.Given as goal

-- no block so far covers the control channel
abbrev pub invariant-loop-block : goal.invariant-loop-block
invariant-loop-block l = (k : ℕ) → k < l.block-index → IsInside l.width_khz (get_or l.blocks k 0) l.control_khz → ⊥
