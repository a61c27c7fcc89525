use Rattle.std.proofs.Common.{ℕ, get_or, below_more, arith}
use Rattle.chan_def.specs.Covered.{IsInside}
use Rattle.chan_def.proofs.Blocks.{none_inside}
use Rattle.std.proofs.lemmas.Bool.{iff_false}
use Rattle.chan_def.proofs.iw_word.block_round.Goals as goal

pub loop-block-preserved : goal.loop-block-preserved
loop-block-preserved c =
    below_more (λ (k : ℕ). IsInside c.args.width_khz (get_or c.args.blocks.now k 0) c.args.control_khz → ⊥) c.loop-block.block-index
    c.loop-block.invariant
    (iff_false c.is_inside.ensures c.if-is_inside.false)

pub returns-clause-covering : goal.returns-clause-covering
returns-clause-covering c = none_inside _ _ _ (λ k below. c.loop-block.invariant k (omega (arith, c.loop-block-test.false, below)))
