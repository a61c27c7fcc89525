use Rattle.std.proofs.Common.{refl}
use Rattle.db_lint.proofs.Leasts.{firsts_all, firsts_past, firsts_set}
use Rattle.db_lint.proofs.least.leasts_governed.Goals as goal
use Rattle.db_lint.proofs.least.leasts_governed.Goals.{in-Some, in_default}

pub loop-khz-preserved : goal.loop-khz-preserved
loop-khz-preserved c = elim c.match-governing.branch [
  | in-Some w ↦ rw w.leasts-is (firsts_set c.args.domain.now.rules c.args.channels.now c.loop-khz.khz-index _ w.in-Some.k c.loop-khz.leasts.items w.index.result.now w.or.result refl
      w.in-Some.ensures w.index.ensures w.or.ensures c.loop-khz.invariant)
  | in_default w ↦ rw w.leasts-is (firsts_past c.args.domain.now.rules c.args.channels.now c.loop-khz.khz-index _ c.loop-khz.leasts.items refl w.in_default.ensures c.loop-khz.invariant)
]

pub returns : goal.returns
returns c = record {
  leasts = firsts_all c.args.domain.now.rules c.args.channels.now c.loop-khz.khz-index c.loop-khz.leasts.items c.requires.channels c.loop-khz.auto.khz-index-end c.loop-khz-test.false c.loop-khz.invariant;
}
