use Rattle.core_parts.proofs.EffectLists.{effects_more}
use Rattle.core_parts.proofs.change.effects_of.Goals as goal

pub loop-change-preserved : goal.loop-change-preserved
loop-change-preserved c =
    let more = effects_more c.args.changes.now c.loop-change.change-index c.change-item.result c.loop-change.effects c.add_effect.new.effects c.loop-change-test.true c.change-item.is
    c.loop-change.invariant.so_far c.loop-change.invariant.few c.add_effect.ensures in
    record { few = more.0; so_far = more.1 }
