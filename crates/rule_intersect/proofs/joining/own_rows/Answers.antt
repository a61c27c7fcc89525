use Rattle.rule_intersect.proofs.OwnRows.{AreOwnRows-next}
use Rattle.rule_intersect.proofs.joining.own_rows.Goals as goal

pub loop-k-preserved : goal.loop-k-preserved
loop-k-preserved c = rw c.in_ok-push.ensures.items
    (AreOwnRows-next _ _ _ _ _ _ c.loop-k-test.true c.width_among.ensures.width (c.of_rule.ensures.row c.loop-k.k) c.loop-k.invariant)
