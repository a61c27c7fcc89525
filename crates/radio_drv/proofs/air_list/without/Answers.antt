use Rattle.std.proofs.Common.{length, take, ap, arith}
use Rattle.std.proofs.lemmas.List.{length-take}
use Rattle.radio_drv.proofs.Lists.{stopped_few}
use Rattle.radio_drv.proofs.air_list.without.Goals as goal

pub push-requires : goal.push-requires
push-requires c =
    let few = ap length c.loop-entry.invariant in
    let kept = stopped_few c.args.iface (take c.loop-entry.entry-index c.args.air.now) in
    omega (arith, few, kept, length-take c.loop-entry.entry-index c.args.air.now)
