use Rattle.std.proofs.Common.{◌≡◌, take}
use Rattle.radio_drv.specs.Air.{stopped}
use Rattle.radio_drv.proofs.air_list.without.Given as goal

abbrev pub invariant-loop-entry : goal.invariant-loop-entry
invariant-loop-entry l = l.others ≡ stopped l.iface (take l.entry-index l.air)
