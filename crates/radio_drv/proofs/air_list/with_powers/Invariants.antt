use Rattle.std.proofs.Common.{◌≡◌, take}
use Rattle.radio_drv.specs.Air.{powered}
use Rattle.radio_drv.proofs.air_list.with_powers.Given as goal

abbrev pub invariant-loop-entry : goal.invariant-loop-entry
invariant-loop-entry l = l.list ≡ powered l.iface l.power_mbm (take l.entry-index l.air)
