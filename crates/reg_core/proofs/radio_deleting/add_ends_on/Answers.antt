use Rattle.std.proofs.Common.{arith}
use Rattle.reg_core.proofs.Removed.{ends_more, ends_on_all, few_among, few_ends}
use Rattle.reg_core.proofs.SweepPlaces.{at_place_in}
use Rattle.reg_core.proofs.radio_deleting.add_ends_on.Goals as goal

pub loop-interface-init : goal.loop-interface-init
loop-interface-init c = λ db J are. c.requires.empty

pub add_end_on-requires : goal.add_end_on-requires
add_end_on-requires c =
    let some = c.requires.parts in
    let ends = few_ends some.journal _ c.loop-interface.changes (c.loop-interface.invariant some.db some.journal some.parts) in
    let few = few_among some.db some.journal c.args.number c.loop-interface.interface-index some.parts.due in
    record { room = omega (arith, ends, few) }

pub loop-interface-preserved : goal.loop-interface-preserved
loop-interface-preserved c = λ db J are.
    let at = at_place_in J c.loop-interface.interface-index c.interface-item.result c.args.interfaces.now are.interfaces_are c.loop-interface-test.true c.interface-item.is in
    ends_more J c.args.number c.loop-interface.interface-index at.iface c.loop-interface.changes c.add_end_on.new.changes at.here (c.loop-interface.invariant db J are)
    (c.add_end_on.ensures.added db J at.iface are.due are.radio_is at.there at.is)

pub returns : goal.returns
returns c = record {
  added = λ db J are.
      ends_on_all J c.args.interfaces.now c.args.number c.loop-interface.interface-index c.loop-interface.changes are.interfaces_are c.loop-interface-test.false
      (c.loop-interface.invariant db J are);
}
