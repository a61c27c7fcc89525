use Rattle.reg_core.proofs.StartReasons.{start_barred, start_where_barred}
use Rattle.reg_core.proofs.StartsDone.{has_start, is_judged}
use Rattle.std.proofs.Common.{refl}
use Rattle.reg_core.proofs.core_state.Core.startable.Goals as goal

pub returns-in-Ok : goal.returns-in-Ok
returns-in-Ok c = record {
  start = λ db J s.
      let rests = c.in_ok-interface.ensures.free db J s in
      has_start db J c.args.name.now c.args.kind c.args.chan.now c.in_ok-interface.interface.now c.in_ok-interface.radio.now c.in-Ok.power_mbm rests
      (c.in-Ok.ensures db J rests.iface (is_judged db J c.args.name.now c.args.kind c.in_ok-interface.interface.now c.in_ok-interface.radio.now c.args.self.now c.as_slice.result.now s rests c.as_slice.ensures.items));
}

pub returns-in-Err : goal.returns-in-Err
returns-in-Err c = record {
  start = λ db J s failed.
      let rests = c.in_ok-interface.ensures.free db J s in
      start_barred db J c.args.name.now c.args.kind c.args.chan.now failed rests.iface c.in-Err.refusal rests.is_named
      (start_where_barred db J c.args.kind c.args.chan.now failed rests.iface c.in-Err.refusal rests.startable (c.if-not-valid.ensures.valid.0 refl)
      (c.in-Err.ensures db J rests.iface (is_judged db J c.args.name.now c.args.kind c.in_ok-interface.interface.now c.in_ok-interface.radio.now c.args.self.now c.as_slice.result.now s rests c.as_slice.ensures.items)));
}
