use Rattle.std.proofs.Common.{refl}
use Rattle.reg_core.proofs.CheckReasons.{check_barred, check_on_bad_channel, check_where_barred, has_checkable, judged_at_check}
use Rattle.reg_core.proofs.core_state.Core.checkable.Goals as goal

pub returns-in-Ok : goal.returns-in-Ok
returns-in-Ok c = record {
  check = λ db J s.
      let rests = c.in_ok-interface.ensures.free db J s in
      let judged = c.in-Ok.ensures db J rests.iface (judged_at_check db J c.args.name.now c.in_ok-interface.interface.now c.in_ok-interface.radio.now c.args.self.now c.as_slice.result.now s rests c.as_slice.ensures.items) rests.sends in
      has_checkable db J c.args.name.now c.args.chan.now c.in_ok-interface.interface.now c.in_ok-interface.radio.now c.in-Ok.length_ms rests (c.if-not-valid.ensures.valid.0 refl) judged.0 judged.1;
}

pub returns-in-Err : goal.returns-in-Err
returns-in-Err c = record {
  check = λ db J s failed.
      let rests = c.in_ok-interface.ensures.free db J s in
      check_barred db J c.args.name.now c.args.chan.now failed rests.iface c.in-Err.refusal rests.is_named
      (check_where_barred db J c.args.chan.now failed rests.iface c.in-Err.refusal rests.sends rests.rests (c.if-not-valid.ensures.valid.0 refl)
      (c.in-Err.ensures db J rests.iface (judged_at_check db J c.args.name.now c.in_ok-interface.interface.now c.in_ok-interface.radio.now c.args.self.now c.as_slice.result.now s rests c.as_slice.ensures.items) rests.sends));
}
