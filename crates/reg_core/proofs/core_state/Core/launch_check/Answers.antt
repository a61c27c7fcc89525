use Rattle.reg_core.proofs.CheckReasons.{begins_done, check_falls}
use Rattle.core_parts.proofs.Named.{driver_for}
use Rattle.reg_core.proofs.core_state.Core.launch_check.Goals as goal

pub begin_check-requires-clause-there : goal.begin_check-requires-clause-there
begin_check-requires-clause-there g c =
    let ready = c.requires.ready in
    let has = c.in-Ok.ensures.check ready.db ready.journal ready.stands.keeps in
    driver_for ready.db ready.journal has.iface c.args.name.now c.in-Ok.found.0 _ ready.stands.keeps.due ready.driven has.is_named has.interface_is

pub returns-in-Ok-begin_check : goal.returns-in-Ok-begin_check
returns-in-Ok-begin_check g c = record {
  check = λ db J s.
      begins_done db J c.args.name.now c.args.chan.now c.in-Ok.found.0 c.in-Ok.found.1 c.args.self.now c.keep_check.new.self _ _ s (c.in-Ok.ensures.check db J s.keeps)
      (λ x s is due. c.keep_check.ensures.kept db J x s is due) c.in-Ok-begin_check.ensures.told;
}

pub returns-in-Err-begin_check : goal.returns-in-Err-begin_check
returns-in-Err-begin_check g c = record {
  check = λ db J s.
      check_falls db J c.args.name.now c.args.chan.now c.in-Ok.found.0 c.in-Ok.found.1 c.args.self.now _ _ (c.in-Ok.ensures.check db J s.keeps) c.in-Err-begin_check.ensures.told;
}
