use Rattle.std.proofs.Common.{refl}
use Rattle.reg_core.proofs.StartsDone.{falls_done, start_has_room, starts_done}
use Rattle.reg_core.proofs.core_state.Core.begin_operation.Goals as goal

pub start-requires-clause-room : goal.start-requires-clause-room
start-requires-clause-room g c =
    let ready = c.requires.ready in
    start_has_room ready.db ready.journal c.args.name.now c.args.kind c.args.chan.now c.in-Ok.found.0 c.in-Ok.found.1 _ ready.stands.keeps.due ready.driven
    (c.in-Ok.ensures.start ready.db ready.journal ready.stands.keeps)

pub returns-in-Ok-start : goal.returns-in-Ok-start
returns-in-Ok-start g c = record {
  start = λ db J s.
      starts_done db J c.args.name.now c.args.kind c.args.chan.now c.in-Ok.found.0 c.in-Ok.found.1 c.args.self.now c.operate.new.self _ _ s
      (c.in-Ok.ensures.start db J s) (λ x s is due. c.operate.ensures.kept db J x _ s is refl due) c.in-Ok-start.ensures.told;
}

pub returns-in-Err-start : goal.returns-in-Err-start
returns-in-Err-start g c = record {
  start = λ db J s.
      falls_done db J c.args.name.now c.args.kind c.args.chan.now c.in-Ok.found.0 c.in-Ok.found.1 c.args.self.now _ _ (c.in-Ok.ensures.start db J s) c.in-Err-start.ensures.told;
}
