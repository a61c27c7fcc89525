use Rattle.db_commands.specs.Devices.{around, driven}
use Rattle.script_run.proofs.Taking.{last_answered, last_halts, last_none, map_err, map_ok, not_empty}
use Rattle.script_run.proofs.reading.answer_last.Goals as goal

pub returns-then-is_empty-clause-answered : goal.returns-then-is_empty-clause-answered
returns-then-is_empty-clause-answered g c = λ db script before heard n m so.
    last_none db script c.args.cutter.now c.line.result (around before (g.K.Sink.held c.args.out.now) n m) (driven heard (g.D.DriverRow.seen c.args.drivers.now)) c.args.core.now
    c.line.ensures.cut (λ this is. (c.is_empty.ensures.empty this is).0 c.if-is_empty.true) so

pub returns-clause-answered : goal.returns-clause-answered
returns-clause-answered g c = map_ok c.answer_line.result _ _ (λ answered db script before heard n m so.
    last_answered db script c.args.cutter.now c.line.result c.line-2.result (g.K.Sink.held c.args.out.now) (around before (g.K.Sink.held c.answer_line.new.out) n m)
    (driven heard (g.D.DriverRow.seen c.answer_line.new.drivers)) c.args.core.now c.answer_line.new.core (g.D.DriverRow.seen c.args.drivers.now)
    c.line.ensures.cut (λ this is none. not_empty _ ((c.is_empty.ensures.empty this is).1 none) c.if-is_empty.false)
    c.line-2.ensures.cut (λ lines this is. answered db lines this before heard is) so) c.answer_line.ensures.answered

pub returns-clause-halted : goal.returns-clause-halted
returns-clause-halted g c = map_err c.answer_line.result _ _ (λ halt stops db script before heard n m so.
    last_halts db script c.args.cutter.now c.line.result c.line-2.result (g.K.Sink.held c.args.out.now) (around before (g.K.Sink.held c.answer_line.new.out) n m)
    (driven heard (g.D.DriverRow.seen c.answer_line.new.drivers)) halt c.args.core.now (g.D.DriverRow.seen c.args.drivers.now)
    c.line.ensures.cut (λ this is none. not_empty _ ((c.is_empty.ensures.empty this is).1 none) c.if-is_empty.false)
    c.line-2.ensures.cut (λ lines this rest is. stops db lines this rest before heard n m is) so) c.answer_line.ensures.halted
