use Rattle.std.proofs.Common.{sym}
use Rattle.db_commands.specs.Devices.{around, driven}
use Rattle.script_run.proofs.Taking.{halts_line, map_err, map_ok, takes_byte, takes_line}
use Rattle.script_run.proofs.answering.answer_byte.Goals as goal

pub returns-then-not-push-clause-answered : goal.returns-then-not-push-clause-answered
returns-then-not-push-clause-answered g c = λ db taken before heard so.
    takes_byte db taken c.args.byte c.args.cutter.now c.push.new.self before (g.K.Sink.held c.args.out.now) c.args.core.now heard (g.D.DriverRow.seen c.args.drivers.now)
    (sym c.if-not-push.ensures.newline) c.push.ensures.pushed so

pub returns-clause-answered : goal.returns-clause-answered
returns-clause-answered g c = map_ok c.answer_line-answered.result _ _ (λ answered db taken before heard so.
    takes_line db taken c.args.byte c.args.cutter.now c.push.new.self c.clear.new.self c.line.result before (g.K.Sink.held c.args.out.now) (g.K.Sink.held c.answer_line-answered.new.out)
    c.args.core.now c.answer_line-answered.new.core heard (g.D.DriverRow.seen c.args.drivers.now) (g.D.DriverRow.seen c.answer_line-answered.new.drivers)
    (sym c.if-not-push.ensures.newline) c.push.ensures.pushed c.line.ensures.cut c.clear.ensures.«open» (λ lines this is. answered db lines this before heard is) so) c.answer_line-answered.ensures.answered

pub returns-clause-halted : goal.returns-clause-halted
returns-clause-halted g c = map_err c.answer_line-answered.result _ _ (λ halt stops db taken more before heard n m so.
    halts_line db taken c.args.byte more c.args.cutter.now c.push.new.self c.line.result (g.K.Sink.held c.args.out.now) (around before (g.K.Sink.held c.answer_line-answered.new.out) n m)
    (driven heard (g.D.DriverRow.seen c.answer_line-answered.new.drivers)) halt c.args.core.now (g.D.DriverRow.seen c.args.drivers.now)
    (sym c.if-not-push.ensures.newline) c.push.ensures.pushed c.line.ensures.cut (λ lines this rest is. stops db lines this rest before heard n m is) so) c.answer_line-answered.ensures.halted
