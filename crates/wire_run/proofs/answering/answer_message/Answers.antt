use Rattle.db_commands.specs.Devices.{around, driven}
use Rattle.wire_run.proofs.Turning.{answered_on, halts_unanswered, halts_unwritten}
use Rattle.wire_run.proofs.answering.answer_message.Goals as goal

pub returns-then-is_err-clause-halted : goal.returns-then-is_err-clause-halted
returns-then-is_err-clause-halted g c = λ db messages before heard n m so.
    halts_unanswered c.put_answer.result db messages c.args.message.now (around before (g.K.Sink.held c.args.out.now) n m) (driven heard (g.D.DriverRow.seen c.put_answer.new.drivers))
    c.args.core.now c.put_answer.new.core (g.D.DriverRow.seen c.args.drivers.now) c.if-is_err.ensures.value c.put_answer.ensures.stopped so

pub returns-then-is_err-2-clause-halted : goal.returns-then-is_err-2-clause-halted
returns-then-is_err-2-clause-halted g c = λ db messages before heard n m so.
    halts_unwritten c.put_answer.result c.write_all.result db messages c.args.message.now c.put_answer.new.text c.as_slice.result.now (around before (g.K.Sink.held c.write_all.new.self) n m) (g.K.Sink.held c.args.out.now)
    (driven heard (g.D.DriverRow.seen c.put_answer.new.drivers)) c.args.core.now c.put_answer.new.core (g.D.DriverRow.seen c.args.drivers.now)
    c.if-is_err.ensures.value c.if-is_err-2.ensures.value c.as_slice.ensures.items c.put_answer.ensures.answered c.write_all.ensures.bytes so

pub returns-clause-answered : goal.returns-clause-answered
returns-clause-answered g c = λ db messages before heard so.
    answered_on c.put_answer.result c.write_all.result db messages c.args.message.now c.put_answer.new.text c.as_slice.result.now before (g.K.Sink.held c.args.out.now) (g.K.Sink.held c.write_all.new.self)
    c.args.core.now c.put_answer.new.core heard (g.D.DriverRow.seen c.args.drivers.now) (g.D.DriverRow.seen c.put_answer.new.drivers)
    c.if-is_err.ensures.value c.if-is_err-2.ensures.value c.as_slice.ensures.items c.put_answer.ensures.answered c.write_all.ensures.bytes so
