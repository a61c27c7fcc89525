use Rattle.db_commands.specs.Devices.{around, driven}
use Rattle.script_run.proofs.Turning.{goes_on, stops_between, stops_within}
use Rattle.script_run.proofs.answering.answer_line.Goals as goal

pub returns-then-is_err-clause-halted : goal.returns-then-is_err-clause-halted
returns-then-is_err-clause-halted g c = λ db lines this rest before heard n m is so.
    stops_between c.answer_cut.result db lines this rest c.args.line (around before (g.K.Sink.held c.args.out.now) n m) (driven heard (g.D.DriverRow.seen c.answer_cut.new.drivers))
    c.args.core.now c.answer_cut.new.core (g.D.DriverRow.seen c.args.drivers.now) c.if-is_err.ensures.value c.answer_cut.ensures.stopped is so

pub returns-then-is_err-2-clause-halted : goal.returns-then-is_err-2-clause-halted
returns-then-is_err-2-clause-halted g c = λ db lines this rest before heard n m is so.
    stops_within c.answer_cut.result c.write_text.result db lines this rest _ _ c.args.line (around before (g.K.Sink.held c.write_text.new.out) n m) (g.K.Sink.held c.args.out.now)
    (driven heard (g.D.DriverRow.seen c.answer_cut.new.drivers)) c.args.core.now c.answer_cut.new.core (g.D.DriverRow.seen c.args.drivers.now)
    c.if-is_err.ensures.value c.if-is_err-2.ensures.value c.as_slice.ensures.items c.answer_cut.ensures.answered c.write_text.ensures.bytes is so

pub returns-clause-answered : goal.returns-clause-answered
returns-clause-answered g c = λ db lines this before heard is so.
    goes_on c.answer_cut.result c.write_text.result db lines this _ _ c.args.line before (g.K.Sink.held c.args.out.now) (g.K.Sink.held c.write_text.new.out)
    c.args.core.now c.answer_cut.new.core heard (g.D.DriverRow.seen c.args.drivers.now) (g.D.DriverRow.seen c.answer_cut.new.drivers)
    c.if-is_err.ensures.value c.if-is_err-2.ensures.value c.as_slice.ensures.items c.answer_cut.ensures.answered c.write_text.ensures.bytes is so
