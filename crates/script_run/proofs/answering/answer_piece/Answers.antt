use Rattle.std.proofs.Common.{◌≡◌, drop, subst, sym, arith}
use Rattle.db_commands.specs.Devices.{around, driven}
use Rattle.script_run.specs.inner.Turns.{IsReadSoFar}
use Rattle.script_run.proofs.Taking.{first_taken, halts_first, handed_on, none_kept, takes_front}
use Rattle.script_run.proofs.answering.answer_piece.Goals as goal

pub returns-then-count-gt0-clause-answered : goal.returns-then-count-gt0-clause-answered
returns-then-count-gt0-clause-answered g c = λ db taken before heard so.
    takes_front db taken c.args.piece.now c.append-count.result c.args.cutter.now c.append-count.new.self before (g.K.Sink.held c.args.out.now) c.args.core.now heard (g.D.DriverRow.seen c.args.drivers.now)
    c.append-count.ensures.within c.append-count.ensures.before c.append-count.ensures.kept so

pub returns-in_err-answer_byte-clause-halted : goal.returns-in_err-answer_byte-clause-halted
returns-in_err-answer_byte-clause-halted g c =
    let none : c.append-count.result ≡ 0 = omega (arith, c.if-count-gt0.false) in
    handed_on c.from_residual.result c.in_err-answer_byte.field-0.0 _ c.from_residual.ensures.1 (λ db taken before heard n m so.
    halts_first db taken c.args.piece.now (around before (g.K.Sink.held c.answer_byte.new.out) n m) (driven heard (g.D.DriverRow.seen c.answer_byte.new.drivers)) _ c.requires.some
    (c.in_err-answer_byte.ensures.halted db taken (drop 1 c.args.piece.now) before heard n m
    (subst (λ cutter. IsReadSoFar db taken cutter before (g.K.Sink.held c.args.out.now) c.args.core.now heard (g.D.DriverRow.seen c.args.drivers.now))
    (sym (none_kept c.args.cutter.now c.append-count.new.self c.args.piece.now c.append-count.result none c.append-count.ensures.kept)) so)))

pub returns-clause-answered : goal.returns-clause-answered
returns-clause-answered g c =
    let none : c.append-count.result ≡ 0 = omega (arith, c.if-count-gt0.false) in λ db taken before heard so.
    subst (λ bytes. IsReadSoFar db bytes c.answer_byte.new.cutter before (g.K.Sink.held c.answer_byte.new.out) c.answer_byte.new.core heard (g.D.DriverRow.seen c.answer_byte.new.drivers))
    (first_taken taken c.args.piece.now c.requires.some)
    (c.in_ok-answer_byte.ensures.answered db taken before heard
    (subst (λ cutter. IsReadSoFar db taken cutter before (g.K.Sink.held c.args.out.now) c.args.core.now heard (g.D.DriverRow.seen c.args.drivers.now))
    (sym (none_kept c.args.cutter.now c.append-count.new.self c.args.piece.now c.append-count.result none c.append-count.ensures.kept)) so))
