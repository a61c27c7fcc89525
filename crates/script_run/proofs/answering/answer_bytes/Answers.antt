use Rattle.std.proofs.Common.{◌++◌, ◌≤◌, length, le_trans, subst, take, arith}
use Rattle.db_commands.specs.Devices.{around, driven}
use Rattle.script_run.specs.inner.Turns.{HaltsAmong, IsReadSoFar}
use Rattle.script_run.proofs.Taking.{bytes_all, bytes_on, bytes_rest, handed_on, on_within}
use Rattle.script_run.proofs.answering.answer_bytes.Goals as goal

pub returns-in_err-place-clause-halted : goal.returns-in_err-place-clause-halted
returns-in_err-place-clause-halted g c = handed_on c.from_residual.result c.in_err-place.field-0.0 _ c.from_residual.ensures.1 (λ db taken before heard n m so.
    subst (λ bytes. HaltsAmong db bytes (around before (g.K.Sink.held c.answer_piece.new.out) n m) (driven heard (g.D.DriverRow.seen c.answer_piece.new.drivers)) c.in_err-place.field-0.0)
    (bytes_rest taken c.args.bytes.now c.pieces.place)
    (c.in_err-place.ensures.halted db (taken ++ take c.pieces.place c.args.bytes.now) before heard n m (c.pieces.invariant.so_far db taken before heard so)))

pub pieces-preserved : goal.pieces-preserved
pieces-preserved g c = record {
  within = on_within c.args.bytes.now c.pieces.place _ c.pieces.invariant.within c.in_ok-place.ensures.within;
  ready = c.answer_piece.ensures.ready;
  later = le_trans c.pieces.invariant.later c.answer_piece.ensures.later;
  unended = c.answer_piece.ensures.unended;
  so_far = λ db taken before heard so.
      subst (λ bytes. IsReadSoFar db bytes c.answer_piece.new.cutter before (g.K.Sink.held c.answer_piece.new.out) c.answer_piece.new.core heard (g.D.DriverRow.seen c.answer_piece.new.drivers))
      (bytes_on taken c.args.bytes.now c.pieces.place _)
      (c.in_ok-place.ensures.answered db (taken ++ take c.pieces.place c.args.bytes.now) before heard (c.pieces.invariant.so_far db taken before heard so));
}

pub returns-clause-answered : goal.returns-clause-answered
returns-clause-answered g c = λ db taken before heard so.
    let past : length c.args.bytes.now ≤ c.pieces.place = omega (arith, c.pieces-test.false) in
    subst (λ bytes. IsReadSoFar db bytes c.pieces.cutter before (g.K.Sink.held c.pieces.out) c.pieces.core heard (g.D.DriverRow.seen c.pieces.drivers))
    (bytes_all taken c.args.bytes.now c.pieces.place past) (c.pieces.invariant.so_far db taken before heard so)
