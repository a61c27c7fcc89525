use Rattle.std.proofs.Common.{[], ◌++◌, ◌≡◌, ◌-◌, ◌∙◌, List, le_trans, min, refl, subst, sym, take, arith}
use Rattle.std.proofs.KnownBytes.{Consumes-nil}
use Rattle.std.specs.Io.KnownBytes.{Consumes, IsAtEnd}
use Rattle.rule_tables.specs.declared.domain.Domain.{Domain}
use Rattle.reg_core.specs.Kept.{StandsFor}
use Rattle.db_commands.specs.Devices.{around, driven}
use Rattle.core_runs.proofs.Drivers.{AreIdle-at}
use Rattle.script_run.specs.Run.{IsAnswering}
use Rattle.script_run.specs.inner.Turns.{HaltsAmong, IsReadSoFar}
use Rattle.script_run.proofs.Pieces.{cause_since, halts_among, halts_at_end, reads_none, reads_on, rose_since, stops_at_end, stops_at_fault, stops_at_limit, stops_at_once}
use Rattle.script_run.proofs.reading.answer_script.Goals.{in-Ok-answer_last, in-Err}
use Rattle.script_run.proofs.reading.answer_script.Goals as goal

pub returns-in_default-clause-answering : goal.returns-in_default-clause-answering
returns-in_default-clause-answering g c = λ db stands.
    stops_at_once db (around (g.S.Source.left c.args.input.now) (g.S.Source.left c.args.input.now) (g.S.Source.count c.args.input.now) (g.S.Source.count c.args.input.now))
    (around (g.K.Sink.held c.args.out.now) (g.K.Sink.held c.args.out.now) (g.K.Sink.count c.args.out.now) (g.K.Sink.count c.args.out.now))
    (driven (g.D.DriverRow.seen c.args.drivers.now) (g.D.DriverRow.seen c.args.drivers.now)) c.args.core.now refl refl refl
    (AreIdle-at db c.args.core.now (g.D.DriverRow.seen c.args.drivers.now) stands c.requires.idle)

pub reading-init : goal.reading-init
reading-init g c = record {
  ready = c.requires.ready;
  read_later = omega arith;
  written_later = omega arith;
  unended = rw c.in-Ok.ensures.open refl;
  so_far = (
    [],
    Consumes-nil (g.S.Source.left c.args.input.now),
    refl,
    λ db stands.
        reads_none db c.in-Ok.cutter (g.K.Sink.held c.args.out.now) c.args.core.now (g.D.DriverRow.seen c.args.drivers.now) c.in-Ok.ensures.open
        (AreIdle-at db c.args.core.now (g.D.DriverRow.seen c.args.drivers.now) stands c.requires.idle),
  );
}

pub returns-in_default-read-clause-answering : goal.returns-in_default-read-clause-answering
returns-in_default-read-clause-answering g c = λ db stands.
    let (taken, consumed, sum, far) = c.reading.invariant.so_far in
    stops_at_fault db
    (around (g.S.Source.left c.args.input.now) (g.S.Source.left c.read.new.self) (g.S.Source.count c.args.input.now) (g.S.Source.count c.read.new.self))
    (around (g.K.Sink.held c.args.out.now) (g.K.Sink.held c.reading.out) (g.K.Sink.count c.args.out.now) (g.K.Sink.count c.reading.out))
    (g.S.Source.left c.reading.input) c.reading.left (driven (g.D.DriverRow.seen c.args.drivers.now) (g.D.DriverRow.seen c.reading.drivers)) c.reading.cutter c.reading.core
    (rose_since (g.S.Source.count c.args.input.now) (g.S.Source.count c.reading.input) (g.S.Source.count c.read.new.self) c.reading.invariant.read_later c.in_default-read.ensures.cause.failed)
    c.in_default-read.ensures.bytes (taken, consumed, sum, far db stands)

pub returns-then-count-eq0-clause-answering : goal.returns-then-count-eq0-clause-answering
returns-then-count-eq0-clause-answering g c = λ db stands.
    let (taken, consumed, sum, far) = c.reading.invariant.so_far in
    let none : Consumes (g.S.Source.left c.reading.input) (g.S.Source.left c.read.new.self) [] = subst (λ n. Consumes (g.S.Source.left c.reading.input) (g.S.Source.left c.read.new.self) (take n c.read.new.buf)) c.if-count-eq0.true c.in-Ok-read.ensures.bytes.0 in
    let end : IsAtEnd (g.S.Source.left c.read.new.self) = c.in-Ok-read.ensures.bytes.1 c.if-count-eq0.true (omega arith) in
    elim c.match-answer_last.branch [
      | in-Ok-answer_last w ↦
          subst (IsAnswering db (around (g.S.Source.left c.args.input.now) (g.S.Source.left c.read.new.self) (g.S.Source.count c.args.input.now) (g.S.Source.count c.read.new.self)) (around (g.K.Sink.held c.args.out.now) (g.K.Sink.held c.answer_last.new.out) (g.K.Sink.count c.args.out.now) (g.K.Sink.count c.answer_last.new.out)) (driven (g.D.DriverRow.seen c.args.drivers.now) (g.D.DriverRow.seen c.answer_last.new.drivers))) (sym w.result-is)
          (stops_at_end db (around (g.S.Source.left c.args.input.now) (g.S.Source.left c.read.new.self) (g.S.Source.count c.args.input.now) (g.S.Source.count c.read.new.self)) (around (g.K.Sink.held c.args.out.now) (g.K.Sink.held c.answer_last.new.out) (g.K.Sink.count c.args.out.now) (g.K.Sink.count c.answer_last.new.out)) (g.S.Source.left c.reading.input) c.reading.left (driven (g.D.DriverRow.seen c.args.drivers.now) (g.D.DriverRow.seen c.answer_last.new.drivers)) (λ taken. IsReadSoFar db taken c.reading.cutter (g.K.Sink.held c.args.out.now) (g.K.Sink.held c.reading.out) c.reading.core (g.D.DriverRow.seen c.args.drivers.now) (g.D.DriverRow.seen c.reading.drivers)) none end (taken, consumed, sum, far db stands)
          (λ script so. w.in-Ok-answer_last.ensures.answered db script (g.K.Sink.held c.args.out.now) (g.D.DriverRow.seen c.args.drivers.now) (g.K.Sink.count c.args.out.now) (g.K.Sink.count c.answer_last.new.out) so))
      | in-Err w ↦
          subst (IsAnswering db (around (g.S.Source.left c.args.input.now) (g.S.Source.left c.read.new.self) (g.S.Source.count c.args.input.now) (g.S.Source.count c.read.new.self)) (around (g.K.Sink.held c.args.out.now) (g.K.Sink.held c.answer_last.new.out) (g.K.Sink.count c.args.out.now) (g.K.Sink.count c.answer_last.new.out)) (driven (g.D.DriverRow.seen c.args.drivers.now) (g.D.DriverRow.seen c.answer_last.new.drivers))) (sym (w.result-is ∙ w.status_of.ensures))
          (halts_at_end db (around (g.S.Source.left c.args.input.now) (g.S.Source.left c.read.new.self) (g.S.Source.count c.args.input.now) (g.S.Source.count c.read.new.self)) (around (g.K.Sink.held c.args.out.now) (g.K.Sink.held c.answer_last.new.out) (g.K.Sink.count c.args.out.now) (g.K.Sink.count c.answer_last.new.out)) (g.S.Source.left c.reading.input) c.reading.left (driven (g.D.DriverRow.seen c.args.drivers.now) (g.D.DriverRow.seen c.answer_last.new.drivers)) w.in-Err.halt (λ taken. IsReadSoFar db taken c.reading.cutter (g.K.Sink.held c.args.out.now) (g.K.Sink.held c.reading.out) c.reading.core (g.D.DriverRow.seen c.args.drivers.now) (g.D.DriverRow.seen c.reading.drivers)) none end (taken, consumed, sum, far db stands)
          (cause_since (g.K.Sink.count c.args.out.now) (g.K.Sink.count c.reading.out) (g.K.Sink.count c.answer_last.new.out) w.in-Err.halt c.reading.invariant.written_later w.in-Err.ensures.cause)
          (λ script so. w.in-Err.ensures.halted db script (g.K.Sink.held c.args.out.now) (g.D.DriverRow.seen c.args.drivers.now) (g.K.Sink.count c.args.out.now) (g.K.Sink.count c.answer_last.new.out) so))
    ]

pub returns-in-Err-answer_bytes-clause-answering :
    goal.returns-in-Err-answer_bytes-clause-answering
returns-in-Err-answer_bytes-clause-answering g c = λ db stands.
    let (taken, consumed, sum, far) = c.reading.invariant.so_far in
    let is : c.min.result ≡ min c.in-Ok-read.count c.reading.left = c.min.ensures in
    subst (IsAnswering db (around (g.S.Source.left c.args.input.now) (g.S.Source.left c.read.new.self) (g.S.Source.count c.args.input.now) (g.S.Source.count c.read.new.self)) (around (g.K.Sink.held c.args.out.now) (g.K.Sink.held c.answer_bytes.new.out) (g.K.Sink.count c.args.out.now) (g.K.Sink.count c.answer_bytes.new.out)) (driven (g.D.DriverRow.seen c.args.drivers.now) (g.D.DriverRow.seen c.answer_bytes.new.drivers))) (sym c.status_of-in-Err-answer_bytes.ensures)
    (halts_among db (around (g.S.Source.left c.args.input.now) (g.S.Source.left c.read.new.self) (g.S.Source.count c.args.input.now) (g.S.Source.count c.read.new.self)) (around (g.K.Sink.held c.args.out.now) (g.K.Sink.held c.answer_bytes.new.out) (g.K.Sink.count c.args.out.now) (g.K.Sink.count c.answer_bytes.new.out)) (g.S.Source.left c.reading.input) c.reading.left c.in-Ok-read.count c.read.new.buf (driven (g.D.DriverRow.seen c.args.drivers.now) (g.D.DriverRow.seen c.answer_bytes.new.drivers)) c.in-Err-answer_bytes.halt (λ taken. IsReadSoFar db taken c.reading.cutter (g.K.Sink.held c.args.out.now) (g.K.Sink.held c.reading.out) c.reading.core (g.D.DriverRow.seen c.args.drivers.now) (g.D.DriverRow.seen c.reading.drivers))
    c.in-Ok-read.ensures.bytes.0 (taken, consumed, sum, far db stands)
    (cause_since (g.K.Sink.count c.args.out.now) (g.K.Sink.count c.reading.out) (g.K.Sink.count c.answer_bytes.new.out) c.in-Err-answer_bytes.halt c.reading.invariant.written_later c.in-Err-answer_bytes.ensures.cause)
    (λ script so. subst (λ n. HaltsAmong db (script ++ take n c.read.new.buf) (around (g.K.Sink.held c.args.out.now) (g.K.Sink.held c.answer_bytes.new.out) (g.K.Sink.count c.args.out.now) (g.K.Sink.count c.answer_bytes.new.out)) (driven (g.D.DriverRow.seen c.args.drivers.now) (g.D.DriverRow.seen c.answer_bytes.new.drivers)) c.in-Err-answer_bytes.halt) is (c.in-Err-answer_bytes.ensures.halted db script (g.K.Sink.held c.args.out.now) (g.D.DriverRow.seen c.args.drivers.now) (g.K.Sink.count c.args.out.now) (g.K.Sink.count c.answer_bytes.new.out) so)))

pub returns-then-count-left-clause-answering : goal.returns-then-count-left-clause-answering
returns-then-count-left-clause-answering g c = λ db stands.
    let (taken, consumed, sum, far) = c.reading.invariant.so_far in
    let is : c.min.result ≡ min c.in-Ok-read.count c.reading.left = c.min.ensures in
    stops_at_limit db (around (g.S.Source.left c.args.input.now) (g.S.Source.left c.read.new.self) (g.S.Source.count c.args.input.now) (g.S.Source.count c.read.new.self)) (around (g.K.Sink.held c.args.out.now) (g.K.Sink.held c.answer_bytes.new.out) (g.K.Sink.count c.args.out.now) (g.K.Sink.count c.answer_bytes.new.out)) (g.S.Source.left c.reading.input) c.reading.left c.in-Ok-read.count c.read.new.buf (driven (g.D.DriverRow.seen c.args.drivers.now) (g.D.DriverRow.seen c.answer_bytes.new.drivers)) c.answer_bytes.new.cutter c.answer_bytes.new.core (λ taken. IsReadSoFar db taken c.reading.cutter (g.K.Sink.held c.args.out.now) (g.K.Sink.held c.reading.out) c.reading.core (g.D.DriverRow.seen c.args.drivers.now) (g.D.DriverRow.seen c.reading.drivers))
    c.in-Ok-read.ensures.bound.0 c.if-count-left.true c.in-Ok-read.ensures.bytes.0 (taken, consumed, sum, far db stands)
    (λ script so. subst (λ n. IsReadSoFar db (script ++ take n c.read.new.buf) c.answer_bytes.new.cutter (g.K.Sink.held c.args.out.now) (g.K.Sink.held c.answer_bytes.new.out) c.answer_bytes.new.core (g.D.DriverRow.seen c.args.drivers.now) (g.D.DriverRow.seen c.answer_bytes.new.drivers)) is (c.in_default-answer_bytes.ensures.answered db script (g.K.Sink.held c.args.out.now) (g.D.DriverRow.seen c.args.drivers.now) so))

pub reading-preserved : goal.reading-preserved
reading-preserved g c =
    let (taken, consumed, sum, far) = c.reading.invariant.so_far in
    let is : c.min.result ≡ min c.in-Ok-read.count c.reading.left = c.min.ensures in record {
      ready = c.answer_bytes.ensures.ready;
      read_later = le_trans c.reading.invariant.read_later c.read.ensures.cause.later;
      written_later = le_trans c.reading.invariant.written_later c.answer_bytes.ensures.later;
      unended = c.answer_bytes.ensures.unended;
      so_far = reads_on (g.S.Source.left c.args.input.now) (g.S.Source.left c.reading.input) (g.S.Source.left c.read.new.self) c.reading.left c.in-Ok-read.count c.read.new.buf
          (λ taken. (db : List Domain) → StandsFor db c.args.core.now [] → IsReadSoFar db taken c.reading.cutter (g.K.Sink.held c.args.out.now) (g.K.Sink.held c.reading.out) c.reading.core (g.D.DriverRow.seen c.args.drivers.now) (g.D.DriverRow.seen c.reading.drivers))
          (λ taken. (db : List Domain) → StandsFor db c.args.core.now [] → IsReadSoFar db taken c.answer_bytes.new.cutter (g.K.Sink.held c.args.out.now) (g.K.Sink.held c.answer_bytes.new.out) c.answer_bytes.new.core (g.D.DriverRow.seen c.args.drivers.now) (g.D.DriverRow.seen c.answer_bytes.new.drivers))
          c.in-Ok-read.ensures.bound.0 (omega (arith, c.if-count-left.false)) c.in-Ok-read.ensures.bytes.0 (taken, consumed, sum, far)
          (λ script so db stands. subst (λ n. IsReadSoFar db (script ++ take n c.read.new.buf) c.answer_bytes.new.cutter (g.K.Sink.held c.args.out.now) (g.K.Sink.held c.answer_bytes.new.out) c.answer_bytes.new.core (g.D.DriverRow.seen c.args.drivers.now) (g.D.DriverRow.seen c.answer_bytes.new.drivers)) is (c.in_default-answer_bytes.ensures.answered db script (g.K.Sink.held c.args.out.now) (g.D.DriverRow.seen c.args.drivers.now) (so db stands)))
          (c.reading.left - c.in-Ok-read.count) (omega (arith, c.if-count-left.false));
    }
