use Rattle.std.proofs.Common.{[], ◌++◌, ◌≡◌, ◌+◌, ◌-◌, ◌∙◌, le_trans, length-take-le, min, refl, subst, sym, take, arith}
use Rattle.std.proofs.KnownBytes.{Consumes-nil}
use Rattle.std.specs.Io.KnownBytes.{Consumes, IsAtEnd}
use Rattle.db_commands.specs.Devices.{around}
use Rattle.script_run.proofs.Pieces.{reads_on, rose_since}
use Rattle.pack_command.specs.Pack.{IsPackStatus}
use Rattle.pack_command.specs.inner.Steps.{IsPackedSoFar, StopsAmong}
use Rattle.pack_command.proofs.Stopping.{cause_since, last_stops, stops_among, stops_at_end, stops_at_fault, stops_at_limit, stops_at_once}
use Rattle.pack_command.proofs.Taking.{has_room, lines_fit, reads_none}
use Rattle.pack_command.proofs.command.pack.Goals.{in-Ok-pack_last, in-Err}
use Rattle.pack_command.proofs.command.pack.Goals as goal

pub returns-in_default-clause-packed : goal.returns-in_default-clause-packed
returns-in_default-clause-packed g c =
    stops_at_once (around (g.S.Source.left c.args.input.now) (g.S.Source.left c.args.input.now) (g.S.Source.count c.args.input.now) (g.S.Source.count c.args.input.now))
    (around (g.K.Sink.held c.args.out.now) (g.K.Sink.held c.args.out.now) (g.K.Sink.count c.args.out.now) (g.K.Sink.count c.args.out.now)) refl refl

pub reading-init : goal.reading-init
reading-init g c = record {
  read_later = omega arith;
  written_later = omega arith;
  unended = rw c.in-Ok.ensures.open refl;
  fewer = omega arith;
  so_far = ([], Consumes-nil (g.S.Source.left c.args.input.now), refl, reads_none c.in-Ok.cutter (g.K.Sink.held c.args.out.now) (record { lines = 0; requests = 0 }) c.in-Ok.ensures.open refl refl);
}

pub returns-in_default-read-clause-packed : goal.returns-in_default-read-clause-packed
returns-in_default-read-clause-packed g c =
    stops_at_fault (around (g.S.Source.left c.args.input.now) (g.S.Source.left c.read.new.self) (g.S.Source.count c.args.input.now) (g.S.Source.count c.read.new.self))
    (around (g.K.Sink.held c.args.out.now) (g.K.Sink.held c.reading.out) (g.K.Sink.count c.args.out.now) (g.K.Sink.count c.reading.out))
    (g.S.Source.left c.reading.input) c.reading.left c.reading.cutter c.reading.progress
    (rose_since (g.S.Source.count c.args.input.now) (g.S.Source.count c.reading.input) (g.S.Source.count c.read.new.self) c.reading.invariant.read_later c.in_default-read.ensures.cause.failed)
    c.in_default-read.ensures.bytes c.reading.invariant.so_far

pub pack_last-requires-clause-room : goal.pack_last-requires-clause-room
pack_last-requires-clause-room g c =
    let (taken, consumed, sum, far) = c.reading.invariant.so_far in
    has_room taken c.reading.cutter (g.K.Sink.held c.args.out.now) (g.K.Sink.held c.reading.out) c.reading.progress (omega (arith, sum)) far

pub pack_bytes-requires-clause-room : goal.pack_bytes-requires-clause-room
pack_bytes-requires-clause-room g c =
    let (taken, consumed, sum, far) = c.reading.invariant.so_far in
    let few = lines_fit taken c.reading.cutter (g.K.Sink.held c.args.out.now) (g.K.Sink.held c.reading.out) c.reading.progress far in
    let is : c.min.result ≡ min c.in-Ok-read.count c.reading.left = c.min.ensures in
    let bound = c.in-Ok-read.ensures.bound.0 in
    omega (arith, sum, few, is, bound, length-take-le c.min.result c.read.new.buf (omega (arith, is, bound)))

pub returns-then-count-eq0-clause-packed : goal.returns-then-count-eq0-clause-packed
returns-then-count-eq0-clause-packed g c =
    let none : Consumes (g.S.Source.left c.reading.input) (g.S.Source.left c.read.new.self) [] = subst (λ n. Consumes (g.S.Source.left c.reading.input) (g.S.Source.left c.read.new.self) (take n c.read.new.buf)) c.if-count-eq0.true c.in-Ok-read.ensures.bytes.0 in
    let end : IsAtEnd (g.S.Source.left c.read.new.self) = c.in-Ok-read.ensures.bytes.1 c.if-count-eq0.true (omega arith) in
    elim c.match-pack_last.branch [
      | in-Ok-pack_last w ↦
          subst (IsPackStatus (around (g.S.Source.left c.args.input.now) (g.S.Source.left c.read.new.self) (g.S.Source.count c.args.input.now) (g.S.Source.count c.read.new.self)) (around (g.K.Sink.held c.args.out.now) (g.K.Sink.held c.pack_last.new.out) (g.K.Sink.count c.args.out.now) (g.K.Sink.count c.pack_last.new.out))) (sym w.result-is)
          (stops_at_end (around (g.S.Source.left c.args.input.now) (g.S.Source.left c.read.new.self) (g.S.Source.count c.args.input.now) (g.S.Source.count c.read.new.self)) (around (g.K.Sink.held c.args.out.now) (g.K.Sink.held c.pack_last.new.out) (g.K.Sink.count c.args.out.now) (g.K.Sink.count c.pack_last.new.out)) (g.S.Source.left c.reading.input) c.reading.left (λ taken. IsPackedSoFar taken c.reading.cutter (g.K.Sink.held c.args.out.now) (g.K.Sink.held c.reading.out) c.reading.progress) none end c.reading.invariant.so_far
          (λ script so. w.in-Ok-pack_last.ensures.packed script (g.K.Sink.held c.args.out.now) (g.K.Sink.count c.args.out.now) (g.K.Sink.count c.pack_last.new.out) so))
      | in-Err w ↦
          subst (IsPackStatus (around (g.S.Source.left c.args.input.now) (g.S.Source.left c.read.new.self) (g.S.Source.count c.args.input.now) (g.S.Source.count c.read.new.self)) (around (g.K.Sink.held c.args.out.now) (g.K.Sink.held c.pack_last.new.out) (g.K.Sink.count c.args.out.now) (g.K.Sink.count c.pack_last.new.out))) (sym (w.result-is ∙ w.status_of.ensures))
          (last_stops (around (g.S.Source.left c.args.input.now) (g.S.Source.left c.read.new.self) (g.S.Source.count c.args.input.now) (g.S.Source.count c.read.new.self)) (around (g.K.Sink.held c.args.out.now) (g.K.Sink.held c.pack_last.new.out) (g.K.Sink.count c.args.out.now) (g.K.Sink.count c.pack_last.new.out)) (g.S.Source.left c.reading.input) c.reading.left w.in-Err.stop (λ taken. IsPackedSoFar taken c.reading.cutter (g.K.Sink.held c.args.out.now) (g.K.Sink.held c.reading.out) c.reading.progress) none end c.reading.invariant.so_far
          (cause_since (g.K.Sink.count c.args.out.now) (g.K.Sink.count c.reading.out) (g.K.Sink.count c.pack_last.new.out) w.in-Err.stop c.reading.invariant.written_later w.in-Err.ensures.cause)
          (λ script so. w.in-Err.ensures.stopped script (g.K.Sink.held c.args.out.now) (g.K.Sink.count c.args.out.now) (g.K.Sink.count c.pack_last.new.out) so))
    ]

pub returns-in-Err-pack_bytes-clause-packed :
    goal.returns-in-Err-pack_bytes-clause-packed
returns-in-Err-pack_bytes-clause-packed g c =
    let is : c.min.result ≡ min c.in-Ok-read.count c.reading.left = c.min.ensures in
    subst (IsPackStatus (around (g.S.Source.left c.args.input.now) (g.S.Source.left c.read.new.self) (g.S.Source.count c.args.input.now) (g.S.Source.count c.read.new.self)) (around (g.K.Sink.held c.args.out.now) (g.K.Sink.held c.pack_bytes.new.out) (g.K.Sink.count c.args.out.now) (g.K.Sink.count c.pack_bytes.new.out))) (sym c.status_of-in-Err-pack_bytes.ensures)
    (stops_among (around (g.S.Source.left c.args.input.now) (g.S.Source.left c.read.new.self) (g.S.Source.count c.args.input.now) (g.S.Source.count c.read.new.self)) (around (g.K.Sink.held c.args.out.now) (g.K.Sink.held c.pack_bytes.new.out) (g.K.Sink.count c.args.out.now) (g.K.Sink.count c.pack_bytes.new.out)) (g.S.Source.left c.reading.input) c.reading.left c.in-Ok-read.count c.read.new.buf c.in-Err-pack_bytes.stop (λ taken. IsPackedSoFar taken c.reading.cutter (g.K.Sink.held c.args.out.now) (g.K.Sink.held c.reading.out) c.reading.progress)
    c.in-Ok-read.ensures.bytes.0 c.reading.invariant.so_far
    (cause_since (g.K.Sink.count c.args.out.now) (g.K.Sink.count c.reading.out) (g.K.Sink.count c.pack_bytes.new.out) c.in-Err-pack_bytes.stop c.reading.invariant.written_later c.in-Err-pack_bytes.ensures.cause)
    (λ script so. subst (λ n. StopsAmong (script ++ take n c.read.new.buf) (around (g.K.Sink.held c.args.out.now) (g.K.Sink.held c.pack_bytes.new.out) (g.K.Sink.count c.args.out.now) (g.K.Sink.count c.pack_bytes.new.out)) c.in-Err-pack_bytes.stop) is (c.in-Err-pack_bytes.ensures.stopped script (g.K.Sink.held c.args.out.now) (g.K.Sink.count c.args.out.now) (g.K.Sink.count c.pack_bytes.new.out) so)))

pub returns-then-count-left-clause-packed : goal.returns-then-count-left-clause-packed
returns-then-count-left-clause-packed g c =
    let is : c.min.result ≡ min c.in-Ok-read.count c.reading.left = c.min.ensures in
    stops_at_limit (around (g.S.Source.left c.args.input.now) (g.S.Source.left c.read.new.self) (g.S.Source.count c.args.input.now) (g.S.Source.count c.read.new.self)) (around (g.K.Sink.held c.args.out.now) (g.K.Sink.held c.pack_bytes.new.out) (g.K.Sink.count c.args.out.now) (g.K.Sink.count c.pack_bytes.new.out)) (g.S.Source.left c.reading.input) c.reading.left c.in-Ok-read.count c.read.new.buf c.pack_bytes.new.cutter c.pack_bytes.new.progress (λ taken. IsPackedSoFar taken c.reading.cutter (g.K.Sink.held c.args.out.now) (g.K.Sink.held c.reading.out) c.reading.progress)
    c.in-Ok-read.ensures.bound.0 c.if-count-left.true c.in-Ok-read.ensures.bytes.0 c.reading.invariant.so_far
    (λ script so. subst (λ n. IsPackedSoFar (script ++ take n c.read.new.buf) c.pack_bytes.new.cutter (g.K.Sink.held c.args.out.now) (g.K.Sink.held c.pack_bytes.new.out) c.pack_bytes.new.progress) is (c.in_default-pack_bytes.ensures.packed script (g.K.Sink.held c.args.out.now) so))

pub reading-preserved : goal.reading-preserved
reading-preserved g c =
    let is : c.min.result ≡ min c.in-Ok-read.count c.reading.left = c.min.ensures in record {
      read_later = le_trans c.reading.invariant.read_later c.read.ensures.cause.later;
      written_later = le_trans c.reading.invariant.written_later c.pack_bytes.ensures.later;
      unended = c.pack_bytes.ensures.unended;
      fewer = c.in_default-pack_bytes.ensures.fewer;
      so_far = reads_on (g.S.Source.left c.args.input.now) (g.S.Source.left c.reading.input) (g.S.Source.left c.read.new.self) c.reading.left c.in-Ok-read.count c.read.new.buf
          (λ taken. IsPackedSoFar taken c.reading.cutter (g.K.Sink.held c.args.out.now) (g.K.Sink.held c.reading.out) c.reading.progress)
          (λ taken. IsPackedSoFar taken c.pack_bytes.new.cutter (g.K.Sink.held c.args.out.now) (g.K.Sink.held c.pack_bytes.new.out) c.pack_bytes.new.progress)
          c.in-Ok-read.ensures.bound.0 (omega (arith, c.if-count-left.false)) c.in-Ok-read.ensures.bytes.0 c.reading.invariant.so_far
          (λ script so. subst (λ n. IsPackedSoFar (script ++ take n c.read.new.buf) c.pack_bytes.new.cutter (g.K.Sink.held c.args.out.now) (g.K.Sink.held c.pack_bytes.new.out) c.pack_bytes.new.progress) is (c.in_default-pack_bytes.ensures.packed script (g.K.Sink.held c.args.out.now) so))
          (c.reading.left - c.in-Ok-read.count) (omega (arith, c.if-count-left.false));
    }
