use Rattle.std.proofs.Common.{[], ◌++◌, ◌≡◌, ◌+◌, ◌-◌, ℕ, List, length-take-le, le_trans, min, refl, subst, sym, take, arith}
use Rattle.std.proofs.KnownBytes.{Consumes-nil}
use Rattle.std.specs.Io.KnownBytes.{Consumes, IsAtEnd}
use Rattle.rule_tables.specs.declared.domain.Domain.{Domain}
use Rattle.reg_core.specs.Kept.{StandsFor}
use Rattle.nl_attrs.specs.Streams.{HasGiven}
use Rattle.nl_attrs.specs.declared.message.Msg.{Msg}
use Rattle.core_runs.proofs.Drivers.{AreIdle-at}
use Rattle.db_commands.specs.Devices.{around, driven}
use Rattle.script_run.proofs.Pieces.{reads_on, rose_since}
use Rattle.wire_run.specs.Streaming.{IsWiring}
use Rattle.wire_run.specs.inner.Steps.{IsWholeSoFar}
use Rattle.wire_run.proofs.Stopping.{cause_since, stops_among, stops_at_end, stops_at_fault, stops_at_limit, stops_unfed}
use Rattle.wire_run.proofs.Streaming.{feeds, piece_held, reads_none}
use Rattle.wire_run.proofs.Turning.{on_ok}
use Rattle.wire_run.proofs.reading.answer_stream.Goals as goal

pub reading-init : goal.reading-init
reading-init g c = record {
  ready = c.requires.ready;
  read_later = omega arith;
  written_later = omega arith;
  sound = rw c.new-decoder.ensures.fresh refl;
  few = rw c.new-decoder.ensures.fresh (omega arith);
  so_far = (
    [],
    Consumes-nil (g.S.Source.left c.args.input.now),
    refl,
    λ db stands. reads_none db c.new-decoder.result (g.K.Sink.held c.args.out.now) c.args.core.now (g.D.DriverRow.seen c.args.drivers.now) c.new-decoder.ensures.stream
        (AreIdle-at db c.args.core.now (g.D.DriverRow.seen c.args.drivers.now) stands c.requires.idle),
  );
}

pub returns-in_default-clause-wiring : goal.returns-in_default-clause-wiring
returns-in_default-clause-wiring g c = λ db stands.
    stops_at_fault db (around (g.S.Source.left c.args.input.now) (g.S.Source.left c.read.new.self) (g.S.Source.count c.args.input.now) (g.S.Source.count c.read.new.self)) (around (g.K.Sink.held c.args.out.now) (g.K.Sink.held c.reading.out) (g.K.Sink.count c.args.out.now) (g.K.Sink.count c.reading.out)) (g.S.Source.left c.reading.input) c.reading.left (driven (g.D.DriverRow.seen c.args.drivers.now) (g.D.DriverRow.seen c.reading.drivers)) c.reading.decoder c.reading.core (λ taken. (db : List Domain) → StandsFor db c.args.core.now [] → IsWholeSoFar db taken c.reading.decoder (g.K.Sink.held c.args.out.now) (g.K.Sink.held c.reading.out) c.reading.core (g.D.DriverRow.seen c.args.drivers.now) (g.D.DriverRow.seen c.reading.drivers))
    (rose_since (g.S.Source.count c.args.input.now) (g.S.Source.count c.reading.input) (g.S.Source.count c.read.new.self) c.reading.invariant.read_later c.in_default.ensures.cause.failed)
    c.in_default.ensures.bytes c.reading.invariant.so_far (λ taken far. far db stands)

pub returns-then-count-eq0-clause-wiring : goal.returns-then-count-eq0-clause-wiring
returns-then-count-eq0-clause-wiring g c = λ db stands.
    let none : Consumes (g.S.Source.left c.reading.input) (g.S.Source.left c.read.new.self) [] = subst (λ n. Consumes (g.S.Source.left c.reading.input) (g.S.Source.left c.read.new.self) (take n c.read.new.buf)) c.if-count-eq0.true c.in-Ok.ensures.bytes.0 in
    let end : IsAtEnd (g.S.Source.left c.read.new.self) = c.in-Ok.ensures.bytes.1 c.if-count-eq0.true (omega arith) in
    stops_at_end db (around (g.S.Source.left c.args.input.now) (g.S.Source.left c.read.new.self) (g.S.Source.count c.args.input.now) (g.S.Source.count c.read.new.self)) (around (g.K.Sink.held c.args.out.now) (g.K.Sink.held c.reading.out) (g.K.Sink.count c.args.out.now) (g.K.Sink.count c.reading.out)) (g.S.Source.left c.reading.input) c.reading.left (driven (g.D.DriverRow.seen c.args.drivers.now) (g.D.DriverRow.seen c.reading.drivers)) c.reading.decoder c.reading.core c.status_at_end.result (λ taken. (db : List Domain) → StandsFor db c.args.core.now [] → IsWholeSoFar db taken c.reading.decoder (g.K.Sink.held c.args.out.now) (g.K.Sink.held c.reading.out) c.reading.core (g.D.DriverRow.seen c.args.drivers.now) (g.D.DriverRow.seen c.reading.drivers))
    none end c.reading.invariant.so_far c.reading.invariant.sound c.status_at_end.ensures (λ taken far. far db stands)

pub feed-requires : goal.feed-requires
feed-requires g c =
    let few = c.reading.invariant.few in
    let is : c.min.result ≡ min c.in-Ok.count c.reading.left = c.min.ensures in
    let bound = c.in-Ok.ensures.bound.0 in
    omega (arith, few, is, bound, length-take-le c.min.result c.read.new.buf (omega (arith, is, bound)))

pub returns-then-is_err-clause-wiring : goal.returns-then-is_err-clause-wiring
returns-then-is_err-clause-wiring g c = λ db stands.
    stops_unfed db (around (g.S.Source.left c.args.input.now) (g.S.Source.left c.read.new.self) (g.S.Source.count c.args.input.now) (g.S.Source.count c.read.new.self)) (around (g.K.Sink.held c.args.out.now) (g.K.Sink.held c.reading.out) (g.K.Sink.count c.args.out.now) (g.K.Sink.count c.reading.out)) (g.S.Source.left c.reading.input) c.reading.left c.in-Ok.count c.read.new.buf (driven (g.D.DriverRow.seen c.args.drivers.now) (g.D.DriverRow.seen c.reading.drivers)) c.reading.decoder c.reading.core (λ taken. (db : List Domain) → StandsFor db c.args.core.now [] → IsWholeSoFar db taken c.reading.decoder (g.K.Sink.held c.args.out.now) (g.K.Sink.held c.reading.out) c.reading.core (g.D.DriverRow.seen c.args.drivers.now) (g.D.DriverRow.seen c.reading.drivers))
    c.in-Ok.ensures.bytes.0 c.reading.invariant.so_far (λ taken far. far db stands)

pub returns-in-Err-clause-wiring : goal.returns-in-Err-clause-wiring
returns-in-Err-clause-wiring g c = λ db stands.
    let is : c.min.result ≡ min c.in-Ok.count c.reading.left = c.min.ensures in
    subst (IsWiring db (around (g.S.Source.left c.args.input.now) (g.S.Source.left c.read.new.self) (g.S.Source.count c.args.input.now) (g.S.Source.count c.read.new.self)) (around (g.K.Sink.held c.args.out.now) (g.K.Sink.held c.answer_held.new.out) (g.K.Sink.count c.args.out.now) (g.K.Sink.count c.answer_held.new.out)) (driven (g.D.DriverRow.seen c.args.drivers.now) (g.D.DriverRow.seen c.answer_held.new.drivers))) (sym c.status_of.ensures)
    (stops_among db (around (g.S.Source.left c.args.input.now) (g.S.Source.left c.read.new.self) (g.S.Source.count c.args.input.now) (g.S.Source.count c.read.new.self)) (around (g.K.Sink.held c.args.out.now) (g.K.Sink.held c.answer_held.new.out) (g.K.Sink.count c.args.out.now) (g.K.Sink.count c.answer_held.new.out)) (g.S.Source.left c.reading.input) c.reading.left c.in-Ok.count c.read.new.buf (driven (g.D.DriverRow.seen c.args.drivers.now) (g.D.DriverRow.seen c.answer_held.new.drivers)) c.in-Err.stop (λ taken. (db : List Domain) → StandsFor db c.args.core.now [] → IsWholeSoFar db taken c.reading.decoder (g.K.Sink.held c.args.out.now) (g.K.Sink.held c.reading.out) c.reading.core (g.D.DriverRow.seen c.args.drivers.now) (g.D.DriverRow.seen c.reading.drivers))
    c.in-Ok.ensures.bytes.0 c.reading.invariant.so_far
    (cause_since (g.K.Sink.count c.args.out.now) (g.K.Sink.count c.reading.out) (g.K.Sink.count c.answer_held.new.out) c.in-Err.stop c.reading.invariant.written_later c.in-Err.ensures.cause)
    (λ taken far. c.in-Err.ensures.stopped db (taken ++ (take (min c.in-Ok.count c.reading.left) c.read.new.buf)) (g.K.Sink.held c.args.out.now) (g.D.DriverRow.seen c.args.drivers.now) (g.K.Sink.count c.args.out.now) (g.K.Sink.count c.answer_held.new.out)
    (feeds db taken (take (min c.in-Ok.count c.reading.left) c.read.new.buf) c.reading.decoder c.feed.new.self (g.K.Sink.held c.args.out.now) (g.K.Sink.held c.reading.out) c.reading.core (g.D.DriverRow.seen c.args.drivers.now) (g.D.DriverRow.seen c.reading.drivers) (subst (λ n. (fed : List ℕ) (given : List Msg) → HasGiven c.reading.decoder fed given → HasGiven c.feed.new.self (fed ++ take n c.read.new.buf) given) is (on_ok c.feed.result _ c.if-is_err.ensures.value c.feed.ensures.stream)) (far db stands))))

pub returns-then-count-left-clause-wiring : goal.returns-then-count-left-clause-wiring
returns-then-count-left-clause-wiring g c = λ db stands.
    let is : c.min.result ≡ min c.in-Ok.count c.reading.left = c.min.ensures in
    stops_at_limit db (around (g.S.Source.left c.args.input.now) (g.S.Source.left c.read.new.self) (g.S.Source.count c.args.input.now) (g.S.Source.count c.read.new.self)) (around (g.K.Sink.held c.args.out.now) (g.K.Sink.held c.answer_held.new.out) (g.K.Sink.count c.args.out.now) (g.K.Sink.count c.answer_held.new.out)) (g.S.Source.left c.reading.input) c.reading.left c.in-Ok.count c.read.new.buf (driven (g.D.DriverRow.seen c.args.drivers.now) (g.D.DriverRow.seen c.answer_held.new.drivers)) c.answer_held.new.decoder c.answer_held.new.core (λ taken. (db : List Domain) → StandsFor db c.args.core.now [] → IsWholeSoFar db taken c.reading.decoder (g.K.Sink.held c.args.out.now) (g.K.Sink.held c.reading.out) c.reading.core (g.D.DriverRow.seen c.args.drivers.now) (g.D.DriverRow.seen c.reading.drivers))
    c.in-Ok.ensures.bound.0 c.if-count-left.true c.in-Ok.ensures.bytes.0 c.reading.invariant.so_far
    (λ taken far. c.in_default-answer_held.ensures.answered db (taken ++ (take (min c.in-Ok.count c.reading.left) c.read.new.buf)) (g.K.Sink.held c.args.out.now) (g.D.DriverRow.seen c.args.drivers.now)
    (feeds db taken (take (min c.in-Ok.count c.reading.left) c.read.new.buf) c.reading.decoder c.feed.new.self (g.K.Sink.held c.args.out.now) (g.K.Sink.held c.reading.out) c.reading.core (g.D.DriverRow.seen c.args.drivers.now) (g.D.DriverRow.seen c.reading.drivers) (subst (λ n. (fed : List ℕ) (given : List Msg) → HasGiven c.reading.decoder fed given → HasGiven c.feed.new.self (fed ++ take n c.read.new.buf) given) is (on_ok c.feed.result _ c.if-is_err.ensures.value c.feed.ensures.stream)) (far db stands)))

pub reading-preserved : goal.reading-preserved
reading-preserved g c =
    let is : c.min.result ≡ min c.in-Ok.count c.reading.left = c.min.ensures in
    let bound = c.in-Ok.ensures.bound.0 in
    let few = c.reading.invariant.few in
    let kept = c.in_default-answer_held.ensures.kept in
    let fed = (piece_held c.reading.decoder c.feed.new.self (take c.min.result c.read.new.buf) (on_ok c.feed.result _ c.if-is_err.ensures.value c.feed.ensures.ok) c.reading.invariant.sound).1 in record {
      ready = c.in_default-answer_held.ensures.ready;
      read_later = le_trans c.reading.invariant.read_later c.read.ensures.cause.later;
      written_later = le_trans c.reading.invariant.written_later c.answer_held.ensures.later;
      sound = c.in_default-answer_held.ensures.sound;
      few = omega (arith, few, kept, fed, is, bound, c.if-count-left.false, length-take-le c.min.result c.read.new.buf (omega (arith, is, bound)));
      so_far = reads_on (g.S.Source.left c.args.input.now) (g.S.Source.left c.reading.input) (g.S.Source.left c.read.new.self) c.reading.left c.in-Ok.count c.read.new.buf
          (λ taken. (db : List Domain) → StandsFor db c.args.core.now [] → IsWholeSoFar db taken c.reading.decoder (g.K.Sink.held c.args.out.now) (g.K.Sink.held c.reading.out) c.reading.core (g.D.DriverRow.seen c.args.drivers.now) (g.D.DriverRow.seen c.reading.drivers))
          (λ taken. (db : List Domain) → StandsFor db c.args.core.now [] → IsWholeSoFar db taken c.answer_held.new.decoder (g.K.Sink.held c.args.out.now) (g.K.Sink.held c.answer_held.new.out) c.answer_held.new.core (g.D.DriverRow.seen c.args.drivers.now) (g.D.DriverRow.seen c.answer_held.new.drivers))
          c.in-Ok.ensures.bound.0 (omega (arith, c.if-count-left.false)) c.in-Ok.ensures.bytes.0 c.reading.invariant.so_far
          (λ taken far db stands. c.in_default-answer_held.ensures.answered db (taken ++ (take (min c.in-Ok.count c.reading.left) c.read.new.buf)) (g.K.Sink.held c.args.out.now) (g.D.DriverRow.seen c.args.drivers.now)
          (feeds db taken (take (min c.in-Ok.count c.reading.left) c.read.new.buf) c.reading.decoder c.feed.new.self (g.K.Sink.held c.args.out.now) (g.K.Sink.held c.reading.out) c.reading.core (g.D.DriverRow.seen c.args.drivers.now) (g.D.DriverRow.seen c.reading.drivers) (subst (λ n. (fed : List ℕ) (given : List Msg) → HasGiven c.reading.decoder fed given → HasGiven c.feed.new.self (fed ++ take n c.read.new.buf) given) is (on_ok c.feed.result _ c.if-is_err.ensures.value c.feed.ensures.stream)) (far db stands)))
          (c.reading.left - c.in-Ok.count) (omega (arith, c.if-count-left.false));
    }
