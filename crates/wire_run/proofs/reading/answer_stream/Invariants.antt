use Rattle.std.proofs.Common.{◌≡◌, ◌≤◌, ◌+◌, List, [], None, length}
use Rattle.rule_tables.specs.declared.domain.Domain.{Domain}
use Rattle.reg_core.specs.Kept.{StandsFor}
use Rattle.script_run.proofs.Pieces.{ReadsOn}
use Rattle.wire_run.specs.Streaming.{stream_limit}
use Rattle.wire_run.specs.inner.Steps.{IsReached, IsWholeSoFar}
use Rattle.wire_run.proofs.reading.answer_stream.Given as goal

abbrev pub invariant-reading : goal.invariant-reading
invariant-reading g l = record {
  ready : IsReached l.core (g.D.DriverRow.seen l.drivers);
  read_later : g.S.Source.count l.initial.input ≤ g.S.Source.count l.input;
  written_later : g.K.Sink.count l.initial.out ≤ g.K.Sink.count l.out;
  sound : l.decoder.fault ≡ None;
  few : l.decoder.taken + length l.decoder.held + l.left ≤ stream_limit;
  so_far : ReadsOn (g.S.Source.left l.initial.input) (g.S.Source.left l.input) l.left
      (λ taken. (db : List Domain) → StandsFor db l.initial.core [] → IsWholeSoFar db taken l.decoder (g.K.Sink.held l.initial.out) (g.K.Sink.held l.out) l.core
      (g.D.DriverRow.seen l.initial.drivers) (g.D.DriverRow.seen l.drivers));
}

-- a byte less each time
abbrev pub decreases-reading : goal.decreases-reading
decreases-reading g l = l.left
