use Rattle.std.proofs.Common.{◌≡◌, ◌≤◌, ◌+◌, ℕ, List, Option, None, length}
use Rattle.rule_tables.specs.declared.domain.Domain.{Domain}
use Rattle.radio_drv.specs.Seen.{Seen}
use Rattle.wire_run.specs.inner.Steps.{IsReached, IsFedSoFar}
use Rattle.wire_run.proofs.stream.answer_held.Given as goal

abbrev pub invariant-messages : goal.invariant-messages
invariant-messages g l = record {
  ready : IsReached l.core (g.D.DriverRow.seen l.drivers);
  later : g.K.Sink.count l.initial.out ≤ g.K.Sink.count l.out;
  sound : l.decoder.fault ≡ None;
  kept : l.decoder.taken + length l.decoder.held ≡ l.initial.decoder.taken + length l.initial.decoder.held;
  so_far : (db : List Domain) (fed : List ℕ) (before : Option (List ℕ)) (heard : List (Option Seen))
      → IsFedSoFar db fed l.initial.decoder before (g.K.Sink.held l.initial.out) l.initial.core heard (g.D.DriverRow.seen l.initial.drivers)
      → IsFedSoFar db fed l.decoder before (g.K.Sink.held l.out) l.core heard (g.D.DriverRow.seen l.drivers);
}

-- the bytes of a message less each time
abbrev pub decreases-messages : goal.decreases-messages
decreases-messages g l = length l.decoder.held
