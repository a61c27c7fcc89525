use Rattle.std.proofs.Common.{◌≡◌, ◌≤◌, ◌-◌, ℕ, List, ◌++◌, length, take, false, Option}
use Rattle.rule_tables.specs.declared.domain.Domain.{Domain}
use Rattle.radio_drv.specs.Seen.{Seen}
use Rattle.reg_core.specs.Stepping.{IsReady}
use Rattle.script_run.specs.inner.Turns.{IsReadSoFar}
use Rattle.script_run.proofs.answering.answer_bytes.Given as goal

abbrev pub invariant-pieces : goal.invariant-pieces
invariant-pieces g l = record {
  within : l.place ≤ length l.bytes;
  ready : IsReady l.core (g.D.DriverRow.seen l.drivers);
  later : g.K.Sink.count l.initial.out ≤ g.K.Sink.count l.out;
  unended : l.cutter.ended ≡ false;
  so_far : (db : List Domain) (taken : List ℕ) (before : Option (List ℕ)) (heard : List (Option Seen))
      → IsReadSoFar db taken l.initial.cutter before (g.K.Sink.held l.initial.out) l.initial.core heard (g.D.DriverRow.seen l.initial.drivers)
      → IsReadSoFar db (taken ++ take l.place l.bytes) l.cutter before (g.K.Sink.held l.out) l.core heard (g.D.DriverRow.seen l.drivers);
}

abbrev pub decreases-pieces : goal.decreases-pieces
decreases-pieces g l = length l.bytes - l.place
