use Rattle.std.proofs.Common.{◌≡◌, ◌≤◌, ◌+◌, ℕ, List, [], length, false}
use Rattle.std.specs.Io.KnownBytes.{Consumes}
use Rattle.rule_tables.specs.declared.domain.Domain.{Domain}
use Rattle.reg_core.specs.Kept.{StandsFor}
use Rattle.reg_core.specs.Stepping.{IsReady}
use Rattle.db_commands.specs.Devices.{script_limit}
use Rattle.script_run.specs.inner.Turns.{IsReadSoFar}
use Rattle.script_run.proofs.reading.answer_script.Given as goal

abbrev pub invariant-reading : goal.invariant-reading
invariant-reading g l = record {
  ready : IsReady l.core (g.D.DriverRow.seen l.drivers);
  read_later : g.S.Source.count l.initial.input ≤ g.S.Source.count l.input;
  written_later : g.K.Sink.count l.initial.out ≤ g.K.Sink.count l.out;
  unended : l.cutter.ended ≡ false;
  so_far : (taken : List ℕ) × Consumes (g.S.Source.left l.initial.input) (g.S.Source.left l.input) taken
      × (length taken + l.left ≡ script_limit)
      × ((db : List Domain) → StandsFor db l.initial.core [] → IsReadSoFar db taken l.cutter (g.K.Sink.held l.initial.out) (g.K.Sink.held l.out) l.core
      (g.D.DriverRow.seen l.initial.drivers) (g.D.DriverRow.seen l.drivers));
}

-- a byte less each time
abbrev pub decreases-reading : goal.decreases-reading
decreases-reading g l = l.left
