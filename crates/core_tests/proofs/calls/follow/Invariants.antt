use Rattle.std.proofs.Common.{◌≡◌, false}
use Rattle.reg_core.specs.Stepping.{IsReady}
use Rattle.core_tests.proofs.calls.follow.Given as goal

abbrev pub invariant-loop-byte : goal.invariant-loop-byte
invariant-loop-byte g l = record {
  ready : IsReady l.core (g.D.DriverRow.seen l.drivers);
  unended : l.cutter.ended ≡ false;
}
