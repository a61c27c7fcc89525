use Rattle.std.proofs.Common.{◌≤◌, ◌+◌, ◌-◌, length}
use Rattle.std.specs.Io.KnownBytes.{Consumes}
use Rattle.reg_base.proofs.read_all.read_to_end.Given as goal

abbrev pub invariant-reading : goal.invariant-reading
invariant-reading g l = record {
  within : length l.bytes ≤ l.most;
  taken : Consumes (g.S.Source.left l.initial.input) (g.S.Source.left l.input) l.bytes;
  later : g.S.Source.count l.initial.input ≤ g.S.Source.count l.input;
}

abbrev pub decreases-reading : goal.decreases-reading
decreases-reading g l = l.most + 1 - length l.bytes
