use Rattle.std.proofs.Common.{◌≡◌, ◌≤◌, false}
use Rattle.script_run.proofs.Pieces.{ReadsOn}
use Rattle.pack_command.specs.inner.Steps.{IsPackedSoFar}
use Rattle.pack_command.proofs.command.pack.Given as goal

abbrev pub invariant-reading : goal.invariant-reading
invariant-reading g l = record {
  read_later : g.S.Source.count l.initial.input ≤ g.S.Source.count l.input;
  written_later : g.K.Sink.count l.initial.out ≤ g.K.Sink.count l.out;
  unended : l.cutter.ended ≡ false;
  fewer : l.progress.requests ≤ l.progress.lines;
  so_far : ReadsOn (g.S.Source.left l.initial.input) (g.S.Source.left l.input) l.left
      (λ taken. IsPackedSoFar taken l.cutter (g.K.Sink.held l.initial.out) (g.K.Sink.held l.out) l.progress);
}

-- a byte less each time
abbrev pub decreases-reading : goal.decreases-reading
decreases-reading g l = l.left
