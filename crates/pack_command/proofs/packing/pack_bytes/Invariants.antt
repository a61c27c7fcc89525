use Rattle.std.proofs.Common.{◌≡◌, ◌≤◌, ◌+◌, ℕ, List, ◌++◌, length, take, false, Option}
use Rattle.pack_command.specs.inner.Steps.{IsPackedSoFar}
use Rattle.pack_command.proofs.packing.pack_bytes.Given as goal

abbrev pub invariant-loop-byte : goal.invariant-loop-byte
invariant-loop-byte g l = record {
  room : l.progress.lines + length l.bytes ≤ 4294967295 + l.byte-index;
  fewer : l.progress.requests ≤ l.progress.lines;
  later : g.K.Sink.count l.initial.out ≤ g.K.Sink.count l.out;
  unended : l.cutter.ended ≡ false;
  so_far : (taken : List ℕ) (before : Option (List ℕ))
      → IsPackedSoFar taken l.initial.cutter before (g.K.Sink.held l.initial.out) l.initial.progress
      → IsPackedSoFar (taken ++ take l.byte-index l.bytes) l.cutter before (g.K.Sink.held l.out) l.progress;
}
