use Rattle.std.proofs.Common.{◌≡◌, ◌++◌, drop}
use Rattle.text_lines.specs.Lines.{bare, solid}
use Rattle.text_lines.proofs.lines.squeeze.Given as goal

-- what was kept, and what is left without its blanks, is what counts
abbrev pub invariant-loop-byte : goal.invariant-loop-byte
invariant-loop-byte l = l.buffer.items ++ solid (drop l.byte-index l.text) ≡ bare l.line
