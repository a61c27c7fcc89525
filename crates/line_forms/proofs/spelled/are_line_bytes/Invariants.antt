use Rattle.std.proofs.Common.{ℕ, ◌<◌, get_or, ◌↔◌, IsTrue}
use Rattle.line_forms.specs.Lines.{IsLineByte}
use Rattle.line_forms.proofs.spelled.are_line_bytes.Given as goal

-- so far all are of that kind
abbrev pub invariant-loop-byte : goal.invariant-loop-byte
invariant-loop-byte l = IsTrue l.all ↔ ((k : ℕ) → k < l.byte-index → IsLineByte (get_or l.line k 0))
