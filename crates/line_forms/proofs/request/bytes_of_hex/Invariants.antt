use Rattle.std.proofs.Common.{◌≡◌, ◌++◌, length}
use Rattle.line_forms.specs.Spelling.{hex_bytes}
use Rattle.line_forms.proofs.request.bytes_of_hex.Given as goal

abbrev pub invariant-loop-left : goal.invariant-loop-left
invariant-loop-left l = l.bytes ++ hex_bytes l.left ≡ hex_bytes l.digits

abbrev pub decreases-loop-left : goal.decreases-loop-left
decreases-loop-left l = length l.left
