use Rattle.std.proofs.Common.{◌≡◌, ◌++◌, drop}
use Rattle.line_printing.specs.Printed.{hex_text}
use Rattle.line_printing.proofs.digits.put_hex.Given as goal

-- what was printed, and the digits of the bytes that are left, are all
abbrev pub invariant-loop-byte : goal.invariant-loop-byte
invariant-loop-byte l = l.out ++ hex_text (drop l.byte-index l.body) ≡ l.initial.out ++ hex_text l.body
