use Rattle.std.proofs.Common.{◌≡◌, ◌++◌, take, drop}
use Rattle.text_lines.specs.inner.Reading.{behind_digits, digits_of}
use Rattle.text_lines.proofs.scanner.split_digits.Given as goal

-- what is left is cut as the whole, behind what was gone over
abbrev pub invariant-loop-i : goal.invariant-loop-i
invariant-loop-i l = record {
  digits : take l.i l.bytes ++ digits_of (drop l.i l.bytes) ≡ digits_of l.bytes;
  behind : behind_digits (drop l.i l.bytes) ≡ behind_digits l.bytes;
}
