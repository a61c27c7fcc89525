use Rattle.std.proofs.Common.{◌≡◌, false}
use Rattle.line_tests.proofs.lines.fill.Given as goal

-- no newline came
abbrev pub invariant-loop : goal.invariant-loop
invariant-loop l = l.cutter.ended ≡ false
