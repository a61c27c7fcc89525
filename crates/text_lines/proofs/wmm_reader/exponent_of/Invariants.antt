use Rattle.std.proofs.Common.{◌+◌, ◌^◌, ◌<◌, ◌≢◌, ℕ}
use Rattle.text_lines.proofs.wmm_reader.exponent_of.Given as goal

abbrev pub invariant-loop-exponent : goal.invariant-loop-exponent
invariant-loop-exponent l = (k : ℕ) → k < l.exponent → l.window + 1 ≢ 2 ^ k
