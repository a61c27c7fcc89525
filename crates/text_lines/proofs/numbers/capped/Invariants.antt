use Rattle.std.proofs.Common.{◌≡◌, ◌≤◌, min, drop}
use Rattle.text_lines.specs.inner.Reading.{digits_from}
use Rattle.text_lines.proofs.numbers.capped.Given as goal

-- what is left, behind the value so far, has the value of the whole
abbrev pub invariant-loop-digit : goal.invariant-loop-digit
invariant-loop-digit l = record {
  same : min (digits_from l.sum (drop l.digit-index l.digits)) l.cap ≡ min (digits_from l.value l.digits) l.cap;
  below : l.sum ≤ l.cap;
}
