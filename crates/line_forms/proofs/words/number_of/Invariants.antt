use Rattle.line_forms.proofs.Numbers.{AreDigits}
use Rattle.line_forms.proofs.words.number_of.Given as goal

-- so far all are digits, and this is their value
abbrev pub invariant-loop-digit : goal.invariant-loop-digit
invariant-loop-digit l = AreDigits l.word l.digit-index l.value
