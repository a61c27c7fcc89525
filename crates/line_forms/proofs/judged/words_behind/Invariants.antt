use Rattle.std.proofs.Common.{◌≡◌, drop}
use Rattle.line_forms.specs.Words.{words_of}
use Rattle.line_forms.proofs.judged.words_behind.Given as goal

abbrev pub invariant-loop-i : goal.invariant-loop-i
invariant-loop-i l = l.words ≡ drop l.i (words_of l.line)
