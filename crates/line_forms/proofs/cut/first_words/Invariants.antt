use Rattle.std.proofs.Common.{◌≡◌, ◌++◌, length, map}
use Rattle.line_forms.specs.Words.{words_of}
use Rattle.line_forms.proofs.cut.first_words.Given as goal

-- one word a turn is cut, and the cut words and those that are left are all
abbrev pub invariant-loop-i : goal.invariant-loop-i
invariant-loop-i l = (length l.words ≡ l.i) × (map (λ w. w.now) l.words ++ words_of l.rest ≡ words_of l.line)
