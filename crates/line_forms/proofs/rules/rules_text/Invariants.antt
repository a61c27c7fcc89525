use Rattle.std.proofs.Common.{◌≡◌, ◌++◌, length}
use Rattle.line_forms.specs.Forms.{rules_text}
use Rattle.line_forms.proofs.rules.rules_text.Given as goal

abbrev pub invariant-words : goal.invariant-words
invariant-words l = l.text ++ rules_text l.words ≡ rules_text l.initial.words

abbrev pub decreases-words : goal.decreases-words
decreases-words l = length l.words
