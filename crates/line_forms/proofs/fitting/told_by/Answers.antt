use Rattle.line_forms.proofs.FormsOfWords.{other-length}
use Rattle.line_forms.proofs.fitting.told_by.Goals as goal

pub returns-then-words-row : goal.returns-then-words-row
returns-then-words-row c = other-length (λ w. w.now) c.args.words.now c.args.form (λ e. c.if-words-row.true (rw c.slots-row.ensures.slots e))
