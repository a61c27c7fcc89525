use Rattle.line_forms.specs.Words.{words_of}
use Rattle.line_forms.specs.inner.Walking.{IsFurthestSoFar}
use Rattle.line_forms.proofs.reader.read.Given as goal

abbrev pub invariant-loop-form : goal.invariant-loop-form
invariant-loop-form l = IsFurthestSoFar l.forms (words_of l.line) l.form-index l.best
