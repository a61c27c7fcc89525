use Rattle.std.proofs.Common.{ℕ, ◌<◌, get_or, map}
use Rattle.line_forms.specs.declared.form.Form.{Form}
use Rattle.line_forms.specs.inner.Fitting.{Misfits}
use Rattle.line_forms.proofs.fitting.fitting.Given as goal

-- the words have none of the forms so far
abbrev pub invariant-loop-form : goal.invariant-loop-form
invariant-loop-form l = (k : ℕ) (d : Form) → k < l.form-index → Misfits (map (λ w. w.now) l.words) (get_or l.forms k d)
