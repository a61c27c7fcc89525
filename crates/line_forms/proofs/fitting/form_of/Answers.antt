use Rattle.std.proofs.Common.{take}
use Rattle.line_forms.specs.Forms.{HasForm}
use Rattle.line_forms.specs.inner.Walking.{HaveNoForm}
use Rattle.line_forms.proofs.FormsOfWords.{form-of-first, matched, no-form-of-first}
use Rattle.line_forms.proofs.fitting.form_of.Goals as goal

pub returns : goal.returns
returns c =
    let words = c.args.cut.now in
    matched c.fitting_any.result (HaveNoForm (take 16 words)) (HaveNoForm words) (λ x. HasForm (take 16 words) x.0 x.1) (λ x. HasForm words x.0 x.1)
    (no-form-of-first words) (λ x h. form-of-first words x.0 x.1 h) (rw c.words.ensures at c.fitting_any.ensures)
