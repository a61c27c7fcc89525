use Rattle.std.proofs.Common.{All, map}
use Rattle.line_forms.specs.Forms.{HasForm}
use Rattle.line_forms.specs.inner.Fitting.{Misfits}
use Rattle.line_forms.specs.inner.Walking.{HaveNoForm}
use Rattle.line_forms.specs.declared.table.TheConstants.{FORMS}
use Rattle.line_forms.proofs.FormsOfWords.{matched, no-form-of-all}
use Rattle.line_forms.proofs.fitting.fitting_any.Goals as goal

pub returns : goal.returns
returns c =
    let words = map (λ w. w.now) c.args.words.now in
    matched c.fitting-2.result (All (Misfits words) FORMS) (HaveNoForm words) (λ x. HasForm words x.0 x.1) (λ x. HasForm words x.0 x.1) (no-form-of-all words) (λ x h. h) c.fitting-2.ensures
