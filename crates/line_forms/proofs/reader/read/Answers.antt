use Rattle.std.proofs.Common.{◌<◌, length, get_or, rules, arith}
use Rattle.std.proofs.lemmas.List.{get_or_default}
use Rattle.line_forms.specs.Words.{words_of}
use Rattle.line_forms.specs.declared.form.Form.TheVariants.{At}
use Rattle.line_forms.proofs.Found.{found-whole, furthest-next}
use Rattle.line_forms.proofs.reader.read.Goals as goal

pub returns-then-is_whole-clause-form : goal.returns-then-is_whole-clause-form
returns-then-is_whole-clause-form c =
    let lt : c.loop-form.form-index < length c.args.forms.now = search rules in
    found-whole c.args.forms.now (words_of c.args.line.now) c.loop-form.form-index (get_or c.args.forms.now c.loop-form.form-index At) _ _ _ lt
    (get_or_default c.args.forms.now c.loop-form.form-index At _ lt) (rw (c.slots.ensures.slots, c.new-words.ensures) at c.walk-draft.ensures.stops) (c.is_whole.ensures.0 c.if-is_whole.true)

pub loop-form-preserved : goal.loop-form-preserved
loop-form-preserved c =
    let lt : c.loop-form.form-index < length c.args.forms.now = search rules in
    let few = c.walk-draft.ensures.few in
    let most = c.slots.ensures.few in
    furthest-next c.args.forms.now (words_of c.args.line.now) c.loop-form.form-index (get_or c.args.forms.now c.loop-form.form-index At) c.loop-form.best c.walk-draft.result.0 c.later.result _
    c.loop-form.invariant lt (get_or_default c.args.forms.now c.loop-form.form-index At _ lt) (rw (c.slots.ensures.slots, c.new-words.ensures) at c.walk-draft.ensures.stops)
    (λ e. let one = c.is_whole.ensures.1 e in let other = c.if-is_whole.false in cc) (omega arith) c.later.ensures
