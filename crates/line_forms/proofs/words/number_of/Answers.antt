use Rattle.std.proofs.Common.{◌≤◌, ◌∙◌, length, sym, rules}
use Rattle.line_forms.proofs.Numbers.{digits-next, number_of-all, number_of-none, number_of-stopped}
use Rattle.line_forms.proofs.words.number_of.Goals as goal

pub returns-then-not-begins_number : goal.returns-then-not-begins_number
returns-then-not-begins_number c = number_of-none c.args.word.now (sym c.begins_number.ensures ∙ c.if-not-begins_number.true)

pub returns-in_err-value : goal.returns-in_err-value
returns-in_err-value c =
    rw c.from_residual.ensures (number_of-stopped c.args.word.now c.loop-digit.digit-index c.loop-digit.value _ c.loop-digit-test.true c.loop-digit.invariant c.in_err-value.ensures.next)

pub loop-digit-preserved : goal.loop-digit-preserved
loop-digit-preserved c =
    digits-next c.args.word.now c.loop-digit.digit-index c.loop-digit.value _ _ c.loop-digit-test.true c.loop-digit.invariant c.in_ok-value.ensures.next c.in_ok-value.ensures.fits

pub returns : goal.returns
returns c =
    let past : length c.args.word.now ≤ c.loop-digit.digit-index = search rules in
    number_of-all c.args.word.now c.loop-digit.digit-index c.loop-digit.value past (sym c.begins_number.ensures ∙ c.if-not-begins_number.false) c.loop-digit.invariant
