use Rattle.std.proofs.Common.{◌∙◌, sym}
use Rattle.line_forms.proofs.RuleParts.{begins-rules}
use Rattle.line_forms.proofs.rules.rules_radio.Goals as goal

pub returns : goal.returns
returns c =
    begins-rules c.args.words.now _ _ _ c.in_ok-first.first.now c.in_ok-second.second.now c.in_ok-third.third.now c.in_ok-radio.radio c.in_ok-first.ensures.word c.in_ok-second.ensures.word
    c.in_ok-third.ensures.word (sym c.is_word.ensures ∙ c.if-not-is_word.false) (sym c.is_word-2.ensures ∙ c.if-not-is_word-2.false) c.in_ok-radio.ensures
