use Rattle.std.proofs.Common.{subst, sym}
use Rattle.line_forms.specs.Forms.{AreRulesOfText, BeginsRules}
use Rattle.line_forms.proofs.RuleParts.{askable}
use Rattle.line_forms.proofs.rules.rules_request.Goals as goal

pub returns-in_default-clause-asked : goal.returns-in_default-clause-asked
returns-in_default-clause-asked c = λ q h. c.in_default.ensures h.radio h.rest (subst (λ ws. BeginsRules ws h.radio h.rest) (sym c.new-words.ensures) h.begins)

pub returns-in-Some-2-clause-askable : goal.returns-in-Some-2-clause-askable
returns-in-Some-2-clause-askable c =
    let are : AreRulesOfText c.as_slice.result.now c.in-Some-2.rules = rw c.in-Some-2.is at c.in_ok-rules.ensures in
    askable _ c.in-Some-2.rules are.each
