use Rattle.line_forms.proofs.RuleParts.{read-last, so_far-more}
use Rattle.line_forms.proofs.rules.rules_of_text.Goals as goal

pub returns-in_default : goal.returns-in_default
returns-in_default c =
    read-last c.args.text.now c.parts.left.now c.cut_part.result.0.now c.parts.rules c.push.new.self c.in-Ok.rule c.few_rules.result c.parts.invariant (rw c.in_default.is at c.cut_part.ensures.parts)
    c.in-Ok.ensures.rule c.in_ok-push-in-Ok.ensures.ok c.few_rules.ensures

pub parts-preserved : goal.parts-preserved
parts-preserved c =
    rw c.in_ok-push-in-Ok.ensures.ok (so_far-more c.args.text.now c.parts.left.now c.in-Some.rest.now c.cut_part.result.0.now c.parts.rules c.in-Ok.rule c.parts.invariant
    (rw c.in-Some.is at c.cut_part.ensures.parts) c.in-Ok.ensures.rule)
