use Rattle.rule_text.proofs.RuleLaws.{add_all_stop, ruled_all, ruled_step}
use Rattle.rule_text.proofs.Stops.{handed_on}
use Rattle.rule_text.proofs.countries.add_rules.Goals as goal

pub returns-in_err-add_rule : goal.returns-in_err-add_rule
returns-in_err-add_rule c = λ above bare name is block codes are.
    handed_on c.from_residual.result c.in_err-add_rule.field-0.0 _ _ c.from_residual.ensures.1
    (add_all_stop bare c.args.rule.now name above c.args.codes.now c.loop-code.code-index c.loop-code.countries c.in_err-add_rule.field-0.0 c.loop-code-test.true is block codes
    (c.loop-code.invariant above bare name is block codes are) c.in_err-add_rule.ensures)

pub loop-code-preserved : goal.loop-code-preserved
loop-code-preserved c = λ above bare name is block codes are.
    ruled_step bare c.args.rule.now name above c.args.codes.now c.loop-code.code-index c.loop-code.countries c.add_rule.new.countries c.loop-code-test.true is block codes
    (c.loop-code.invariant above bare name is block codes are) c.in_ok-add_rule.ensures

pub returns : goal.returns
returns c = λ above bare name is block codes are.
    ruled_all bare name above c.args.codes.now c.loop-code.code-index c.loop-code.countries c.loop-code-test.false block (c.loop-code.invariant above bare name is block codes are)
