use Rattle.std.proofs.Common.{List, ℕ, ◌∙◌, subst}
use Rattle.std.proofs.lemmas.Result.{err_from_is_err_and}
use Rattle.text_lines.specs.inner.Reading.{IsBareKind, IsBareRule}
use Rattle.text_lines.proofs.BareRules.{bare-fault, bare-rule}
use Rattle.text_lines.proofs.ValidSpelled.{valid_line}
use Rattle.text_lines.proofs.rule_line.parse_rule.Goals as goal

pub returns-in_err-rule-clause-rule : goal.returns-in_err-rule-clause-rule
returns-in_err-rule-clause-rule c =
    let p = err_from_is_err_and c.from_residual-in_err-rule.result c.from_residual-in_err-rule.ensures.1 in
    let squeezed = c.as_slice.ensures.value ∙ c.in_ok-squeeze.ensures.bare in
    rw (p.1, p.2) (bare-fault c.args.text.now c.in_err-rule.field-0.0 c.in_ok-readable.ensures.readable (subst (λ (line : List ℕ). IsBareKind line c.in_err-rule.field-0.0) squeezed c.in_err-rule.ensures))

pub returns-clause-rule : goal.returns-clause-rule
returns-clause-rule c =
    let squeezed = c.as_slice.ensures.value ∙ c.in_ok-squeeze.ensures.bare in
    bare-rule c.args.text.now c.in_ok-rule.rule c.in_ok-readable.ensures.readable (subst (λ (line : List ℕ). IsBareRule line c.in_ok-rule.rule) squeezed c.in_ok-rule.ensures)

pub returns-clause-valid : goal.returns-clause-valid
returns-clause-valid c = valid_line _ c.in_ok-rule.rule c.in_ok-rule.ensures.is

pub returns-clause-no_time : goal.returns-clause-no_time
returns-clause-no_time c = c.in_ok-rule.ensures.is.is.check_time

pub returns-clause-no_wmm : goal.returns-clause-no_wmm
returns-clause-no_wmm c = c.in_ok-rule.ensures.is.is.wmm
