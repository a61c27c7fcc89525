use Rattle.text_lines.proofs.OneRule.{one_kind_only, one_rule_only, rule_and_kind, rule_or_kind}
use Rattle.text_lines.proofs.laws.one_rule.Goals as goal

pub returns-clause-total : goal.returns-clause-total
returns-clause-total c = rule_or_kind

pub returns-clause-rule : goal.returns-clause-rule
returns-clause-rule c = one_rule_only

pub returns-clause-kind : goal.returns-clause-kind
returns-clause-kind c = one_kind_only

pub returns-clause-never_both : goal.returns-clause-never_both
returns-clause-never_both c = rule_and_kind
