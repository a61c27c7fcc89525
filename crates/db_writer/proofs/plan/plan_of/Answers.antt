use Rattle.std.proofs.Common.{arith}
use Rattle.db_writer.proofs.Few.{few_domains}
use Rattle.db_writer.proofs.Uses.{all_have_wmm, all_filed}
use Rattle.db_writer.proofs.plan.plan_of.Goals as goal

pub wmm_section-requires-clause-few : goal.wmm_section-requires-clause-few
wmm_section-requires-clause-few c = few_domains _ c.requires

pub end_of_wmm-requires-clause-first : goal.end_of_wmm-requires-clause-first
end_of_wmm-requires-clause-first c =
    let few = few_domains c.args.domains.now c.requires in
    omega (arith, few, c.in_ok-wmm_rules.ensures.first)

pub rule_section-requires-clause-few : goal.rule_section-requires-clause-few
rule_section-requires-clause-few c = few_domains _ c.requires

pub rule_section-requires-clause-there : goal.rule_section-requires-clause-there
rule_section-requires-clause-there c = all_have_wmm _ _ c.in_ok-wmm_rules.ensures.section

pub collection_section-requires-clause-few : goal.collection_section-requires-clause-few
collection_section-requires-clause-few c = few_domains _ c.requires

pub collection_section-requires-clause-there : goal.collection_section-requires-clause-there
collection_section-requires-clause-there c = all_filed _ _ c.in_ok-wmm_rules.ensures.section c.in_ok-rules.ensures.section
