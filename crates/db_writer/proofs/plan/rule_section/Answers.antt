use Rattle.std.proofs.Common.{length, flat_map, ap, subst, Contains, arith}
use Rattle.db_writer.specs.Order.{IsFileSection}
use Rattle.db_writer.specs.Records.{rule_key}
use Rattle.db_writer.specs.LaidOut.{wmm_place}
use Rattle.db_writer.specs.inner.Gathered.{records_of_domain}
use Rattle.db_writer.proofs.Uses.{section_of_used, rules_used, rules-few, rule_words-le}
use Rattle.db_writer.proofs.plan.rule_section.Goals as goal

pub section_of-requires-clause-short : goal.section_of-requires-clause-short
section_of-requires-clause-short c = λ k d within. rule_words-le _

pub section_of-requires-clause-few : goal.section_of-requires-clause-few
section_of-requires-clause-few c =
    let is = ap length c.in_ok-records.ensures in
    let few = rules-few (wmm_place c.args.wmm_rules.now.first c.args.wmm_rules.now.records.items) c.args.domains.now c.requires.valid in
    omega (arith, is, few, c.requires.few)

pub returns-clause-section : goal.returns-clause-section
returns-clause-section c =
    let wmm_at = wmm_place c.args.wmm_rules.now.first c.args.wmm_rules.now.records.items in
    section_of_used rule_key (flat_map (records_of_domain wmm_at) c.args.domains.now) _ _ (rules_used wmm_at c.args.domains.now)
    (subst (λ xs. IsFileSection rule_key (Contains xs) c.in_ok-section.section.records.items) c.in_ok-records.ensures c.in_ok-section.ensures.section)

pub returns-clause-few : goal.returns-clause-few
returns-clause-few c =
    let is = ap length c.in_ok-records.ensures in
    let few = rules-few (wmm_place c.args.wmm_rules.now.first c.args.wmm_rules.now.records.items) c.args.domains.now c.requires.valid in
    omega (arith, is, few, c.requires.few, c.in_ok-section.ensures.few)
