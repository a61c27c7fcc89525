use Rattle.std.proofs.Common.{length, flat_map, ap, subst, Contains, arith}
use Rattle.db_writer.specs.Order.{IsFileSection}
use Rattle.db_writer.specs.inner.Gathered.{wmm_of_domain}
use Rattle.db_writer.proofs.Uses.{section_of_used, wmm_used, wmm-few}
use Rattle.db_writer.proofs.plan.wmm_section.Goals as goal

pub section_of-requires-clause-few : goal.section_of-requires-clause-few
section_of-requires-clause-few c =
    let is = ap length c.in_ok-records.ensures in
    let few = wmm-few c.args.domains.now c.requires.valid in
    omega (arith, is, few, c.requires.few)

pub returns-clause-section : goal.returns-clause-section
returns-clause-section c =
    section_of_used (λ bytes. bytes) (flat_map wmm_of_domain c.args.domains.now) _ _ (wmm_used c.args.domains.now)
    (subst (λ xs. IsFileSection (λ bytes. bytes) (Contains xs) c.in_ok-section.section.records.items) c.in_ok-records.ensures c.in_ok-section.ensures.section)

pub returns-clause-few : goal.returns-clause-few
returns-clause-few c =
    let is = ap length c.in_ok-records.ensures in
    let few = wmm-few c.args.domains.now c.requires.valid in
    omega (arith, is, few, c.requires.few, c.in_ok-section.ensures.few)
