use Rattle.std.proofs.Common.{◌≤◌, map, subst, sym, All, Contains}
use Rattle.db_writer.specs.Order.{IsFileSection}
use Rattle.db_writer.specs.Records.{collection_key, collection_words}
use Rattle.db_writer.specs.LaidOut.{collection_record}
use Rattle.db_writer.specs.inner.Filed.{rule_at_in}
use Rattle.db_writer.proofs.Sorted.{kept_all}
use Rattle.db_writer.proofs.Uses.{section_of_used, collections_used, collections-short}
use Rattle.db_writer.proofs.plan.collection_section.Goals as goal

pub section_of-requires-clause-short : goal.section_of-requires-clause-short
section_of-requires-clause-short c =
    subst (All (λ x. collection_words x ≤ 65)) (sym c.in_ok-records.ensures) (collections-short _ c.args.domains.now c.requires.valid)

pub returns-clause-section : goal.returns-clause-section
returns-clause-section c =
    let rule_at = rule_at_in c.args.rules.now in
    section_of_used collection_key (map (collection_record rule_at) c.args.domains.now) _ _ (collections_used rule_at c.args.domains.now)
    (subst (λ xs. IsFileSection collection_key (Contains xs) c.in_ok-section.section.records.items) c.in_ok-records.ensures c.in_ok-section.ensures.section)

pub returns-clause-short : goal.returns-clause-short
returns-clause-short c =
    kept_all (λ x. collection_words x ≤ 65) collection_key _ _ c.in_ok-section.ensures.section
    (subst (All (λ x. collection_words x ≤ 65)) (sym c.in_ok-records.ensures) (collections-short _ c.args.domains.now c.requires.valid))
