use Rattle.std.proofs.Common.{◌≡◌, ltb, ltb-true, ltb-false, true, false, arith, rules}
use Rattle.std.specs.List.Sorted.{IsPartitionPoint}
use Rattle.std.proofs.lemmas.List.Sorted.{IsPartitionPoint-from_clause, IsPartitionedBy-ltb}
use Rattle.rule_tables.specs.Code.{key}
use Rattle.rule_tables.specs.declared.domain.Domain.{Domain}
use Rattle.rule_tables.proofs.Sought.{not_falling}
use Rattle.rule_tables.proofs.database.place_of.Goals as goal

point : (c : goal.After-partition_point) → IsPartitionPoint (λ (d : Domain). ltb (key d.alpha2) c.key-key.result ≡ true) (λ (d : Domain). ltb (key d.alpha2) c.key-key.result ≡ false) c.args.domains.now c.partition_point.result
point c =
    IsPartitionPoint-from_clause (λ (d : Domain). ltb (key d.alpha2) c.key-key.result) _ _ c.partition_point.ensures.partitioned
    (IsPartitionedBy-ltb (λ (d : Domain). key d.alpha2) _ c.key-key.result (not_falling c.args.domains.now c.requires)) (λ a r q k. search rules)

pub returns-clause-below : goal.returns-clause-below
returns-clause-below c = λ k d below. rw (← c.key-key.ensures) (ltb-true _ _ ((point c).0 k d (omega arith) below))

pub returns-clause-at : goal.returns-clause-at
returns-clause-at c = λ d within. rw (← c.key-key.ensures) (ltb-false _ _ ((point c).1 c.partition_point.result d (omega arith) within))
