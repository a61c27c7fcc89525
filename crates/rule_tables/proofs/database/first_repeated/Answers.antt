use Rattle.std.proofs.Common.{below_more, arith}
use Rattle.std.proofs.lemmas.List.{get_or_default}
use Rattle.rule_tables.specs.Databases.{IsRepeatedAt}
use Rattle.rule_tables.proofs.Repeats.{before_from_repeated, distinct_from_unrepeated}
use Rattle.rule_tables.proofs.database.first_repeated.Goals as goal

pub loop-k-preserved : goal.loop-k-preserved
loop-k-preserved c =
    below_more (λ k. IsRepeatedAt c.args.rules.now k → ⊥) c.loop-k.k c.loop-k.invariant (λ repeated.
    let found = c.contains_rule.ensures.contains.1 (before_from_repeated _ _ _ c.loop-k-test.true (get_or_default _ _ _ _ c.loop-k-test.true) repeated) in cc)

pub returns : goal.returns
returns c = distinct_from_unrepeated c.args.rules.now (λ k h. c.loop-k.invariant k (omega arith))
