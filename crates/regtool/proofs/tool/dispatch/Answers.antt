use Rattle.std.proofs.Common.{refl}
use Rattle.regtool.proofs.Complete.{answer_of_make, answer_of_pack, not_named}
use Rattle.regtool.proofs.tool.dispatch.Goals as goal

pub returns-then-are_only-clause-answer : goal.returns-then-are_only-clause-answer
returns-then-are_only-clause-answer g c = answer_of_pack _ _ _ (c.are_only.ensures.0 c.if-are_only.true) c.pack.ensures.packed (record { bytes = refl; faults = refl }) refl

pub returns-in-Some-number_named-clause-answer : goal.returns-in-Some-number_named-clause-answer
returns-in-Some-number_named-clause-answer g c =
    answer_of_make _ _ _ _ c.in-Some-number_named.ensures.named c.make.ensures.made (record { bytes = refl; faults = refl }) (record { bytes = refl; faults = refl })

pub dispatch_over_database-requires-clause-no_pack : goal.dispatch_over_database-requires-clause-no_pack
dispatch_over_database-requires-clause-no_pack g c = not_named _ _ c.are_only.ensures c.if-are_only.false
