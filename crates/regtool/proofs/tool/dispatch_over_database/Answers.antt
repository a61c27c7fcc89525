use Rattle.std.proofs.Common.{refl}
use Rattle.regtool.proofs.Complete.{answer_of_run, answer_of_wire, no_command}
use Rattle.regtool.proofs.tool.dispatch_over_database.Goals as goal

pub returns-in-Some-clause-answer : goal.returns-in-Some-clause-answer
returns-in-Some-clause-answer g c = answer_of_run _ _ _ _ c.in-Some.ensures c.run.ensures.run

pub returns-in-Some-database_named-clause-answer : goal.returns-in-Some-database_named-clause-answer
returns-in-Some-database_named-clause-answer g c = answer_of_wire _ _ _ _ c.in-Some-database_named.ensures c.wire.ensures.wire

pub returns-in-None-database_named-clause-answer : goal.returns-in-None-database_named-clause-answer
returns-in-None-database_named-clause-answer g c = (
  no_command _ c.requires.no_conversion c.in-None.ensures c.in-None-database_named.ensures c.requires.no_make c.requires.no_pack,
  record { bytes = refl; faults = refl },
  record { bytes = refl; faults = refl },
  (record { bytes = refl; faults = refl }, refl),
)
