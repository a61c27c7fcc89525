use Rattle.rule_intersect.proofs.Answered.{table_or_too_many}
use Rattle.rule_intersect.proofs.OneTable.{IsTableOf-unique, IsTooMany-unique, no_table_of_too_many}
use Rattle.rule_intersect.proofs.laws.one_table.Goals as goal

pub returns-clause-some : goal.returns-clause-some
returns-clause-some c = table_or_too_many

pub returns-clause-table : goal.returns-clause-table
returns-clause-table c = IsTableOf-unique

pub returns-clause-fault : goal.returns-clause-fault
returns-clause-fault c = IsTooMany-unique

pub returns-clause-either : goal.returns-clause-either
returns-clause-either c = no_table_of_too_many
