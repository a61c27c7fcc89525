use Rattle.db_reader.proofs.OneDatabase.{ReadsAs-unique}
use Rattle.db_reader.proofs.OneFault.{IsDbFault-unique, ReadsAs-no_fault}
use Rattle.db_reader.proofs.Total.{some_answer}
use Rattle.db_reader.proofs.laws.one_answer.Goals as goal

pub returns-clause-total : goal.returns-clause-total
returns-clause-total c = some_answer

pub returns-clause-database : goal.returns-clause-database
returns-clause-database c = ReadsAs-unique

pub returns-clause-fault : goal.returns-clause-fault
returns-clause-fault c = IsDbFault-unique

pub returns-clause-never_both : goal.returns-clause-never_both
returns-clause-never_both c = ReadsAs-no_fault
