use Rattle.rule_text.proofs.OneAnswer.{TextOf-unique, TextOf-no_fault, IsTextFault-unique}
use Rattle.rule_text.proofs.Total.{some_answer}
use Rattle.rule_text.proofs.laws.one_answer.Goals as goal

pub returns-clause-total : goal.returns-clause-total
returns-clause-total c = some_answer

pub returns-clause-database : goal.returns-clause-database
returns-clause-database c = TextOf-unique

pub returns-clause-fault : goal.returns-clause-fault
returns-clause-fault c = IsTextFault-unique

pub returns-clause-never_both : goal.returns-clause-never_both
returns-clause-never_both c = TextOf-no_fault
