use Rattle.reg_books.proofs.Interfaces.{listed_is_indexed, checked_indexed}
use Rattle.reg_journal.proofs.Radios.{radio_listed}
use Rattle.reg_books.proofs.laws.indexes_name_interfaces.Goals as goal

pub returns-clause-listed : goal.returns-clause-listed
returns-clause-listed c = listed_is_indexed

pub returns-clause-radio : goal.returns-clause-radio
returns-clause-radio c = radio_listed

pub returns-clause-checked : goal.returns-clause-checked
returns-clause-checked c = checked_indexed
