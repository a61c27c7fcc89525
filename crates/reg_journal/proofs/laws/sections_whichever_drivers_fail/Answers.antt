use Rattle.reg_journal.proofs.OneRuling.{same_sections, tables_of_any}
use Rattle.reg_journal.proofs.laws.sections_whichever_drivers_fail.Goals as goal

pub returns-clause-same : goal.returns-clause-same
returns-clause-same c = same_sections

pub returns-clause-tables : goal.returns-clause-tables
returns-clause-tables c = tables_of_any
