use Rattle.rule_tables.specs.declared.code.Region.TheVariants.{Etsi}
use Rattle.reg_journal.specs.Applicable.{region_of}
use Rattle.reg_journal.proofs.ToldStates.{tells_region, told_lapsed}
use Rattle.reg_journal.proofs.laws.lapsing_is_decided.Goals as goal

pub returns-clause-region : goal.returns-clause-region
returns-clause-region c = λ db J r. tells_region (region_of db J r) Etsi

pub returns-clause-lapsed : goal.returns-clause-lapsed
returns-clause-lapsed c = told_lapsed
