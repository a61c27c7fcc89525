use Rattle.reg_journal.proofs.WorkedRows.{spared_by_radar, voided_by_radar}
use Rattle.reg_journal.proofs.laws.radar_beside_a_check.Goals as goal

pub returns-clause-voided : goal.returns-clause-voided
returns-clause-voided c = voided_by_radar

pub returns-clause-spared : goal.returns-clause-spared
returns-clause-spared c = spared_by_radar
