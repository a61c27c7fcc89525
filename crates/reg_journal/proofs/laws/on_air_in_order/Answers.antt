use Rattle.reg_journal.proofs.InOrder.{entries_exactly, in_order}
use Rattle.reg_journal.proofs.laws.on_air_in_order.Goals as goal

pub returns-clause-entries : goal.returns-clause-entries
returns-clause-entries c = entries_exactly

pub returns-clause-once : goal.returns-clause-once
returns-clause-once c = λ db J r due. (in_order db J r due).once

pub returns-clause-order : goal.returns-clause-order
returns-clause-order c = λ db J r due. (in_order db J r due).order
