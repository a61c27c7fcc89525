use Rattle.reg_books.proofs.Apart.{slot-small}
use Rattle.reg_books.proofs.Interfaces.{one_a_slot, runs_in_slot, idle_in_slot}
use Rattle.reg_journal.proofs.Later.{radio_later}
use Rattle.reg_books.proofs.Later.{slot_later}
use Rattle.reg_books.proofs.laws.interfaces_have_their_slots.Goals as goal

pub returns-clause-small : goal.returns-clause-small
returns-clause-small c = slot-small

pub returns-clause-stays : goal.returns-clause-stays
returns-clause-stays c = λ db newer J index radio due made. (radio_later db newer J index radio due made, slot_later db newer J index radio due made)

pub returns-clause-apart : goal.returns-clause-apart
returns-clause-apart c = one_a_slot

pub returns-clause-runs : goal.returns-clause-runs
returns-clause-runs c = runs_in_slot

pub returns-clause-idle : goal.returns-clause-idle
returns-clause-idle c = idle_in_slot
