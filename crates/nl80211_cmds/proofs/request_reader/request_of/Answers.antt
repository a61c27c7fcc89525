use Rattle.nl80211_cmds.proofs.Answered.{answer_asks, answer_asked, answer_fault, answer_line}
use Rattle.nl80211_cmds.proofs.request_reader.request_of.Goals as goal

pub returns-in-Some-clause-asks : goal.returns-in-Some-clause-asks
returns-in-Some-clause-asks c =
    rw c.in-Generic.is (answer_asks c.in-Generic.family c.in-Generic.flags c.in-Generic.cmd c.in-Generic.seq c.in-Generic.pid c.in-Generic.version c.in-Generic.attrs c.in-Some.command c.asked_by.result
    (rw c.as_slice.ensures.items at c.in-Some.ensures) (rw c.as_slice-in-Some.ensures.items at c.asked_by.ensures))

pub returns-in-Some-clause-fault : goal.returns-in-Some-clause-fault
returns-in-Some-clause-fault c =
    rw c.in-Generic.is (answer_fault c.in-Generic.family c.in-Generic.flags c.in-Generic.cmd c.in-Generic.seq c.in-Generic.pid c.in-Generic.version c.in-Generic.attrs c.in-Some.command c.asked_by.result
    (rw c.as_slice.ensures.items at c.in-Some.ensures) (rw c.as_slice-in-Some.ensures.items at c.asked_by.ensures))

pub returns-in-Some-clause-asked : goal.returns-in-Some-clause-asked
returns-in-Some-clause-asked c = λ q asks.
    answer_asked c.in-Generic.family c.in-Generic.flags c.in-Generic.cmd c.in-Generic.seq c.in-Generic.pid c.in-Generic.version c.in-Generic.attrs c.in-Some.command c.asked_by.result q
    (rw c.as_slice.ensures.items at c.in-Some.ensures) (rw c.as_slice-in-Some.ensures.items at c.asked_by.ensures) (rw c.in-Generic.is at asks)

pub returns-in-Some-clause-line : goal.returns-in-Some-clause-line
returns-in-Some-clause-line c =
    answer_line c.in-Generic.family c.in-Generic.flags c.in-Generic.cmd c.in-Generic.seq c.in-Generic.pid c.in-Generic.version c.in-Generic.attrs c.in-Some.command c.asked_by.result
    (rw c.as_slice.ensures.items at c.in-Some.ensures) (rw c.as_slice-in-Some.ensures.items at c.asked_by.ensures)
