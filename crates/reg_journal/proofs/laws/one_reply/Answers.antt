use Rattle.reg_journal.proofs.OneReply.{one-reply}
use Rattle.reg_journal.proofs.laws.one_reply.Goals as goal

pub returns : goal.returns
returns c = λ db J q failed one other facts others here there. one-reply db J q failed one other facts others here there
