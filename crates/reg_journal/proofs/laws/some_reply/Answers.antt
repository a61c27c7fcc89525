use Rattle.reg_journal.proofs.SomeReply.{some_reply}
use Rattle.reg_journal.proofs.laws.some_reply.Goals as goal

pub returns : goal.returns
returns c = some_reply
