use Rattle.reply_reading.proofs.OneReply.{reply_one}
use Rattle.reply_reading.proofs.laws.replies_read_back.Goals as goal

pub returns : goal.returns
returns c = record { one = reply_one }
