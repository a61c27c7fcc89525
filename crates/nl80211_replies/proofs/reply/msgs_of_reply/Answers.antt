use Rattle.std.proofs.Common.{rules}
use Rattle.nl80211_replies.proofs.DumpsInRange.{messages_in_range}
use Rattle.nl80211_replies.proofs.reply.msgs_of_reply.Goals as goal

pub returns-clause-in_range : goal.returns-clause-in_range
returns-clause-in_range c = messages_in_range _ c.args.request.now c.args.reply.now (search rules)
