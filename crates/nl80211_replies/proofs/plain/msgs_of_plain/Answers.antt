use Rattle.std.proofs.Common.{rules}
use Rattle.nl80211_replies.proofs.InRange.{made_in_range}
use Rattle.nl80211_replies.proofs.plain.msgs_of_plain.Goals as goal

pub returns-clause-in_range : goal.returns-clause-in_range
returns-clause-in_range c = made_in_range _ c.args.request.now c.args.answer.now c.args.effects.now (search rules)
