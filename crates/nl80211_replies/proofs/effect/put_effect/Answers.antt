use Rattle.std.proofs.Common.{arith}
use Rattle.nl_attrs.proofs.Lengths.{length-le32, length-le64}
use Rattle.nl80211_replies.proofs.effect.put_effect.Goals as goal

pub put_short-requires-clause-short : goal.put_short-requires-clause-short
put_short-requires-clause-short c = omega (arith, length-le32)

pub put_short-requires-in-Power-clause-short : goal.put_short-requires-in-Power-clause-short
put_short-requires-in-Power-clause-short c = omega (arith, length-le64)
