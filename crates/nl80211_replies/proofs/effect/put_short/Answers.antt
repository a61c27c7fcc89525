use Rattle.std.proofs.Common.{arith}
use Rattle.nl80211_replies.proofs.effect.put_short.Goals as goal

pub unreachable-requires : goal.unreachable-requires
unreachable-requires c =
    let fault = rw c.in-Err-Overlong.field-0-is at c.in-Err-Overlong.ensures.fault in
    omega (arith, fault.0, fault.1, c.requires.short)
