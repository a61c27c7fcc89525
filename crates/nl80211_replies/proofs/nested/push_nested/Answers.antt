use Rattle.nl80211_replies.proofs.Fitting.{none_long}
use Rattle.nl80211_replies.proofs.nested.push_nested.Goals as goal

pub unreachable-requires : goal.unreachable-requires
unreachable-requires c =
    let fault = rw c.in-Err-Overlong.field-0-is at c.in-Err-Overlong.ensures.overlong in
    none_long c.args.held.now c.in-Err-Overlong.field-0-0 c.requires fault
