use Rattle.nl80211_cmds.proofs.RuleBytes.{not_long}
use Rattle.nl80211_cmds.proofs.rule_writer.put_limits.Goals as goal

pub unreachable-requires : goal.unreachable-requires
unreachable-requires c =
    let fault = rw c.in-Err-Overlong.field-0-is at c.in-Err-Overlong.ensures.fault in
    not_long c.args.out.now c.begin_nested.new.out c.put_seven.new.out c.args.kind c.in_ok-nested.nested c.in-Err-Overlong.field-0-0 c.args.limits.now c.in_ok-nested.ensures.start c.in_ok-nested.ensures.begun c.in_ok-put_seven.ensures fault.0 fault.1
