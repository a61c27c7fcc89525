use Rattle.std.proofs.Common.{arith}
use Rattle.nl_attrs.proofs.Lengths.{length-le32}
use Rattle.nl80211_cmds.proofs.rule_writer.put_number.Goals as goal

pub unreachable-requires : goal.unreachable-requires
unreachable-requires c =
    let fault = rw c.in-Err-Overlong.field-0-is at c.in-Err-Overlong.ensures.fault in
    omega (arith, fault.0, fault.1, length-le32 c.args.number)
