use Rattle.std.proofs.Common.{subst}
use Rattle.nl_attrs.specs.Overlong.{IsEncodeFault}
use Rattle.pack_command.proofs.Lengths.{not_overlong}
use Rattle.wire_run.proofs.messages.put_short.Goals as goal

pub unreachable-requires : goal.unreachable-requires
unreachable-requires c = not_overlong c.args.message.now c.in-Err-Overlong.field-0-0 c.requires.short (subst (IsEncodeFault c.args.message.now) c.in-Err-Overlong.field-0-is c.in-Err-Overlong.ensures.overlong)
