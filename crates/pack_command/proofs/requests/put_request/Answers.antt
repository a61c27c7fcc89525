use Rattle.pack_command.proofs.Lengths.{not_refused}
use Rattle.pack_command.proofs.requests.put_request.Goals as goal

pub unreachable-requires : goal.unreachable-requires
unreachable-requires c =
    not_refused c.in_ok-message.message c.args.request.now c.args.seq c.in-Err-Overlong.field-0-0 c.in-Err-Overlong.field-0 c.in_ok-message.ensures.message c.type_request.ensures c.requires
    c.in-Err-Overlong.field-0-is c.in-Err-Overlong.ensures.overlong
