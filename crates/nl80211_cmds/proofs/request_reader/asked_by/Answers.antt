use Rattle.std.proofs.Common.{arith}
use Rattle.nl80211_cmds.proofs.Answered.{asks_made}
use Rattle.nl80211_cmds.proofs.request_reader.asked_by.Goals as goal

pub returns-in-Ok : goal.returns-in-Ok
returns-in-Ok c =
    (c.in-Some.command, c.in-Some.ensures.0, asks_made c.in-Some.command c.args.flags c.args.attrs.now c.asked_request.result c.read_fields.new.draft c.fields.result.now c.nothing_told-draft.result (omega arith) c.in-Some.ensures.1 c.fields.ensures.fields c.nothing_told-draft.ensures c.in-Ok.ensures c.asked_request.ensures)
