use Rattle.nl80211_cmds.proofs.InRange.{made_range}
use Rattle.nl80211_cmds.proofs.request_writer.msg_of_request.Goals as goal

pub returns-clause-in_range : goal.returns-clause-in_range
returns-clause-in_range c =
    made_range c.command_of-command.result c.family.result c.number.result c.fields.result.now c.in_ok-told.told c.new-attrs.result c.push_fields.new.out c.number.ensures.number c.fields.ensures.fields c.new-attrs.ensures.empty c.in_ok-push_fields.ensures
