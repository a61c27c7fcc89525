use Rattle.std.specs.Option.{option_copied}
use Rattle.nl80211_cmds.proofs.RuleLists.{bad_rules}
use Rattle.nl80211_cmds.proofs.field_reader.take_field.Goals as goal

pub returns-in-None : goal.returns-in-None
returns-in-None c = rw c.in-Chan.is (λ e tells. c.in-None.ensures tells.0 tells.1)

pub returns-in-None-plain_chan_under : goal.returns-in-None-plain_chan_under
returns-in-None-plain_chan_under c = rw c.in-PlainChan.is (λ e tells. c.in-None-plain_chan_under.ensures tells.0 tells.1 tells.2)

pub returns-in-Err : goal.returns-in-Err
returns-in-Err c =
    bad_rules c.args.field c.in-Rules.kind c.args.attrs.now c.args.draft.now (option_copied c.payload_of-in-Rules.result) c.in-Err.fault c.in-Rules.is c.payload_of-in-Rules.ensures c.in-Err.ensures
