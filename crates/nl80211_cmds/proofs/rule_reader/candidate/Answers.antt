use Rattle.nl80211_cmds.proofs.OneRule.{flags_are}
use Rattle.nl80211_cmds.proofs.rule_reader.candidate.Goals as goal

pub returns : goal.returns
returns c = λ f e. flags_are f c.args.bits e
