use Rattle.nl80211_cmds.specs.Values.{payload_of}
use Rattle.nl80211_cmds.proofs.ReadValues.{no_plain}
use Rattle.nl80211_cmds.proofs.field_reader.plain_chan_under.Goals as goal

pub returns-in_err-chan : goal.returns-in_err-chan
returns-in_err-chan c = rw c.from_residual.ensures (λ d tells noht. c.in_err-chan.ensures d tells)

pub returns-in_default : goal.returns-in_default
returns-in_default c = λ d.
    no_plain (payload_of c.args.frequency c.args.attrs.now) (payload_of c.args.width c.args.attrs.now) (payload_of c.args.centre c.args.attrs.now) c.in_ok-chan.chan d c.in_ok-chan.ensures c.in_default.not-Noht
