use Rattle.std.specs.Option.{option_copied}
use Rattle.nl80211_cmds.proofs.ReadValues.{no_centre}
use Rattle.nl80211_cmds.proofs.chan_reader.chan_in.Goals as goal

pub returns-in_err-centre_mhz : goal.returns-in_err-centre_mhz
returns-in_err-centre_mhz c =
    rw c.from_residual-in_err-centre_mhz.ensures (λ d tells. no_centre (option_copied c.args.frequency) (option_copied c.args.width) (option_copied c.args.centre) c.in_ok-width.width c.in_ok-mhz.mhz d c.in_ok-mhz.ensures.number c.in_ok-width.ensures c.in_err-centre_mhz.ensures tells)
