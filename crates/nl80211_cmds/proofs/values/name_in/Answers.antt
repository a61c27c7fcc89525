use Rattle.std.proofs.Common.{ap}
use Rattle.std.specs.Option.{option_copied}
use Rattle.nl80211_cmds.proofs.ReadValues.{no_name, no_text_name}
use Rattle.nl80211_cmds.proofs.values.name_in.Goals as goal

pub returns-in_err-text : goal.returns-in_err-text
returns-in_err-text c =
    rw c.from_residual-in_err-text.ensures (λ name tells. no_text_name (option_copied c.args.payload) c.in_ok-payload.field-0.now name (ap option_copied c.in_ok-payload.was) c.in_err-text.ensures.none tells)

pub returns-in_err-name : goal.returns-in_err-name
returns-in_err-name c =
    rw c.from_residual-in_err-name.ensures (λ name tells. no_name (option_copied c.args.payload) c.in_ok-payload.field-0.now c.in_ok-text.text.now name (ap option_copied c.in_ok-payload.was) c.in_ok-text.ensures.text c.in_err-name.ensures.name tells)
