use Rattle.std.proofs.Common.{ap}
use Rattle.std.specs.Option.{option_copied}
use Rattle.nl80211_cmds.proofs.ReadValues.{no_text_code}
use Rattle.nl80211_cmds.proofs.values.code_in.Goals as goal

pub returns-in_err-text : goal.returns-in_err-text
returns-in_err-text c =
    rw c.from_residual-in_err-text.ensures (λ code tells. no_text_code (option_copied c.args.payload) c.in_ok-payload.field-0.now code (ap option_copied c.in_ok-payload.was) c.in_err-text.ensures.none tells)
