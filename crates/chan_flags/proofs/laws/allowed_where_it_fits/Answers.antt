use Rattle.chan_flags.proofs.Granted.{granting_from_verdict, verdict_from_granting}
use Rattle.chan_flags.proofs.laws.allowed_where_it_fits.Goals as goal

pub returns : goal.returns
returns c = λ ds q mbm ms. (granting_from_verdict ds q mbm ms, verdict_from_granting ds q mbm ms)
