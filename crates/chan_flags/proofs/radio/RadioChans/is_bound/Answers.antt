use Rattle.chan_flags.proofs.Judged.{bound_of_domains}
use Rattle.chan_flags.proofs.radio.RadioChans.is_bound.Goals as goal

pub returns-clause-domains : goal.returns-clause-domains
returns-clause-domains c = λ ds records there has_rule.
    let told = rw c.as_slice.ensures.value at c.is_bound_by.ensures in
    let are = rw (← c.self.view_is) at records in
    let bands = rw (← c.self.view_is) at there in
    let both = bound_of_domains ds c.self.inside.chans.items _ c.args.khz are c.self.invariant bands has_rule in
    (λ bound. both.0 (told.0 bound), λ bound. told.1 (both.1 bound))
