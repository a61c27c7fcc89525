use Rattle.chan_flags.proofs.Judged.{verdict_of_domains}
use Rattle.chan_flags.proofs.radio.RadioChans.verdict.Goals as goal

pub returns-clause-domains : goal.returns-clause-domains
returns-clause-domains c = λ ds records.
    let by = rw c.as_slice.ensures.value at c.verdict_by.ensures in
    let are = rw (← c.self.view_is) at records in
    rw (← c.self.view_is) (verdict_of_domains ds c.self.inside.chans.items _ c.verdict_by.result are c.self.invariant by)
