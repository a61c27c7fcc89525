use Rattle.core_runs.proofs.Drivers.{AreIdle-at}
use Rattle.core_tests.proofs.calls.opened.Goals as goal

pub returns : goal.returns
returns g c =
    let at = AreIdle-at _ c.in_ok-core.core _ c.in_ok-core.ensures.stands c.in_ok-drivers.ensures.idle in
    record { ready = record { db = _; journal = _; stands = at.stands; driven = at.driven } }
