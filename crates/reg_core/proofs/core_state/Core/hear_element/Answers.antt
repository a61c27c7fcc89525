use Rattle.reg_core.proofs.ElementSteps.{heard_so}
use Rattle.reg_core.proofs.core_state.Core.hear_element.Goals as goal

pub take_hint-requires-clause-core : goal.take_hint-requires-clause-core
take_hint-requires-clause-core g c =
    let core = c.requires.core in
    record { db = core.db; journal = core.journal; keeps = core.keeps; fits = (c.in-Ok.ensures core.db core.journal core.keeps).fits }

pub returns-in-Ok-clause-taken : goal.returns-in-Ok-clause-taken
returns-in-Ok-clause-taken g c = λ db J s.
    let has = c.in-Ok.ensures db J s.keeps in
    heard_so db J c.args.radio c.args.body.now c.in-Ok.alpha2 c.in-Ok.hint c.take_hint.new.self _ _ c.take_hint.result has (c.take_hint.ensures.taken db J s has.fits)
