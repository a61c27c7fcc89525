use Rattle.std.proofs.Common.{◌∙◌}
use Rattle.reg_hints.specs.Table.{Own, Treated}
use Rattle.reg_hints.specs.declared.hint.Hint.TheVariants.{Driver}
use Rattle.reg_core.proofs.DriverSteps.{driver_barred, hears_own, hears_shared, own_hint, shared_hint}
use Rattle.reg_core.proofs.core_state.Core.hear_driver.Goals as goal

pub returns-in-Ok-clause-taken : goal.returns-in-Ok-clause-taken
returns-in-Ok-clause-taken g c = λ db J s.
    let r = c.args.radio in
    let a = c.args.alpha2 in
    let first = c.in-Ok-true.ensures db J s.keeps in
    let own = first.1 ∙ c.in-Ok-true.field-0-test in
    hears_own db J r a c.take_own_hint.new.self _ _ c.in-Ok.effects first.0 own (c.in-Ok.ensures.taken db J s (first.0, own))

pub returns-in-Err-take_own_hint-clause-taken : goal.returns-in-Err-take_own_hint-clause-taken
returns-in-Err-take_own_hint-clause-taken g c = λ db J s.
    let r = c.args.radio in
    let a = c.args.alpha2 in
    let first = c.in-Ok-true.ensures db J s.keeps in
    let own = first.1 ∙ c.in-Ok-true.field-0-test in
    driver_barred db J r a (Own r a) c.in-Err-take_own_hint.declined first.0 (own_hint J r a own) (c.in-Err-take_own_hint.ensures.taken db J s (first.0, own))

pub returns-in-Ok-take_hint-clause-taken : goal.returns-in-Ok-take_hint-clause-taken
returns-in-Ok-take_hint-clause-taken g c = λ db J s.
    let r = c.args.radio in
    let a = c.args.alpha2 in
    let first = c.in-Ok-false.ensures db J s.keeps in
    let shared = first.1 ∙ c.in-Ok-false.field-0-test in
    hears_shared db J r a c.in-Ok-take_hint.treatment c.take_hint.new.self _ _ c.in-Ok-take_hint.effects first.0 shared (c.in-Ok-take_hint.ensures.taken db J s (first.0, shared))

pub returns-in-Err-take_hint-clause-taken : goal.returns-in-Err-take_hint-clause-taken
returns-in-Err-take_hint-clause-taken g c = λ db J s.
    let r = c.args.radio in
    let a = c.args.alpha2 in
    let first = c.in-Ok-false.ensures db J s.keeps in
    let shared = first.1 ∙ c.in-Ok-false.field-0-test in
    driver_barred db J r a (Treated (Driver r a)) c.in-Err-take_hint.declined first.0 (shared_hint J r a shared) (c.in-Err-take_hint.ensures.taken db J s (first.0, shared))
