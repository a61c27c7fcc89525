use Rattle.reg_hints.specs.Table.{Treated}
use Rattle.reg_hints.specs.declared.hint.Hint.TheVariants.{User}
use Rattle.reg_journal.specs.Refusals.{HintCauses}
use Rattle.reg_journal.specs.declared.request.Request.TheVariants.{UserHint}
use Rattle.reg_core.proofs.OneSteps.{hint_refused, told_declined}
use Rattle.reg_core.proofs.SweptSteps.{user_hint_taken}
use Rattle.reg_core.proofs.core_state.Core.step_user_hint.Goals as goal

pub take_hint-requires-clause-core : goal.take_hint-requires-clause-core
take_hint-requires-clause-core g c = let ready = c.requires.ready in record { db = ready.db; journal = ready.journal; keeps = ready.stands.keeps; fits = tt }

pub returns-in-Ok-clause-step : goal.returns-in-Ok-clause-step
returns-in-Ok-clause-step g c = λ db J s.
    user_hint_taken db J c.args.alpha2 c.in-Ok.treatment c.in-Ok.effects c.args.self.now c.take_hint.new.self _ _ s (c.in-Ok.ensures.taken db J s tt)

pub returns-in-Err-clause-step : goal.returns-in-Err-clause-step
returns-in-Err-clause-step g c =
    told_declined (UserHint c.args.alpha2) (λ db J. HintCauses db J (Treated (User c.args.alpha2)))
    c.args.self.now c.take_hint.new.self _ _ c.in-Err.declined c.declined_reply.result c.declined_reply.ensures
    (λ db J s. c.in-Err.ensures.taken db J s tt)
    (λ db J e s cause. hint_refused db J c.args.alpha2 e c.args.self.now c.take_hint.new.self _ _ s cause c.in-Err.ensures.core_stays c.in-Err.ensures.drivers_stay)
