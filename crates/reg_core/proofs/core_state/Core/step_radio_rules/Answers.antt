use Rattle.reg_journal.specs.Refusals.{RulesCauses}
use Rattle.reg_journal.specs.declared.request.Request.TheVariants.{RadioRules}
use Rattle.reg_core.proofs.OneSteps.{told_declined}
use Rattle.reg_core.proofs.RulesSteps.{rules_refused, rules_taken}
use Rattle.reg_core.proofs.core_state.Core.step_radio_rules.Goals as goal

pub returns-in-Ok-clause-step : goal.returns-in-Ok-clause-step
returns-in-Ok-clause-step g c = λ db J s.
    rules_taken db J c.args.radio c.args.rules.now c.in-Ok.effects c.args.self.now c.set_rules.new.self _ _ s c.requires.askable (c.in-Ok.ensures.set db J s)

pub returns-in-Err-clause-step : goal.returns-in-Err-clause-step
returns-in-Err-clause-step g c =
    told_declined (RadioRules c.args.radio c.args.rules.now) (λ db J. RulesCauses db J c.args.radio c.args.rules.now)
    c.args.self.now c.set_rules.new.self _ _ c.in-Err.declined c.declined_reply.result c.declined_reply.ensures
    (λ db J s. c.in-Err.ensures.set db J s)
    (λ db J e s cause. rules_refused db J c.args.radio c.args.rules.now e c.args.self.now c.set_rules.new.self _ _ s cause c.in-Err.ensures.core_stays c.in-Err.ensures.drivers_stay)
