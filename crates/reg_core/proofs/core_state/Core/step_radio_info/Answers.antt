use Rattle.std.proofs.Common.{refl}
use Rattle.reg_journal.specs.Refusals.{LacksRadio}
use Rattle.reg_journal.specs.declared.request.Request.TheVariants.{RadioInfo}
use Rattle.reg_core.proofs.DumpSteps.{radio_refused}
use Rattle.reg_core.proofs.OneSteps.{step_declined}
use Rattle.reg_core.proofs.core_state.Core.step_radio_info.Goals as goal

pub returns-in-Err : goal.returns-in-Err
returns-in-Err c = record {
  step = step_declined (RadioInfo c.args.radio) (λ db J. LacksRadio J c.args.radio) c.args.self.now c.args.self.now c.in-Err.declined c.declined_reply.result c.declined_reply.ensures
      (λ db J s. record { reason = c.in-Err.ensures.report db J s; unchanged = refl })
      (λ db J e row s cause same. radio_refused db J c.args.radio e c.args.self.now row s cause);
}
