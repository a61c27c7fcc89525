use Rattle.std.proofs.Common.{rules}
use Rattle.reg_journal.specs.declared.request.Request.TheVariants.{RadioDel}
use Rattle.reg_core.proofs.Decided.{swept_decided}
use Rattle.reg_core.proofs.RemovedSteps.{radio_gone, radio_stays}
use Rattle.reg_core.proofs.core_state.Core.step_radio_del.Goals as goal

pub returns : goal.returns
returns g c = record {
  step = λ db J s. rw c.swept.ensures (swept_decided db J (RadioDel c.args.radio) c.args.self.now c.del_radio.new.self _ _ _ _ c.del_radio.result (c.del_radio.ensures.gone db J s) c.del_radio.ensures.core_stays c.del_radio.ensures.drivers_stay
      (λ effects is. radio_gone db J c.args.radio effects c.args.self.now c.del_radio.new.self _ _ (search rules) c.requires.ready.driven.eight s is)
      (λ e cause same same'. radio_stays db J c.args.radio e c.args.self.now c.del_radio.new.self _ _ s cause same same'));
}
