use Rattle.reg_journal.specs.declared.request.Request.TheVariants.{IfaceDel}
use Rattle.reg_core.proofs.Decided.{swept_decided}
use Rattle.reg_core.proofs.RemovedSteps.{iface_gone, iface_stays}
use Rattle.reg_core.proofs.core_state.Core.step_iface_del.Goals as goal

pub returns : goal.returns
returns g c = record {
  step = λ db J s. rw c.swept.ensures (swept_decided db J (IfaceDel c.args.name.now) c.args.self.now c.del_iface.new.self _ _ _ _ c.del_iface.result (c.del_iface.ensures.gone db J s) c.del_iface.ensures.core_stays c.del_iface.ensures.drivers_stay
      (λ effects is. iface_gone db J c.args.name.now effects c.args.self.now c.del_iface.new.self _ _ s is)
      (λ e cause same same'. iface_stays db J c.args.name.now e c.args.self.now c.del_iface.new.self _ _ s cause same same'));
}
