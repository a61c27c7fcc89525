use Rattle.reg_core.proofs.RemovedSteps.{radio_goes}
use Rattle.reg_core.proofs.core_state.Core.del_radio.Goals as goal

pub returns-clause-gone : goal.returns-clause-gone
returns-clause-gone g c = λ db J s.
    radio_goes db J c.args.number c.ends_on.new.changes c.as_slice.result.now c.as_slice-2.result.now c.args.self.now c.take_all.new.self c.remove_radio.new.self _ _ _ c.effects_of.result s
    (c.in_ok-ends_on.ensures db J s.keeps) c.as_slice.ensures.items c.as_slice-2.ensures.items (λ s can. c.take_all.ensures.kept db J s can) c.take_all.ensures.told
    (λ K s due. c.remove_radio.ensures.kept db K s due) c.drop_driver.ensures.gone c.effects_of.ensures
