use Rattle.reg_core.proofs.RemovedSteps.{ended_named}
use Rattle.reg_core.proofs.core_state.Core.del_iface.Goals as goal

pub returns-clause-gone : goal.returns-clause-gone
returns-clause-gone g c = λ db J s.
    ended_named db J c.args.name.now c.ends_named.new.changes c.as_slice.result.now c.as_slice-2.result.now c.args.self.now c.take_all.new.self _ _ c.effects_of.result s
    (c.in_ok-ends_named.ensures db J s.keeps) c.as_slice.ensures.items c.as_slice-2.ensures.items (λ s can. c.take_all.ensures.kept db J s can) c.take_all.ensures.told c.effects_of.ensures
