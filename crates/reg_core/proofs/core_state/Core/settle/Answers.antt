use Rattle.reg_core.proofs.SweepLists.{swept_whole}
use Rattle.reg_core.proofs.core_state.Core.settle.Goals as goal

pub returns : goal.returns
returns g c = record {
  swept = λ db J s moved.
      swept_whole db J c.args.only.now c.sweep.new.changes c.as_slice.result.now c.as_slice-2.result.now c.args.self.now c.take_all.new.self _ _ c.effects_of.result s
      (c.sweep.ensures.judged db J s moved) c.as_slice.ensures.items c.as_slice-2.ensures.items (λ s can. c.take_all.ensures.kept db J s can) c.take_all.ensures.told c.effects_of.ensures;
}
