use Rattle.std.proofs.Common.{◌∷◌, refl}
use Rattle.reg_journal.specs.Facts.{indoor_is}
use Rattle.reg_journal.specs.Present.{ifaces_of}
use Rattle.reg_core.proofs.KeptChanges.{keeps_after_indoor}
use Rattle.reg_core.proofs.SweepLists.{sweep_of_all}
use Rattle.reg_core.proofs.SweptSteps.{none_moved}
use Rattle.reg_core.proofs.core_state.Core.set_indoor.Goals as goal

pub settle-requires-clause-core : goal.settle-requires-clause-core
settle-requires-clause-core g c =
    let core = c.requires.core in
    record { db = core.db; journal = indoor_is c.args.on ∷ core.journal; keeps = keeps_after_indoor core.db core.journal c.args.on c.args.self.now core.keeps }

pub returns : goal.returns
returns g c = record {
  swept = λ db J s.
      let keeps = keeps_after_indoor db J c.args.on c.args.self.now s.keeps in
      sweep_of_all db (indoor_is c.args.on ∷ J) (ifaces_of J) _ _ _ _
      (c.settle.ensures.swept db (indoor_is c.args.on ∷ J) keeps
      (none_moved db J (indoor_is c.args.on) c.args.self.now c.nowhere.result s keeps.due (λ r. refl) (λ i begins. let at = begins.2 in cc) refl (λ i. refl) c.nowhere.ensures));
}
