use Rattle.std.proofs.Common.{◌∷◌, refl, ap}
use Rattle.reg_journal.specs.Facts.{radar_met}
use Rattle.reg_core.proofs.KeptChanges.{keeps_after_radar}
use Rattle.reg_core.proofs.SweptSteps.{none_moved}
use Rattle.reg_core.proofs.core_state.Core.meet_radar.Goals as goal

pub settle-requires-clause-core : goal.settle-requires-clause-core
settle-requires-clause-core g c =
    let core = c.requires.core in
    let may = (c.in_default.ensures core.db core.journal core.keeps).1 in
    record {
      db = core.db;
      journal = radar_met c.args.radio c.args.chan.now ∷ core.journal;
      keeps = keeps_after_radar core.db core.journal c.args.radio c.args.chan.now c.args.self.now c.note_at.new.radios core.keeps may (c.note_at.ensures.kept core.db core.journal);
    }

pub returns-clause-swept : goal.returns-clause-swept
returns-clause-swept g c = λ db J s.
    let first = c.in_default.ensures db J s.keeps in
    let r = c.args.radio in
    let chan = c.args.chan.now in
    let keeps = keeps_after_radar db J r chan c.args.self.now c.note_at.new.radios s.keeps first.1 (c.note_at.ensures.kept db J) in (
      first.0,
      c.settle.ensures.swept db (radar_met r chan ∷ J) keeps
          (none_moved db J (radar_met r chan) c.args.self.now c.nowhere.result s keeps.due (λ q. refl) (λ i begins. let at = begins.2 in cc) refl (λ i. refl) c.nowhere.ensures),
    )
