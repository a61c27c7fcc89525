use Rattle.reg_journal.specs.Facts.{check_dropped}
use Rattle.reg_core.proofs.KeptChanges.{keeps_after_drop}
use Rattle.core_parts.proofs.Operated.{drop_call, drop_elsewhere}
use Rattle.reg_core.proofs.core_state.Core.drop_check.Goals as goal

pub returns : goal.returns
returns c = record {
  kept = λ db J x s is due.
      let p = c.args.interface.now in
      keeps_after_drop db J p.index c.args.self.now c.note_at.new.radios s due
      (c.note_at.ensures.kept db J (check_dropped p.index) s.radios tt (drop_call db J x p due.1 is) (drop_elsewhere db J x p due.1 is) due);
}
