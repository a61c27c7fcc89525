use Rattle.reg_journal.specs.Facts.{check_begun}
use Rattle.reg_core.proofs.KeptChanges.{keeps_after_begin}
use Rattle.core_parts.proofs.Operated.{begin_call, begin_elsewhere}
use Rattle.reg_core.proofs.core_state.Core.keep_check.Goals as goal

pub returns : goal.returns
returns c = record {
  kept = λ db J x s is due.
      let p = c.args.interface.now in
      keeps_after_begin db J p.index c.args.chan.now c.args.length_ms c.args.self.now c.note_at.new.radios s due
      (c.note_at.ensures.kept db J (check_begun p.index c.args.chan.now c.args.length_ms) s.radios tt (begin_call db J x p c.args.chan.now c.args.length_ms due.1 is)
      (begin_elsewhere db J x p c.args.chan.now c.args.length_ms due.1 is) due);
}
