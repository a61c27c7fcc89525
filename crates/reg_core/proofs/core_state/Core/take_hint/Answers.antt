use Rattle.std.proofs.Common.{◌∷◌, refl, sym, subst}
use Rattle.reg_hints.specs.Table.{Treated}
use Rattle.reg_journal.specs.Facts.{hinted}
use Rattle.reg_journal.specs.Present.{ifaces_of}
use Rattle.reg_core.proofs.HintMoves.{hint_moves}
use Rattle.reg_core.proofs.KeptHinted.{keeps_after_hint}
use Rattle.reg_core.proofs.SweepLists.{sweep_of_all}
use Rattle.reg_core.proofs.core_state.Core.take_hint.Goals as goal

pub settle-effects-requires-clause-core : goal.settle-effects-requires-clause-core
settle-effects-requires-clause-core g c =
    let core = c.requires.core in
    record {
      db = core.db;
      journal = hinted (Treated c.args.hint.now) ∷ core.journal;
      keeps = keeps_after_hint core.db core.journal c.args.self.now c.follow.new.self c.args.hint.now c.in-Ok.outcome c.follow.new.self.radios core.keeps core.fits
          (c.in-Ok.ensures core.db core.journal core.keeps) c.follow.ensures.core c.follow.ensures.radios;
    }

pub returns-clause-taken : goal.returns-clause-taken
returns-clause-taken g c = λ db J s fits.
    let hint = c.args.hint.now in
    let is = c.in-Ok.ensures db J s.keeps in
    let keeps = keeps_after_hint db J c.args.self.now c.follow.new.self hint c.in-Ok.outcome c.follow.new.self.radios s.keeps fits is c.follow.ensures.core c.follow.ensures.radios in
    record {
      free = is.free;
      treatment_is = is.treatment_is;
      sweep = sweep_of_all db (hinted (Treated hint) ∷ J) (ifaces_of J) _ _ _ _
          (c.settle-effects.ensures.swept db (hinted (Treated hint) ∷ J) keeps
          (hint_moves db J hint c.args.self.now c.in-Ok.outcome.hints c.moved_by-moved.result s keeps.due (sym is.hints) c.moved_by-moved.ensures));
    }
