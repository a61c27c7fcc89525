use Rattle.std.proofs.Common.{◌∷◌, ◌∙◌}
use Rattle.reg_hints.specs.Table.{Own}
use Rattle.reg_journal.specs.Facts.{hinted}
use Rattle.reg_journal.specs.Present.{ifaces_of}
use Rattle.reg_core.proofs.OwnHints.{keeps_after_own, own_moves}
use Rattle.reg_core.proofs.SweepLists.{sweep_of_all}
use Rattle.reg_core.proofs.core_state.Core.take_own_hint.Goals as goal

pub settle-requires-clause-core : goal.settle-requires-clause-core
settle-requires-clause-core g c =
    let core = c.requires.core in
    let r = c.args.radio in
    let a = c.args.alpha2 in
    let is = c.in-Ok.ensures core.db core.journal core.keeps core.fits.0 in
    record {
      db = core.db;
      journal = hinted (Own r a) ∷ core.journal;
      keeps = keeps_after_own core.db core.journal r a c.args.self.now c.tune_at.new.radios core.keeps core.fits is.free
          (c.tune_at.ensures.kept core.db core.journal core.keeps.radios is.tunes);
    }

pub returns-clause-taken : goal.returns-clause-taken
returns-clause-taken g c = λ db J s fits.
    let r = c.args.radio in
    let a = c.args.alpha2 in
    let is = c.in-Ok.ensures db J s.keeps fits.0 in
    let keeps = keeps_after_own db J r a c.args.self.now c.tune_at.new.radios s.keeps fits is.free (c.tune_at.ensures.kept db J s.keeps.radios is.tunes) in
    record {
      free = is.free;
      sweep = sweep_of_all db (hinted (Own r a) ∷ J) (ifaces_of J) _ _ _ _
          (c.settle.ensures.swept db (hinted (Own r a) ∷ J) keeps
          (own_moves db J r a c.args.self.now c.moved_alone-moved.result s keeps.due (c.moved_alone-moved.ensures.here ∙ is.tunes.moved_is) c.moved_alone-moved.ensures.others));
    }
