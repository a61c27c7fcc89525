use Rattle.std.proofs.Common.{◌∷◌, map, sym, subst, ◌∙◌}
use Rattle.dfs_states.specs.Calls.{RegionChanged}
use Rattle.dfs_states.specs.StandsFor.{BookStandsFor}
use Rattle.reg_books.specs.Calls.{calls_of, opening_of}
use Rattle.core_parts.proofs.KeptOn.{calls_of-moved, calls_of-unmoved, retuned}
use Rattle.core_parts.proofs.radio.Radio.retune.Goals as goal

pub returns-then-region_changed : goal.returns-then-region_changed
returns-then-region_changed c = record {
  kept = λ db J r hint kept driver table changed lasts.
      let calls = calls_of-moved db J r hint (sym c.if-region_changed.true ∙ changed) in
      retuned db J r hint c.args.self.now c.args.driver c.args.table c.refresh.new.self c.region_changed.new.self kept driver table c.refresh.ensures.profile
      c.refresh.ensures.channels c.refresh.ensures.law
      (subst (λ calls. BookStandsFor c.region_changed.new.self (map (λ c. c.khz) c.args.self.now.chans.chans) (opening_of db r) calls) (sym calls)
      (subst (λ b. BookStandsFor c.region_changed.new.self (map (λ c. c.khz) c.args.self.now.chans.chans) (opening_of db r) (RegionChanged b ∷ calls_of db J r)) lasts
      (c.region_changed.ensures.stands_for _ _ _ kept.book)));
}

pub returns-else-region_changed : goal.returns-else-region_changed
returns-else-region_changed c = record {
  kept = λ db J r hint kept driver table changed lasts.
      let calls = calls_of-unmoved db J r hint (sym c.if-region_changed.false ∙ changed) in
      retuned db J r hint c.args.self.now c.args.driver c.args.table c.refresh.new.self c.args.self.now.book kept driver table c.refresh.ensures.profile
      c.refresh.ensures.channels c.refresh.ensures.law
      (subst (λ calls. BookStandsFor c.args.self.now.book (map (λ c. c.khz) c.args.self.now.chans.chans) (opening_of db r) calls) (sym calls) kept.book);
}
