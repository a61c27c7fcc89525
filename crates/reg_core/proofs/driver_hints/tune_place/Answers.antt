use Rattle.reg_hints.specs.Table.{Own}
use Rattle.core_parts.proofs.KeptOn.{driver-own}
use Rattle.reg_core.proofs.driver_hints.tune_place.Goals as goal

pub returns-in-There : goal.returns-in-There
returns-in-There c = record {
  kept = λ db J r keeps tunes.
      let there = rw c.in-There.is at keeps in
      (there.0, c.retune.ensures.kept db J r (Own r c.args.alpha2) there.1 (driver-own J r c.args.alpha2) tunes.table_is tunes.moved_is tunes.lasts_is);
}
