-- What a book keeps.
use Rattle.std.specs.Prelude.{ℕ, List, Bool, Option}
use Rattle.chan_def.specs.declared.definition.ChanDef.{ChanDef}
use Rattle.dfs_states.specs.declared.check.Check.{Check}
use Rattle.dfs_states.specs.declared.place.Place.{Place}

-- the present moment, whether checks last in the region, the check that runs in each slot, the operation of each slot, and what is
-- known of each channel
pub record Book : Type 0 where
  pub moment : ℕ
  pub lasts : Bool
  pub checks : List (Option Check)
  pub operations : List (Option ChanDef)
  pub places : List Place
