-- What contracts see of the two drivers that have no radio.
use Rattle.std.specs.Prelude.{ℕ, List, Option}
use Rattle.radio_drv.specs.declared.on_air.CheckTold.{CheckTold}
use Rattle.radio_drv.specs.declared.on_air.OnAir.{OnAir}

-- the list on air, and the check last told
pub record Simulated : Type 0 where
  pub air : List OnAir
  pub told : Option CheckTold

-- and, of a driver that fails at listed calls: the calls by their numbers from 1, how many were made, and how many failed
pub record FailingSimulated : Type 0 where
  pub air : List OnAir
  pub told : Option CheckTold
  pub failing : List ℕ
  pub calls : ℕ
  pub faults : ℕ
