-- What is seen of a driver, as plain data.
use Rattle.std.specs.Prelude.{ℕ, List, Option, Bool}
use Rattle.radio_drv.specs.declared.on_air.CheckTold.{CheckTold}
use Rattle.radio_drv.specs.declared.on_air.OnAir.{OnAir}

-- the list on air, the check last told, the count of faults, and whether the driver is steady
pub record Seen : Type 0 where
  pub air : List OnAir
  pub told : Option CheckTold
  pub count : ℕ
  pub steady : Bool

-- what is seen of a driver, made of its parts
abbrev pub seen : List OnAir → Option CheckTold → ℕ → Bool → Seen
seen air told count steady = record { air = air; told = told; count = count; steady = steady }
