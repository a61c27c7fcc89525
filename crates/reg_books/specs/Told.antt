-- What a driver makes of what it is told, and that no other hears of it.
use Rattle.std.specs.Prelude.{◌≡◌, ℕ, ◌≤◌, false, List, Option, Some, None, IsTrue, IsSomeAnd, slice_set}
use Rattle.reg_base.specs.Causes.{Rose}
use Rattle.radio_drv.specs.Air.{HasPlace}
use Rattle.radio_drv.specs.Seen.{Seen}
use Rattle.radio_drv.specs.declared.on_air.CheckTold.{CheckTold}
use Rattle.radio_drv.specs.declared.on_air.OnAir.{OnAir}
use Rattle.reg_books.specs.DriverRows.{driver_at}

-- there is a driver, and it has a place for the interface of this index
abbrev pub HasRoom : Option Seen → ℕ → Type 0
HasRoom place iface = IsSomeAnd place (λ s. HasPlace s.air iface)

-- The driver keeps the check last told. Its count of faults never falls, and where it is steady stays.
pub record RunsOn (s s' : Seen) : Type 0 where
  pub told : s'.told ≡ s.told
  pub later : s.count ≤ s'.count
  pub steady : s'.steady ≡ s.steady
  pub never : IsTrue s.steady → s'.count ≡ s.count

-- what it has on air changes so
pub record Turns (change : List OnAir → List OnAir) (s s' : Seen) : Type 0 where
  pub air : s'.air ≡ change s.air
  pub on : RunsOn s s'

-- what it has on air stays; it isn't steady, and its count of faults rose
pub record Falters (s s' : Seen) : Type 0 where
  pub air : s'.air ≡ s.air
  pub on : RunsOn s s'
  pub unsteady : s.steady ≡ false
  pub rose : Rose s.count s'.count

-- the driver of a place does what it is told; where there is none, none comes
abbrev pub DriverTakes : (List OnAir → List OnAir) → Option Seen → Option Seen → Type 0
DriverTakes change (Some s) (Some s') = Turns change s s'
DriverTakes change None None = Unit {0}
DriverTakes change (Some s) None = ⊥
DriverTakes change None (Some s') = ⊥

-- the driver of a place fails
abbrev pub DriverFails : Option Seen → Option Seen → Type 0
DriverFails (Some s) (Some s') = Falters s s'
DriverFails o o' = ⊥

-- the check is the one last told; what it has on air stays
pub record HearsCheck (check : CheckTold) (s s' : Seen) : Type 0 where
  pub air : s'.air ≡ s.air
  pub told : s'.told ≡ Some check
  pub later : s.count ≤ s'.count
  pub steady : s'.steady ≡ s.steady
  pub never : IsTrue s.steady → s'.count ≡ s.count

-- the driver of a place is told of the check
abbrev pub DriverHears : CheckTold → Option Seen → Option Seen → Type 0
DriverHears check (Some s) (Some s') = HearsCheck check s s'
DriverHears check o o' = ⊥

-- the place of the radio goes so, and no other driver hears of it
pub record OneGoes (radio : ℕ) (how : Option Seen → Option Seen → Type 0) (row row' : List (Option Seen)) : Type 0 where
  pub went : how (driver_at row radio) (driver_at row' radio)
  pub rest : row' ≡ slice_set row radio (driver_at row' radio)
