-- What requests do to the drivers of the radios.
use Rattle.std.specs.Prelude.{◌≡◌, ℕ, ◌+◌, ◌-◌, ◌^◌, ◌<◌, ◌≤◌, ◌==◌, false, min, List, [], length, Option, Some, None, All, IsSomeAnd, IsTrue}
use Rattle.std.specs.List.{count_by}
use Rattle.rule_tables.specs.declared.domain.Domain.{Domain}
use Rattle.radio_drv.specs.Seen.{Seen}
use Rattle.reg_journal.specs.Facts.{Journal}
use Rattle.reg_journal.specs.OnAir.{told_of}
use Rattle.reg_books.specs.DriverRows.{AreDriven, Follows, driver_at}
use Rattle.reg_core.specs.Kept.{StandsFor}
use Rattle.reg_core.specs.declared.core_state.Core.{Core}

-- the driver has nothing on air, and no check was told to it
abbrev pub IsIdle : Seen → Type 0
IsIdle s = (s.air ≡ []) × (s.told ≡ None)

-- there are so many drivers, each of them so
pub record AreIdle (n : ℕ) (heard : List (Option Seen)) : Type 0 where
  pub all : length heard ≡ n
  pub each : All (λ o. IsSomeAnd o IsIdle) heard

-- each driver that is there is steady
abbrev pub AreSteady : List (Option Seen) → Type 0
AreSteady heard = (r : ℕ) (s : Seen) → driver_at heard r ≡ Some s → IsTrue s.steady

-- the driver of this radio may fail
abbrev pub IsUnsteady : List (Option Seen) → ℕ → Type 0
IsUnsteady heard r = IsSomeAnd (driver_at heard r) (λ s. s.steady ≡ false)

-- how often the radio is among these
abbrev pub times : ℕ → List ℕ → ℕ
times r radios = count_by (λ q. q == r) radios

-- A driver after so many failures: it is as steady as before, and its count rose by as many at least, or stands at its last
-- value. The count of a steady one stays.
pub record IsAfterFailures (n : ℕ) (s s' : Seen) : Type 0 where
  pub steady : s'.steady ≡ s.steady
  pub counted : min (s.count + n) (2 ^ 64 - 1) ≤ s'.count
  pub never : IsTrue s.steady → s'.count ≡ s.count

-- The drivers of these radios failed, once for each time that the radio is among them. None of them is steady.
pub record HaveGoneOn (failed : List ℕ) (heard heard' : List (Option Seen)) : Type 0 where
  pub unsteady : All (IsUnsteady heard) failed
  pub each : (r : ℕ) (s' : Seen) → driver_at heard' r ≡ Some s' → IsSomeAnd (driver_at heard r) (λ s. IsAfterFailures (times r failed) s s')

-- the check last told to each driver that is there is that of the last check that the journal began on its radio
abbrev pub AreTold : Journal → List (Option Seen) → Type 0
AreTold J heard = (r : ℕ) (s : Seen) → r < 8 → driver_at heard r ≡ Some s → s.told ≡ told_of J r

-- the drivers did so, and have on air what the journal says
pub record Follow (J : Journal) (failed : List ℕ) (heard heard' : List (Option Seen)) : Type 0 where
  pub on_air : Follows J heard'
  pub told : AreTold J heard'
  pub gone_on : HaveGoneOn failed heard heard'

-- ---- on the way

-- the core stands for the journal, and the drivers have on air what it says
pub record IsAt (db : List Domain) (J : Journal) (core : Core) (heard : List (Option Seen)) : Type 0 where
  pub stands : StandsFor db core J
  pub driven : AreDriven J heard
  pub follows : Follows J heard
  pub told : AreTold J heard
