-- What is seen of the drivers, and how it follows the journal.
use Rattle.std.specs.Prelude.{◌≡◌, ℕ, ◌==◌, ◌<◌, ◌≤◌, false, List, length, find, Option, Some, None, IsTrue, IsSomeAnd, slice_index_or, option_and_then, if◌then◌else◌}
use Rattle.std.specs.Option.{option_map}
use Rattle.reg_base.specs.Causes.{Rose}
use Rattle.radio_drv.specs.Air.{IsAir}
use Rattle.radio_drv.specs.Seen.{Seen}
use Rattle.radio_drv.specs.declared.on_air.CheckTold.{CheckTold}
use Rattle.radio_drv.specs.declared.on_air.OnAir.{OnAir}
use Rattle.reg_journal.specs.Facts.{Journal}
use Rattle.reg_journal.specs.OnAir.{entry, on_air_of}
use Rattle.reg_journal.specs.Present.{Iface, Operation, ifaces_on, is_removed, named, operation_of}
use Rattle.reg_journal.specs.declared.reply.Answer.TheVariants.{Checking}
use Rattle.reg_journal.specs.declared.reply.Reply.{Reply}
use Rattle.reg_journal.specs.declared.reply.Reply.TheVariants.{Plain}
use Rattle.reg_journal.specs.declared.request.Request.{Request}
use Rattle.reg_journal.specs.declared.request.Request.TheVariants.{Start, Check}

-- the driver of the radio, as it is seen
abbrev pub driver_at : List (Option Seen) → ℕ → Option Seen
driver_at row r = slice_index_or row r None

-- the drivers have on air what the journal says; a radio that has gone has none
pub record Follows (J : Journal) (row : List (Option Seen)) : Type 0 where
  pub eight : length row ≡ 8
  pub each : (r : ℕ) → r < 8 → option_map (λ s. s.air) (driver_at row r) ≡ (if is_removed J r then None else Some (on_air_of J r))

-- ---- what a step asks of the drivers

-- what an interface has on air
abbrev pub entry_of_iface : Journal → Iface → Option OnAir
entry_of_iface J x = option_map (λ (o : Operation). entry x.index o.chan o.power) (operation_of J x.index)

-- the entry of the radio's interface of this index, where it is there and has an operation
abbrev pub entry_in : Journal → ℕ → ℕ → Option OnAir
entry_in J r i = option_and_then (entry_of_iface J) (find (λ x. x.index == i) (ifaces_on J r))

-- exactly the operations of the radio's interfaces are on air, each once
pub record HasOnAir (J : Journal) (r : ℕ) (air : List OnAir) : Type 0 where
  pub is_air : IsAir air
  pub each : (i : ℕ) → find (λ e. e.iface == i) air ≡ entry_in J r i

-- the place of a radio's driver: empty exactly where the radio has gone, and else with what the radio has on air
abbrev pub IsDriven : Journal → ℕ → Option Seen → Type 0
IsDriven J r None = IsTrue (is_removed J r)
IsDriven J r (Some s) = (is_removed J r ≡ false) × HasOnAir J r s.air

-- There are eight places for drivers. That of a radio which has gone is empty, and each other driver has on air exactly its radio's
-- running operations, with their powers, in any order.
pub record AreDriven (J : Journal) (row : List (Option Seen)) : Type 0 where
  pub eight : length row ≡ 8
  pub each : (r : ℕ) → r < 8 → IsDriven J r (driver_at row r)

-- ---- what a step leaves of the drivers

-- the radio of a request that a driver may fail
abbrev pub driven_radio : Journal → Request → Option ℕ
driven_radio J (Start name kind c) = option_map (λ x. x.radio) (named J name)
driven_radio J (Check name c) = option_map (λ x. x.radio) (named J name)
driven_radio J q = None

-- the driver isn't steady, and its count of faults rose
abbrev pub HasRisen : Option Seen → Option Seen → Type 0
HasRisen (Some s) (Some s') = (s.steady ≡ false) × Rose s.count s'.count
HasRisen s s' = ⊥

-- the driver of the request's radio did
abbrev pub HasFailed : Journal → Request → List (Option Seen) → List (Option Seen) → Type 0
HasFailed J q row row' = IsSomeAnd (driven_radio J q) (λ r. HasRisen (driver_at row r) (driver_at row' r))

-- the check, where it is this radio's, and else what was told before
abbrev pub check_on : ℕ → ℕ → CheckTold → Option CheckTold → Option CheckTold
check_on q r check before = if q == r then Some check else before

-- the check last told to the radio's driver, where it was this one before: the one that the request begins there
abbrev pub told_after : Journal → Request → Reply → ℕ → Option CheckTold → Option CheckTold
told_after J (Check name c) (Plain (Checking ms) effects) r before = told_of_check (named J name) r before
  where
    told_of_check : Option Iface → ℕ → Option CheckTold → Option CheckTold
    told_of_check None r before = before
    told_of_check (Some x) r before = check_on x.radio r (record { iface = x.index; chan = c; length_ms = ms }) before
told_after J q reply r before = before

-- The driver of the radio goes on: it is told of no other check than the request's, its count of faults never falls, and where it is
-- steady stays.
pub record GoesOn (J : Journal) (q : Request) (reply : Reply) (r : ℕ) (s s' : Seen) : Type 0 where
  pub told : s'.told ≡ told_after J q reply r s.told
  pub later : s.count ≤ s'.count
  pub steady : s'.steady ≡ s.steady
  pub never : IsTrue s.steady → s'.count ≡ s.count

-- each driver that is there goes on
abbrev pub AllGoOn : Journal → Request → Reply → List (Option Seen) → List (Option Seen) → Type 0
AllGoOn J q reply row row' = (r : ℕ) (s' : Seen) → driver_at row' r ≡ Some s' → IsSomeAnd (driver_at row r) (λ s. GoesOn J q reply r s s')
