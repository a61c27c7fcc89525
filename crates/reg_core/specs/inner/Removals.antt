-- What comes as interfaces and radios go.
use Rattle.std.specs.Prelude.{◌≡◌, ℕ, List, [], ◌∷◌, ◌++◌, Option, None, Some, IsSome, slice_set}
use Rattle.std.specs.List.{filter_map}
use Rattle.std.specs.Option.{option_to_list}
use Rattle.rule_tables.specs.declared.domain.Domain.{Domain}
use Rattle.radio_drv.specs.Seen.{Seen}
use Rattle.reg_journal.specs.Causes.{IsFree}
use Rattle.reg_journal.specs.Due.{EachMayFollow}
use Rattle.reg_journal.specs.Facts.{Journal, after, radio_removed}
use Rattle.reg_journal.specs.Present.{Iface, check_of, ifaces_on, operation_of}
use Rattle.reg_journal.specs.Refusals.{LacksRadio}
use Rattle.reg_journal.specs.declared.effects.Effect.{Effect}
use Rattle.reg_core.specs.Kept.{Keeps}
use Rattle.core_parts.specs.Kept.{KeepsRadio, interfaces_of}
use Rattle.core_parts.specs.Changes.{AreEachTold, IsInterfaceOf, effect_in, facts_of}
use Rattle.core_parts.specs.declared.change.Change.{Change}
use Rattle.core_parts.specs.declared.change.Change.TheVariants.{Stopped, Dropped, Ended}
use Rattle.reg_core.specs.declared.core_state.Core.{Core}
use Rattle.core_parts.specs.declared.interface.Interface.{Interface}
use Rattle.core_parts.specs.declared.radio.Radio.{Radio}

-- ---- interfaces

-- the interface gives up what it does: its operation stops, or else its running check is dropped
abbrev pub Releases : Journal → Iface → Option Change → Type 0
Releases J x None = (operation_of J x.index ≡ None) × (check_of J x.index ≡ None)
Releases J x (Some (Stopped p)) = IsInterfaceOf J x p × IsSome (operation_of J x.index)
Releases J x (Some (Dropped p)) = IsInterfaceOf J x p × (operation_of J x.index ≡ None) × IsSome (check_of J x.index)
Releases J x (Some c) = ⊥

-- each of the interfaces gives up what it does and ends, one after the other
abbrev pub AreEnds : Journal → List Iface → List Change → Type 0
AreEnds J [] changes = changes ≡ []
AreEnds J (x ∷ xs) changes = (c : Option Change) × (p : Interface) × (rest : List Change) × Releases J x c × IsInterfaceOf J x p × AreEnds J xs rest
    × (changes ≡ option_to_list c ++ Ended p ∷ rest)

-- what comes as the interfaces end stands behind the changes that were there
abbrev pub AddsEnds : Journal → List Iface → List Change → List Change → Type 0
AddsEnds J xs old new = (ends : List Change) × AreEnds J xs ends × (new ≡ old ++ ends)

-- What came as these interfaces ended: each gave up what it did and went, the core keeps it, the drivers were told, and the effects tell
-- of it.
pub record IsEndOf (db : List Domain) (J : Journal) (xs : List Iface) (new : Core) (row row' : List (Option Seen)) (effects : List Effect) : Type 0 where
  pub changes : List Change
  pub ends : AreEnds J xs changes
  pub keeps : Keeps db new (after (facts_of changes) J)
  pub told : AreEachTold changes row row'
  pub effects_are : effects ≡ filter_map effect_in changes

-- ---- radios

-- these are the interfaces, and what is kept of the radio
pub record AreOnRadio (db : List Domain) (J : Journal) (r : ℕ) (interfaces : List Interface) (radio : Radio) : Type 0 where
  pub due : EachMayFollow db J
  pub interfaces_are : interfaces ≡ interfaces_of J
  pub radio_is : KeepsRadio db J r radio

-- they are so of some journal
pub record AreOnSomeRadio (r : ℕ) (interfaces : List Interface) (radio : Radio) : Type 0 where
  pub db : List Domain
  pub journal : Journal
  pub parts : AreOnRadio db journal r interfaces radio

-- The radio went: its interfaces ended, the core keeps it, the drivers were told and its own was dropped, and the effects tell of it.
pub record RadioGoes (db : List Domain) (J : Journal) (r : ℕ) (new : Core) (row row' : List (Option Seen)) (effects : List Effect) : Type 0 where
  pub free : IsFree (LacksRadio J r)
  pub changes : List Change
  pub ends : AreEnds J (ifaces_on J r) changes
  pub keeps : Keeps db new (radio_removed r ∷ after (facts_of changes) J)
  pub between : List (Option Seen)
  pub told : AreEachTold changes row between
  pub dropped : row' ≡ slice_set between r None
  pub effects_are : effects ≡ filter_map effect_in changes
