-- What comes of a new type or a new power setting of an interface.
use Rattle.std.specs.Prelude.{◌≡◌, ◌≢◌, ℕ, ◌⊎◌, List, ◌∷◌, Option, None, Some, MatchOption, Result, Ok, Err}
use Rattle.std.specs.List.{filter_map}
use Rattle.std.specs.Option.{option_to_list}
use Rattle.rule_tables.specs.declared.domain.Domain.{Domain}
use Rattle.chan_def.specs.declared.kind.Kind.{Kind}
use Rattle.chan_flags.specs.declared.verdict.PowerSetting.{PowerSetting}
use Rattle.radio_drv.specs.Seen.{Seen}
use Rattle.reg_journal.specs.Causes.{IsFree}
use Rattle.reg_journal.specs.Due.{MayFollow}
use Rattle.reg_journal.specs.Facts.{Journal, after, powered, set_to, typed}
use Rattle.reg_journal.specs.Permits.{IsPowerOf}
use Rattle.reg_journal.specs.Present.{Iface, named, operation_of, with_setting}
use Rattle.reg_journal.specs.Refusals.{SetPowerCauses, SetTypeCauses}
use Rattle.reg_journal.specs.declared.effects.Effect.{Effect}
use Rattle.reg_journal.specs.declared.refusal.Refusal.{Refusal}
use Rattle.reg_core.specs.Kept.{Keeps}
use Rattle.core_parts.specs.Changes.{AreEachTold, IsInterfaceOf, effect_in, facts_of}
use Rattle.core_parts.specs.declared.change.Change.{Change}
use Rattle.core_parts.specs.declared.change.Change.TheVariants.{Powered}
use Rattle.reg_core.specs.declared.core_state.Core.{Core}
use Rattle.core_parts.specs.declared.interface.Interface.{Interface}

-- ---- types

-- the interface gets another type
pub record Retypes (db : List Domain) (J : Journal) (name : List ℕ) (kind : Kind) (new : Core) : Type 0 where
  pub iface : Iface
  pub is_named : named J name ≡ Some iface
  pub free : IsFree (SetTypeCauses J name)
  pub keeps : Keeps db new (typed iface.index kind ∷ J)

abbrev pub IsRetyping : List Domain → Journal → List ℕ → Kind → Core → Core → Result (Unit {0}) Refusal → Type 0
IsRetyping db J name kind old new (Ok x) = Retypes db J name kind new
IsRetyping db J name kind old new (Err e) = SetTypeCauses J name e × (new ≡ old)

-- ---- power settings

-- What becomes of the operation with the setting: it goes on with the power that the setting gives, which may be the one that it has.
abbrev pub Repowers : List Domain → Journal → Iface → PowerSetting → Option Change → Type 0
Repowers db J x setting change =
    MatchOption (operation_of J x.index)
    (change ≡ None)
    (λ o. (power : ℕ) × IsPowerOf db J (with_setting x.index setting x) o.chan power
    × (((power ≡ o.power) × (change ≡ None))
    ⊎ ((power ≢ o.power) × ((p : Interface) × IsInterfaceOf J x p × (change ≡ Some (Powered p power)) × MayFollow db J (powered p.index power)))))

-- the setting may come to the interface of this name, and this becomes of its operation
pub record MaySet (db : List Domain) (J : Journal) (name : List ℕ) (setting : PowerSetting) (i : ℕ) (change : Option Change) : Type 0 where
  pub iface : Iface
  pub is_named : named J name ≡ Some iface
  pub index_is : i ≡ iface.index
  pub free : IsFree (SetPowerCauses db J name setting)
  pub repowers : Repowers db J iface setting change

-- The setting came: the core keeps it and what became of the operation, the driver was told, and the effects tell of it.
pub record SetsPowerOf (db : List Domain) (J : Journal) (name : List ℕ) (setting : PowerSetting) (new : Core) (row row' : List (Option Seen)) (effects : List Effect) : Type 0 where
  pub iface : Iface
  pub is_named : named J name ≡ Some iface
  pub free : IsFree (SetPowerCauses db J name setting)
  pub change : Option Change
  pub repowers : Repowers db J iface setting change
  pub keeps : Keeps db new (after (facts_of (option_to_list change)) (set_to iface.index setting ∷ J))
  pub told : AreEachTold (option_to_list change) row row'
  pub effects_are : effects ≡ filter_map effect_in (option_to_list change)
