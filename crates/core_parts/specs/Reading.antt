-- What the core keeps of interfaces and radios, for calls that only read.
use Rattle.std.specs.Prelude.{◌≡◌, ◌≢◌, ℕ, List, [], ◌∷◌, filter, Some, IsTrue, is_some}
use Rattle.std.specs.List.{AllZip}
use Rattle.rule_tables.specs.declared.domain.Domain.{Domain}
use Rattle.chan_def.specs.Covered.{IsValidDef}
use Rattle.chan_def.specs.Kinds.{initiates}
use Rattle.chan_def.specs.declared.definition.ChanDef.{ChanDef}
use Rattle.chan_def.specs.declared.kind.Kind.{Kind}
use Rattle.reg_journal.specs.Causes.{◌before◌, Where}
use Rattle.reg_journal.specs.Dumps.{IsGlobalSection, IsRadioSection, has_own_list}
use Rattle.reg_journal.specs.Due.{EachMayFollow}
use Rattle.reg_journal.specs.Facts.{Journal}
use Rattle.reg_journal.specs.Present.{Iface, named, profile_of}
use Rattle.reg_journal.specs.Refusals.{InUseFor, InvalidChannel, IsInUse}
use Rattle.reg_journal.specs.declared.refusal.Refusal.{Refusal}
use Rattle.reg_journal.specs.declared.refusal.Refusal.TheVariants.{Busy, WrongType}
use Rattle.reg_journal.specs.declared.report.Section.{Section}
use Rattle.core_parts.specs.Kept.{KeepsRadio, KeepsRadios, interfaces_of, kept}
use Rattle.reg_books.specs.Slots.{numbers}
use Rattle.core_parts.specs.declared.interface.Interface.{Interface}
use Rattle.core_parts.specs.declared.radio.Radio.{Radio}
use Rattle.core_parts.specs.declared.radio.RadioPlace.{RadioPlace}

-- these are the interfaces and the places of the radios
pub record AreKeptParts (db : List Domain) (J : Journal) (interfaces : List Interface) (places : List RadioPlace) : Type 0 where
  pub due : EachMayFollow db J
  pub interfaces_are : interfaces ≡ interfaces_of J
  pub radios_are : KeepsRadios db J places

-- the interface is the one of this name, and the radio its own
pub record HasNamedIface (db : List Domain) (J : Journal) (name : List ℕ) (interface : Interface) (radio : Radio) : Type 0 where
  pub iface : Iface
  pub is_named : named J name ≡ Some iface
  pub interface_is : interface ≡ kept J iface
  pub radio_is : KeepsRadio db J iface.radio radio

-- an interface as a radio report names it
abbrev pub shown_interface : Interface → List ℕ × ℕ × Kind
shown_interface p = (p.name, p.index, p.kind)

-- those of the radios that are there and have a list of their own
abbrev pub with_own_list : Journal → List ℕ → List ℕ
with_own_list J rs = filter (has_own_list J) (filter (λ r. is_some (profile_of J r)) rs)

-- the global section, and those of the radios below this number
abbrev pub AreSectionsBelow : List Domain → Journal → ℕ → List Section → Type 0
AreSectionsBelow db J end [] = ⊥
AreSectionsBelow db J end (section ∷ sections) = IsGlobalSection db J section × AllZip (IsRadioSection db J) (with_own_list J (numbers 0 end)) sections

-- ---- what is asked before a channel is judged

-- of a start as this kind
abbrev pub BarsStartAtFirst : Journal → Kind → ChanDef → Iface → Refusal → Type 0
BarsStartAtFirst J kind c x = Where (x.kind ≢ kind) WrongType before Where (InUseFor J x kind) Busy before InvalidChannel c

-- of a check
abbrev pub BarsCheckAtFirst : Journal → ChanDef → Iface → Refusal → Type 0
BarsCheckAtFirst J c x = Where (IsTrue (initiates x.kind) → ⊥) WrongType before Where (IsInUse J x) Busy before InvalidChannel c

-- a start as this kind may be judged: the interface is of the kind, it isn't in use for that, and the channel is valid
pub record MayBeStarted (J : Journal) (kind : Kind) (c : ChanDef) (x : Iface) : Type 0 where
  pub of_kind : x.kind ≡ kind
  pub free : InUseFor J x kind → ⊥
  pub valid : IsValidDef c

-- a check may be judged: the interface sends first, it isn't in use, and the channel is valid
pub record MayBeChecked (J : Journal) (c : ChanDef) (x : Iface) : Type 0 where
  pub sends_first : IsTrue (initiates x.kind)
  pub free : IsInUse J x → ⊥
  pub valid : IsValidDef c
