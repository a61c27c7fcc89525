-- What the core keeps of each interface and of each radio.
use Rattle.std.specs.Prelude.{◌≡◌, ℕ, ◌<◌, true, false, List, map, Option, Some, None, slice_index_or}
use Rattle.std.specs.Option.{option_map, option_to_list}
use Rattle.rule_tables.specs.declared.domain.Domain.{Domain}
use Rattle.rule_intersect.specs.Tables.{IsTableOf}
use Rattle.chan_flags.specs.Profiles.{IsProfile}
use Rattle.chan_flags.specs.Records.{AreRecords}
use Rattle.dfs_states.specs.StandsFor.{BookStandsFor}
use Rattle.reg_journal.specs.Applicable.{applies, custom_domains, driver_code_of}
use Rattle.reg_journal.specs.Facts.{Journal}
use Rattle.reg_journal.specs.Present.{Iface, Operation, ifaces_of, is_used, operation_of, profile_of}
use Rattle.reg_books.specs.Calls.{calls_of, opening_of}
use Rattle.reg_books.specs.Slots.{slot_of}
use Rattle.core_parts.specs.declared.interface.Interface.{Interface}
use Rattle.core_parts.specs.declared.interface.Running.{Running}
use Rattle.core_parts.specs.declared.radio.Radio.{Radio}
use Rattle.core_parts.specs.declared.radio.RadioPlace.{RadioPlace}
use Rattle.core_parts.specs.declared.radio.RadioPlace.TheVariants.{Free, Removed, There}

-- ---- interfaces

-- an operation as it is kept
abbrev pub kept_operation : Operation → Running
kept_operation o = record { chan = o.chan; power_mbm = o.power }

-- what is kept of an interface: with its slot and its operation
abbrev pub kept : Journal → Iface → Interface
kept J x = record {
  index = x.index;
  name = x.name;
  radio = x.radio;
  slot = slot_of J x.index;
  kind = x.kind;
  setting = x.setting;
  operation = option_map kept_operation (operation_of J x.index);
}

-- the interfaces that are there, in order of creation
abbrev pub interfaces_of : Journal → List Interface
interfaces_of J = map (kept J) (ifaces_of J)

-- ---- radios

-- What is kept of a radio that is there: the rows of the domains that apply to it, the records of its channels, its custom rules, its
-- driver's code, and a book of its checks and radar.
pub record KeepsRadio (db : List Domain) (J : Journal) (r : ℕ) (radio : Radio) : Type 0 where
  pub profile : profile_of J r ≡ Some radio.chans.profile
  pub is_profile : IsProfile radio.chans.profile
  pub custom : custom_domains J r ≡ option_to_list radio.custom
  pub driver : driver_code_of J r ≡ radio.driver
  pub table : IsTableOf (applies db J r) radio.table
  pub records : AreRecords (applies db J r) radio.chans.chans
  pub book : BookStandsFor radio.book (map (λ c. c.khz) radio.chans.chans) (opening_of db r) (calls_of db J r)

-- a place for a radio: free where its number was never used, removed where its radio has gone, and else with what is kept of it
abbrev pub KeepsPlace : List Domain → Journal → ℕ → RadioPlace → Type 0
KeepsPlace db J r Free = is_used J r ≡ false
KeepsPlace db J r Removed = (is_used J r ≡ true) × (profile_of J r ≡ None)
KeepsPlace db J r (There radio) = (is_used J r ≡ true) × KeepsRadio db J r radio

-- the radio of a place, where it is there
abbrev pub radio_in : RadioPlace → Option Radio
radio_in Free = None
radio_in Removed = None
radio_in (There radio) = Some radio

-- each of the eight places is kept so
abbrev pub KeepsRadios : List Domain → Journal → List RadioPlace → Type 0
KeepsRadios db J places = (r : ℕ) → r < 8 → KeepsPlace db J r (slice_index_or places r Free)
