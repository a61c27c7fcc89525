-- What is shown: sections of rules, channels, radios and interfaces.
use Rattle.std.specs.Prelude.{◌≡◌, ℕ, ◌+◌, ◌*◌, min, Bool, ◌||◌, List, [], ◌∷◌, map, filter, Option, Some, None, is_some}
use Rattle.std.specs.List.{AllZip}
use Rattle.std.specs.Option.{option_map}
use Rattle.freq_range.specs.declared.rule.Rule.{Rule}
use Rattle.rule_tables.specs.World.{joined_code}
use Rattle.rule_tables.specs.declared.code.Alpha2.{Alpha2}
use Rattle.rule_tables.specs.declared.code.Region.{Region}
use Rattle.rule_tables.specs.declared.domain.Domain.{Domain}
use Rattle.rule_intersect.specs.Tables.{AreRows}
use Rattle.rule_intersect.specs.declared.row.Row.{Row}
use Rattle.chan_def.specs.declared.kind.Kind.{Kind}
use Rattle.chan_flags.specs.Lists.{AreChannels}
use Rattle.chan_flags.specs.Records.{IsRecord}
use Rattle.chan_flags.specs.declared.record.Chan.{Chan}
use Rattle.chan_flags.specs.declared.record.Fit.{Fit}
use Rattle.dfs_states.specs.declared.dfs.Dfs.{Dfs}
use Rattle.reg_journal.specs.Facts.{Journal}
use Rattle.reg_journal.specs.Present.{Iface, Operation, Check, abilities_of, custom_rules_of, radios_of, ifaces_on, operation_of, check_of}
use Rattle.reg_journal.specs.Applicable.{global_domains, global_region, is_self_managed, driver_code_of, applies, region_of}
use Rattle.reg_journal.specs.Radar.{IsState}
use Rattle.reg_journal.specs.declared.report.Section.{Section}
use Rattle.reg_journal.specs.declared.report.RadioReport.{RadioReport}
use Rattle.reg_journal.specs.declared.report.IfaceReport.{IfaceReport}
use Rattle.reg_journal.specs.declared.report.IfaceState.{IfaceState}
use Rattle.reg_journal.specs.declared.report.IfaceState.TheVariants.{Idle, Checking, Running}

-- ---- sections

-- the code that is shown of a list: that of its only domain, or the code of joined domains
abbrev pub code_of_list : List Domain → Alpha2
code_of_list [] = joined_code
code_of_list (d ∷ []) = d.alpha2
code_of_list (d ∷ e ∷ ds) = joined_code

-- a domain's rule as it is
abbrev pub row_as_is : Rule → Row
row_as_is r = record { start_khz = r.start_khz; end_khz = r.end_khz; width_khz = r.max_bw_khz; flags = r.flags; eirp_mbm = r.eirp_mbm; cac_ms = r.cac_s * 1000; check_ms = 0 }

-- a row without the length of its check, which isn't shown
abbrev pub row_shown : Row → Row
row_shown row = record { start_khz = row.start_khz; end_khz = row.end_khz; width_khz = row.width_khz; flags = row.flags; eirp_mbm = row.eirp_mbm; cac_ms = row.cac_ms; check_ms = 0 }

-- The rows that are shown of a list of domains: the rules of a domain alone as they are, or the rows of several.
abbrev pub AreShown : List Domain → List Row → Type 0
AreShown [] rows = ⊥
AreShown (d ∷ []) rows = rows ≡ map row_as_is d.rules
AreShown (d ∷ e ∷ ds) rows = (joined : List Row) × AreRows (d ∷ e ∷ ds) joined × (rows ≡ map row_shown joined)

-- the section of the list: for which radio, the list's code, its region and its rows
pub record IsSection (radio : Option ℕ) (ds : List Domain) (region : Region) (section : Section) : Type 0 where
  pub of_radio : section.radio ≡ radio
  pub code : section.alpha2 ≡ code_of_list ds
  pub of_region : section.region ≡ region
  pub rows : AreShown ds section.rows

-- the section of the global list
abbrev pub IsGlobalSection : List Domain → Journal → Section → Type 0
IsGlobalSection db J = IsSection None (global_domains db J) (global_region db J)

-- the section of the list that applies to the radio
abbrev pub IsRadioSection : List Domain → Journal → ℕ → Section → Type 0
IsRadioSection db J r = IsSection (Some r) (applies db J r) (region_of db J r)

-- the radio has a list of its own: it has custom rules, had a hint of its driver, or is self-managed
abbrev pub has_own_list : Journal → ℕ → Bool
has_own_list J r = is_some (custom_rules_of J r) || (is_some (driver_code_of J r) || is_self_managed J r)

-- the global section, then one for each radio with a list of its own, by number
abbrev pub AreSections : List Domain → Journal → List Section → Type 0
AreSections db J [] = ⊥
AreSections db J (section ∷ sections) = IsGlobalSection db J section × AllZip (IsRadioSection db J) (filter (has_own_list J) (radios_of J)) sections

-- ---- channels

-- a record as it is shown: with the radio's power where that is less
abbrev pub fit_shown : ℕ → Fit → Fit
fit_shown power fit = record { flags = fit.flags; limit_mbm = min fit.limit_mbm power; check_ms = fit.check_ms; width_khz = fit.width_khz }

-- the radio's channel round this centre: what the domains that apply allow there, and its state
pub record IsShownChannel (db : List Domain) (J : Journal) (r s : ℕ) (shown : Chan × Dfs) : Type 0 where
  pub centre : shown.0.khz ≡ s
  pub fit : (fit : Option Fit) × IsRecord (applies db J r) s fit × (shown.0.fit ≡ option_map (fit_shown (abilities_of J r).power_mbm) fit)
  pub state : IsState db J r s shown.1

-- the channels of the radio's bands, in ascending order, each as it is shown
abbrev pub AreShownChannels : List Domain → Journal → ℕ → List (Chan × Dfs) → Type 0
AreShownChannels db J r list = (centres : List ℕ) × AreChannels (abilities_of J r).bands centres × AllZip (IsShownChannel db J r) centres list

-- ---- radios and interfaces

-- an interface as a radio report names it: by name, number and kind
abbrev pub shown_iface : Iface → List ℕ × ℕ × Kind
shown_iface x = (x.name, x.index, x.kind)

-- the report of a radio: its profile, and its interfaces in order of creation (`NL80211_CMD_NEW_WIPHY`)
pub record IsRadioReport (J : Journal) (r : ℕ) (report : RadioReport) : Type 0 where
  pub radio : report.radio ≡ r
  pub profile : report.profile ≡ abilities_of J r
  pub ifaces : report.ifaces ≡ map shown_iface (ifaces_on J r)

-- an interface's state: that of its operation, or of its running check, or idle
abbrev pub state_of : Option Operation → Option Check → IfaceState
state_of (Some o) k = Running o.chan o.power
state_of None (Some k) = Checking k.chan (k.begin + k.length)
state_of None None = Idle

-- the report of an interface (`NL80211_CMD_NEW_INTERFACE`)
pub record IsIfaceReport (J : Journal) (x : Iface) (report : IfaceReport) : Type 0 where
  pub name : report.name ≡ x.name
  pub index : report.index ≡ x.index
  pub radio : report.radio ≡ x.radio
  pub kind : report.kind ≡ x.kind
  pub setting : report.setting ≡ x.setting
  pub state : report.state ≡ state_of (operation_of J x.index) (check_of J x.index)
