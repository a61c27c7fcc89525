-- The texts of what is shown of rules, channels, radios and interfaces. Each line ends with a newline.
use Rattle.std.specs.Prelude.{ℕ, ◌-◌, ◌/◌, ◌==◌, nat_lt, Bool, List, [], ◌++◌, Option, Some, None, codes, decimal, if◌then◌else◌}
use Rattle.std.specs.List.{flat_map}
use Rattle.reg_base.specs.Texts.{line_of}
use Rattle.freq_range.specs.declared.flags.RuleFlags.{RuleFlags}
use Rattle.rule_tables.specs.declared.code.Region.{Region}
use Rattle.rule_tables.specs.declared.code.Region.TheVariants.{Unset, Fcc, Etsi, Jp}
use Rattle.text_lines.specs.declared.form.Flag.TheVariants.{NoOfdm, NoOutdoor, NoIr}
use Rattle.text_lines.specs.Spelling.{region_name}
use Rattle.db_text.specs.PrintedRules.{flag_part, flags_part}
use Rattle.rule_intersect.specs.declared.row.Row.{Row}
use Rattle.chan_def.specs.declared.definition.ChanDef.{ChanDef}
use Rattle.chan_def.specs.declared.kind.Kind.{Kind}
use Rattle.chan_flags.specs.Profiles.{Abilities}
use Rattle.chan_flags.specs.declared.record.Chan.{Chan}
use Rattle.chan_flags.specs.declared.record.Fit.{Fit}
use Rattle.chan_flags.specs.declared.verdict.PowerSetting.{PowerSetting}
use Rattle.chan_flags.specs.declared.verdict.PowerSetting.TheVariants.{Auto, Limit, Fixed}
use Rattle.dfs_states.specs.declared.dfs.Dfs.{Dfs}
use Rattle.dfs_states.specs.declared.dfs.Dfs.TheVariants.{Usable, Unavailable, Available}
use Rattle.reg_journal.specs.declared.report.Section.{Section}
use Rattle.reg_journal.specs.declared.report.RadioReport.{RadioReport}
use Rattle.reg_journal.specs.declared.report.IfaceReport.{IfaceReport}
use Rattle.reg_journal.specs.declared.report.IfaceState.{IfaceState}
use Rattle.reg_journal.specs.declared.report.IfaceState.TheVariants.{Idle, Checking, Running}
use Rattle.iw_dumps.specs.Spelling.{bands_text, channel_text, code_text, kind_text, operating_text, radio_text, whole_mhz_text}

-- the text where it is set, or nothing
abbrev pub text_if : Bool → List ℕ → List ℕ
text_if set text = if set then text else []

-- ---- sections

-- which list the section is of
abbrev pub owner_text : Option ℕ → List ℕ
owner_text None = codes "global"
owner_text (Some radio) = codes "phy#" ++ decimal radio

-- the name of a region, unset too
abbrev pub region_text : Region → List ℕ
region_text Unset = codes "DFS-UNSET"
region_text Fcc = region_name Fcc
region_text Etsi = region_name Etsi
region_text Jp = region_name Jp

-- the code and the region of a section
unfoldable pub country_text : Section → List ℕ
country_text section = codes "country " ++ code_text section.alpha2 ++ codes ": " ++ region_text section.region

-- the length of a check (CAC), in ms, where the row's channels are checked for radar
abbrev pub check_text : Row → List ℕ
check_text row = if row.flags.dfs then decimal row.cac_ms ++ codes " ms" else codes "N/A"

-- `(START - END @ WIDTH)` behind a tab, in whole MHz
unfoldable pub row_range_text : Row → List ℕ
row_range_text row =
    codes "\t(" ++ whole_mhz_text row.start_khz ++ codes " - " ++ whole_mhz_text row.end_khz ++ codes " @ " ++ whole_mhz_text row.width_khz ++ codes ")"

-- `, (N/A, POWER), (CHECK)`, with the power in whole dBm
unfoldable pub row_limits_text : Row → List ℕ
row_limits_text row = codes ", (N/A, " ++ decimal (row.eirp_mbm / 100) ++ codes "), (" ++ check_text row ++ codes ")"

-- a row: its range and width, its power and check, and its flags as a rule text has them
unfoldable pub row_text : Row → List ℕ
row_text row = row_range_text row ++ row_limits_text row ++ flags_part row.flags

-- a section: whose list it is, its code and region, and its rows
unfoldable pub section_text : Section → List ℕ
section_text section = line_of (owner_text section.radio) ++ line_of (country_text section) ++ flat_map (λ row. line_of (row_text row)) section.rows

-- one section behind another
abbrev pub sections_text : List Section → List ℕ
sections_text sections = flat_map section_text sections

-- ---- channels

-- the number of the channel with this centre, in kHz
unfoldable pub channel_number : ℕ → ℕ
channel_number khz =
    if khz == 2484000 then 14
    else if nat_lt khz 5000000 then (khz - 2407000) / 5000
    else if nat_lt khz 5950000 then (khz - 5000000) / 5000
    else (khz - 5950000) / 5000

-- the state of a channel that has to be checked for radar, with moments in ms
abbrev pub state_text : Dfs → List ℕ
state_text Usable = codes ", DFS usable"
state_text (Unavailable until) = codes ", DFS unavailable until " ++ decimal until
state_text (Available since) = codes ", DFS available since " ++ decimal since

-- the flags that bar what is sent
unfoldable pub barring_text : RuleFlags → List ℕ
barring_text flags = flag_part flags.no_ofdm NoOfdm ++ flag_part flags.no_outdoor NoOutdoor ++ flag_part flags.no_ir NoIr

-- what the rules allow on a channel: the power in mBm, the width in whole MHz, flags, and the state where it has to be checked
unfoldable pub allowed_text : Fit → Dfs → List ℕ
allowed_text fit state =
    decimal fit.limit_mbm ++ codes " mBm " ++ whole_mhz_text fit.width_khz ++ codes " MHz" ++ barring_text fit.flags ++ text_if fit.flags.dfs (state_text state)

-- the same where the rules allow the channel
abbrev pub fit_text : Option Fit → Dfs → List ℕ
fit_text None state = codes "disabled"
fit_text (Some fit) state = allowed_text fit state

-- a channel: its centre in MHz, its number, and what is allowed there
unfoldable pub shown_channel_text : Chan × Dfs → List ℕ
shown_channel_text shown =
    codes "\t" ++ whole_mhz_text shown.0.khz ++ codes " [" ++ decimal (channel_number shown.0.khz) ++ codes "] " ++ fit_text shown.0.fit shown.1

-- a line for each channel
abbrev pub channels_text : List (Chan × Dfs) → List ℕ
channels_text list = flat_map (λ shown. line_of (shown_channel_text shown)) list

-- ---- radios

-- the bands of a radio, and its widths in MHz
unfoldable pub profile_range_text : Abilities → List ℕ
profile_range_text p = codes " bands " ++ bands_text p.bands ++ codes " width " ++ decimal p.width_mhz ++ codes " radar " ++ decimal p.radar_mhz

-- its power in mBm, its contexts, and what is special about it
unfoldable pub profile_limits_text : Abilities → List ℕ
profile_limits_text p =
    codes " power " ++ decimal p.power_mbm ++ codes " contexts " ++ decimal p.contexts ++ text_if p.self_managed (codes " self") ++ text_if p.deaf (codes " noie")

-- a radio and what it can do
unfoldable pub radio_line_text : RadioReport → List ℕ
radio_line_text report = radio_text report.radio ++ profile_range_text report.profile ++ profile_limits_text report.profile

-- an interface of a radio: its name, index and kind
unfoldable pub shown_iface_text : List ℕ × ℕ × Kind → List ℕ
shown_iface_text x = codes "\t" ++ x.0 ++ codes " " ++ decimal x.1 ++ codes " " ++ kind_text x.2

-- a radio, and a line for each of its interfaces
abbrev pub radio_report_text : RadioReport → List ℕ
radio_report_text report = line_of (radio_line_text report) ++ flat_map (λ x. line_of (shown_iface_text x)) report.ifaces

-- ---- interfaces

-- the name, index, radio and kind of an interface
unfoldable pub iface_line_text : IfaceReport → List ℕ
iface_line_text r = r.name ++ codes " " ++ decimal r.index ++ codes " " ++ radio_text r.radio ++ codes " " ++ kind_text r.kind

-- the setting of its power, in mBm
abbrev pub setting_text : PowerSetting → List ℕ
setting_text Auto = codes "\ttxpower auto"
setting_text (Limit power) = codes "\ttxpower limit " ++ decimal power
setting_text (Fixed power) = codes "\ttxpower fixed " ++ decimal power

-- a check that runs up to a moment, in ms
unfoldable pub checking_text : ChanDef → ℕ → List ℕ
checking_text chan until = codes "\tcheck " ++ channel_text chan ++ codes " until " ++ decimal until

-- an operation of this kind, with its power in mBm
unfoldable pub running_text : Kind → ChanDef → ℕ → List ℕ
running_text kind chan power = codes "\t" ++ operating_text kind ++ codes " " ++ channel_text chan ++ codes " " ++ decimal power

-- what an interface of this kind does
abbrev pub doing_text : Kind → IfaceState → List ℕ
doing_text kind Idle = codes "\tidle"
doing_text kind (Checking chan until) = checking_text chan until
doing_text kind (Running chan power) = running_text kind chan power

-- an interface: its first line, the setting of its power, and what it does
abbrev pub iface_report_text : IfaceReport → List ℕ
iface_report_text r = line_of (iface_line_text r) ++ line_of (setting_text r.setting) ++ line_of (doing_text r.kind r.state)
