-- Values by their numbers.
use Rattle.std.specs.Prelude.{ℕ, ◌*◌, ◌/◌, ◌%◌, ◌==◌, cond, nat_lt}
use Rattle.freq_range.specs.declared.flags.RuleFlags.{RuleFlags}
use Rattle.rule_tables.specs.declared.code.Region.{Region}
use Rattle.rule_tables.specs.declared.code.Region.TheVariants.{Unset, Fcc, Etsi, Jp}
use Rattle.chan_def.specs.declared.kind.Kind.{Kind}
use Rattle.chan_def.specs.declared.kind.Kind.TheVariants.{Ap, Ibss, Mesh, Station, Monitor}
use Rattle.chan_def.specs.declared.width.Width.{Width}
use Rattle.chan_def.specs.declared.width.Width.TheVariants.{Noht, W20, W40, W80, W160, W320}
use Rattle.chan_flags.specs.declared.profile.Bands.{Bands}
use Rattle.dfs_states.specs.declared.dfs.Dfs.{Dfs}
use Rattle.dfs_states.specs.declared.dfs.Dfs.TheVariants.{Usable, Unavailable, Available}
use Rattle.chan_flags.specs.declared.verdict.PowerSetting.{PowerSetting}
use Rattle.chan_flags.specs.declared.verdict.PowerSetting.TheVariants.{Auto, Limit, Fixed}
use Rattle.chan_def.specs.declared.definition.ChanDef.{ChanDef}
use Rattle.reg_journal.specs.declared.report.IfaceState.{IfaceState}
use Rattle.reg_journal.specs.declared.report.IfaceState.TheVariants.{Idle, Checking, Running}

-- 0 stands for a number from the limit on
abbrev pub below : ℕ → ℕ → ℕ
below limit n = cond (nat_lt n limit) n 0

-- MHz in kHz, which fit 32 bits
abbrev pub khz_of : ℕ → ℕ
khz_of mhz = cond (nat_lt mhz 4294968) (1000 * mhz) 0

abbrev pub kind_numbered : ℕ → Kind
kind_numbered n = cond (n == 1) Ibss (cond (n == 2) Station (cond (n == 3) Ap (cond (n == 6) Monitor Mesh)))

abbrev pub width_numbered : ℕ → Width
width_numbered n = cond (n == 0) Noht (cond (n == 1) W20 (cond (n == 2) W40 (cond (n == 3) W80 (cond (n == 5) W160 W320))))

abbrev pub region_numbered : ℕ → Region
region_numbered n = cond (n == 0) Unset (cond (n == 1) Fcc (cond (n == 2) Etsi Jp))

abbrev pub flags_numbered : ℕ → RuleFlags
flags_numbered n = record { no_ofdm = n % 2 == 1; no_outdoor = n / 8 % 2 == 1; dfs = n / 16 % 2 == 1; no_ir = n / 128 % 2 == 1; auto_bw = n / 2048 % 2 == 1 }

abbrev pub bands_numbered : ℕ → Bands
bands_numbered n = record { ghz2 = n % 2 == 1; ghz5 = n / 2 % 2 == 1; ghz6 = n / 4 % 2 == 1 }

-- what is known of radar, how power is set and what an interface does, by numbers and what goes with them
abbrev pub dfs_numbered : ℕ → ℕ → Dfs
dfs_numbered n ms = cond (n == 0) Usable (cond (n == 1) (Unavailable ms) (Available ms))

abbrev pub setting_numbered : ℕ → ℕ → PowerSetting
setting_numbered n power = cond (n == 0) Auto (cond (n == 1) (Limit (below 65536 power)) (Fixed (below 65536 power)))

abbrev pub state_numbered : ℕ → ChanDef → ℕ → IfaceState
state_numbered n chan told = cond (n == 0) Idle (cond (n == 1) (Checking chan told) (Running chan (below 65536 told)))
