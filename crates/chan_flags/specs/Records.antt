-- What the rules allow on a channel of 20 MHz.
use Rattle.std.specs.Prelude.{◌≡◌, ℕ, ◌<◌, List, length, All, Option, None, Some, slice_get}
use Rattle.freq_range.specs.Flags.{joined_flags_by}
use Rattle.rule_tables.specs.declared.domain.Domain.{Domain}
use Rattle.rule_intersect.specs.declared.row.Row.{Row}
use Rattle.rule_intersect.specs.Subchannels.{AreGoverning, IsFirstRow, NoRowHolds, SomeLacksRule}
use Rattle.rule_intersect.specs.Tuples.{Choice, check_ms, greatest_by, least_by}
use Rattle.chan_flags.specs.Profiles.{Abilities}
use Rattle.chan_flags.specs.declared.record.Chan.{Chan}
use Rattle.chan_flags.specs.declared.record.Fit.{Fit}

-- What these rules allow together: their flags without AUTO-BW, the least power, the longest check for radar (CAC)
-- among the rules with DFS (0 where none has it), and the least of the widths that they allow in their own domains.
abbrev pub fit_of : List Choice → Fit
fit_of t = record {
  flags = joined_flags_by (λ c. c.rule.flags) t;
  limit_mbm = least_by (λ c. c.rule.eirp_mbm) t;
  check_ms = greatest_by (λ c. check_ms c.rule) t;
  width_khz = least_by (λ c. c.width_khz) t;
}

-- The record of the channel round this centre, in kHz, over a list of domains: what the governing rule of each domain allows.
-- There is none exactly where some domain has no rule that holds the channel.
abbrev pub IsRecord : List Domain → ℕ → Option Fit → Type 0
IsRecord ds khz None = SomeLacksRule ds khz
IsRecord ds khz (Some fit) = (t : List Choice) × AreGoverning ds khz t × (fit ≡ fit_of t)

-- each channel has its record over the list of domains, which has at least one
pub record AreRecords (ds : List Domain) (chans : List Chan) : Type 0 where
  pub some : 0 < length ds
  pub each : All (λ c. IsRecord ds c.khz c.fit) chans

-- what a row allows
abbrev pub fit_of_row : Row → Fit
fit_of_row row = record {
  flags = row.flags;
  limit_mbm = row.eirp_mbm;
  check_ms = row.check_ms;
  width_khz = row.width_khz;
}

-- what the first row that holds the channel allows; there is none exactly where no row does
abbrev pub IsRowFit : List Row → ℕ → Option Fit → Type 0
IsRowFit rows khz None = NoRowHolds rows khz
IsRowFit rows khz (Some fit) = (k : ℕ) × IsFirstRow rows khz k × (row : Row) × (slice_get rows k ≡ Some row) × (fit ≡ fit_of_row row)

-- what contracts see of a radio's channels: the radio's profile, and the channels with their records
pub record Recorded : Type 0 where
  pub profile : Abilities
  pub chans : List Chan
