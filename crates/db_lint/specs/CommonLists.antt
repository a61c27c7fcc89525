-- What two domains allow together.
use Rattle.std.specs.Prelude.{◌≡◌, ℕ, min, List, map, All, Some, slice_get}
use Rattle.freq_range.specs.Ascending.{AreAllAscending}
use Rattle.freq_range.specs.Channels.{IsCentre}
use Rattle.freq_range.specs.Flags.{joined_flags}
use Rattle.freq_range.specs.declared.rule.Rule.{Rule}
use Rattle.rule_tables.specs.Governing.{Governs}
use Rattle.rule_tables.specs.Width.{IsAllowedWidth}
use Rattle.rule_tables.specs.declared.domain.Domain.{Domain}
use Rattle.db_lint.specs.declared.entry.Common.{Common}

-- the rule of the domain that governs the channel, and the width in kHz that it allows
pub record IsAllowedOn (d : Domain) (khz : ℕ) (rule : Rule) (width : ℕ) : Type 0 where
  pub number : ℕ
  pub governs : Governs d.rules khz number
  pub rule_is : slice_get d.rules number ≡ Some rule
  pub width_is : IsAllowedWidth d.rules number width

-- some rule of each domain governs the channel
abbrev pub BothGovern : Domain → Domain → ℕ → Type 0
BothGovern a b khz = (j : ℕ) × Governs a.rules khz j × (k : ℕ) × Governs b.rules khz k

-- a channel of the table, by its centre in kHz, that both domains have a rule for
pub record IsCommonChannel (a b : Domain) (khz : ℕ) : Type 0 where
  pub centre : IsCentre khz
  pub both : BothGovern a b khz

-- the least of what the two governing rules of the channel allow, and the flags of both but AUTO-BW
pub record IsCommon (a b : Domain) (c : Common) : Type 0 where
  pub one : Rule
  pub other : Rule
  pub one_width : ℕ
  pub other_width : ℕ
  pub one_is : IsAllowedOn a c.khz one one_width
  pub other_is : IsAllowedOn b c.khz other other_width
  pub width : c.width_khz ≡ min one_width other_width
  pub power : c.eirp_mbm ≡ min one.eirp_mbm other.eirp_mbm
  pub flags : c.flags ≡ joined_flags one.flags other.flags

-- what both allow on each channel that both have a rule for, ascending
pub record AreCommon (a b : Domain) (list : List Common) : Type 0 where
  pub channels : AreAllAscending (IsCommonChannel a b) (map (λ c. c.khz) list)
  pub each : All (IsCommon a b) list
