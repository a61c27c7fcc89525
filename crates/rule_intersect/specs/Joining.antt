-- What two rows, or a row and a rule, have together.
use Rattle.std.specs.Prelude.{max, min, nat_lt, Bool}
use Rattle.freq_range.specs.Flags.{joined_flags}
use Rattle.freq_range.specs.declared.rule.Rule.{Rule}
use Rattle.rule_intersect.specs.declared.row.Row.{Row}

-- the two rows have a common range
abbrev pub meets : Row → Row → Bool
meets row other = nat_lt (max row.start_khz other.start_khz) (min row.end_khz other.end_khz)

-- the row and the rule have a common range
abbrev pub meets_rule : Row → Rule → Bool
meets_rule row r = nat_lt (max row.start_khz r.start_khz) (min row.end_khz r.end_khz)

-- what both rows allow, in their common range
abbrev pub join : Row → Row → Row
join row other = record {
  start_khz = max row.start_khz other.start_khz;
  end_khz = min row.end_khz other.end_khz;
  width_khz = min row.width_khz other.width_khz;
  flags = joined_flags row.flags other.flags;
  eirp_mbm = min row.eirp_mbm other.eirp_mbm;
  cac_ms = max row.cac_ms other.cac_ms;
  check_ms = max row.check_ms other.check_ms;
}
