-- Rules that tables take.
use Rattle.std.specs.Prelude.{◌≤◌, List, length, All}
use Rattle.freq_range.specs.Valid.{IsValidRule}
use Rattle.freq_range.specs.declared.rule.Rule.{Rule}

-- at most 128 rules, each valid
pub record AreTableRules (rules : List Rule) : Type 0 where
  pub valid : All IsValidRule rules
  pub few : length rules ≤ 128
