-- Where rules are looked up once their sections are there.
use Rattle.std.specs.Prelude.{ℕ, All, Contains}
use Rattle.freq_range.specs.declared.rule.Rule.{Rule}
use Rattle.freq_range.specs.declared.wmm.Wmm.{Wmm}
use Rattle.rule_tables.specs.declared.domain.Domain.{Domain}
use Rattle.db_writer.specs.LaidOut.{wmm_place, rule_record, place_of_rule}
use Rattle.db_writer.specs.inner.Gathered.{HasWmmAmong}
use Rattle.db_writer.specs.declared.gather.RuleSections.{RuleSections}

-- where WMM rules and rules stand by the sections
abbrev pub wmm_at_in : RuleSections → Wmm → ℕ
wmm_at_in s = wmm_place s.wmm_rules.first s.wmm_rules.records.items

abbrev pub rule_at_in : RuleSections → Rule → ℕ
rule_at_in s = place_of_rule (wmm_at_in s) s.rules.first s.rules.records.items

-- the rule's record and its WMM rule are in their sections
pub record IsFiled (s : RuleSections) (r : Rule) : Type 0 where
  pub wmm : HasWmmAmong s.wmm_rules.records.items r
  pub rule : Contains s.rules.records.items (rule_record (wmm_at_in s) r)

pub record AreFiled (s : RuleSections) (d : Domain) : Type 0 where
  pub each : All (IsFiled s) d.rules
