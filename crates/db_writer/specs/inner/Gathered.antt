-- The records that the writer gathers before it puts them in order.
use Rattle.std.specs.Prelude.{ℕ, List, map, flat_map, Contains, IfSome, option_map, option_to_list}
use Rattle.freq_range.specs.declared.rule.Rule.{Rule}
use Rattle.freq_range.specs.declared.wmm.Wmm.{Wmm}
use Rattle.rule_tables.specs.declared.domain.Domain.{Domain}
use Rattle.db_writer.specs.Records.{wmm_bytes}
use Rattle.db_writer.specs.LaidOut.{rule_record}
use Rattle.db_writer.specs.declared.records.RuleRecord.{RuleRecord}

-- the WMM rules of a rule, of rules, and of the rules of domains, in their order
abbrev pub wmm_rules_of_rule : Rule → List (List ℕ)
wmm_rules_of_rule r = option_to_list (option_map wmm_bytes r.wmm)

abbrev pub wmm_of_domain : Domain → List (List ℕ)
wmm_of_domain d = flat_map wmm_rules_of_rule d.rules

-- the records of the rules of a domain
abbrev pub records_of_domain : (Wmm → ℕ) → Domain → List RuleRecord
records_of_domain wmm_at d = map (rule_record wmm_at) d.rules

-- the WMM rule of a rule, if it has one, is among these
abbrev pub HasWmmAmong : List (List ℕ) → Rule → Type 0
HasWmmAmong wmm_rules r = IfSome r.wmm (λ w. Contains wmm_rules (wmm_bytes w))
