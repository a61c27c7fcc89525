-- When a record can be written: its numbers fit the fields that the file has for them.
use Rattle.std.specs.Prelude.{◌≤◌, length, All, IfSome}
use Rattle.db_writer.specs.declared.records.CollectionRecord.{CollectionRecord}
use Rattle.db_writer.specs.declared.records.RuleRecord.{RuleRecord}

abbrev pub RuleFits : RuleRecord → Type 0
RuleFits r = IfSome r.wmm (λ place. place ≤ 65535)

abbrev pub CollectionFits : CollectionRecord → Type 0
CollectionFits c = (length c.rules ≤ 128) × All (λ place. place ≤ 65535) c.rules
