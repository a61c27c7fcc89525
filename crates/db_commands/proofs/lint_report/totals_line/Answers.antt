use Rattle.db_writer.proofs.Few.{few_domains}
use Rattle.db_commands.proofs.lint_report.totals_line.Goals as goal

pub count_rules-rules-requires-clause-few : goal.count_rules-rules-requires-clause-few
count_rules-rules-requires-clause-few c = few_domains _ c.requires

pub returns : goal.returns
returns c = rw (← c.count_rules-rules.ensures.rules, ← c.in_ok-text.ensures.ok, ← c.as_bytes.ensures.value) c.line_of.ensures
