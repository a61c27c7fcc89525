use Rattle.db_writer.proofs.Few.{few_domains}
use Rattle.db_commands.proofs.lint_report.lint_report.Goals as goal

pub put_domains-requires-clause-few : goal.put_domains-requires-clause-few
put_domains-requires-clause-few c = rw c.as_slice.ensures.all (few_domains _ c.as_slice.ensures.db)
