use Rattle.db_text.proofs.PrintedText.{printed_reads, printed_rule_reads}
use Rattle.db_text.proofs.laws.printed_text_reads_back.Goals as goal

pub returns-clause-database : goal.returns-clause-database
returns-clause-database c = printed_reads

pub returns-clause-rule : goal.returns-clause-rule
returns-clause-rule c = printed_rule_reads
