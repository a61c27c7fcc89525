use Rattle.db_writer.proofs.Uses.{rule_words-le}
use Rattle.db_writer.proofs.plan.end_of_rules.Goals as goal

pub words_of-requires-clause-short : goal.words_of-requires-clause-short
words_of-requires-clause-short c = λ k d within. rule_words-le _
