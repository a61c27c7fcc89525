use Rattle.db_writer.proofs.Exists.{LaidOut-exists, EndsIn-exists}
use Rattle.db_writer.proofs.Unique.{LaidOut-unique, EndsIn-unique}
use Rattle.db_writer.proofs.laws.one_file.Goals as goal

pub returns-clause-some : goal.returns-clause-some
returns-clause-some c = LaidOut-exists

pub returns-clause-one : goal.returns-clause-one
returns-clause-one c = LaidOut-unique

pub returns-clause-some_end : goal.returns-clause-some_end
returns-clause-some_end c = EndsIn-exists

pub returns-clause-one_end : goal.returns-clause-one_end
returns-clause-one_end c = EndsIn-unique
