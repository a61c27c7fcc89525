use Rattle.db_writer.proofs.Says.{says_database}
use Rattle.db_writer.proofs.laws.file_says_its_database.Goals as goal

pub returns : goal.returns
returns c = record { reads = says_database }
