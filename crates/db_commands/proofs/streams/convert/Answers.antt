use Rattle.std.proofs.Common.{rules}
use Rattle.db_commands.proofs.streams.convert.Goals as goal

pub returns-in-Ok-write_all-clause-converted : goal.returns-in-Ok-write_all-clause-converted
returns-in-Ok-write_all-clause-converted g c = search rules
