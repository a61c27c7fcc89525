use Rattle.std.proofs.Common.{refl}
use Rattle.db_reader.proofs.Entered.{twice_from_code}
use Rattle.db_reader.proofs.entries.read_code.Goals as goal

pub returns-in-Some : goal.returns-in-Some
returns-in-Some c = (
  c.code_at-alpha2.ensures,
  c.if-not-is_code.ensures.0 refl,
  twice_from_code c.args.bytes.now c.args.k c.args.db.now c.code_at-alpha2.result c.requires.so_far c.code_at-alpha2.ensures (c.in-Some._domain.now, c.in-Some.ensures.0, c.in-Some.ensures.1),
)
