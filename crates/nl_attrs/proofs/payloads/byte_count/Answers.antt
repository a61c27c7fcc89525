use Rattle.std.proofs.Common.{arith}
use Rattle.nl_attrs.proofs.Places.{bytes_from}
use Rattle.nl_attrs.proofs.payloads.byte_count.Goals as goal

pub returns-clause-bytes : goal.returns-clause-bytes
returns-clause-bytes c = bytes_from c.args.bytes.now (λ i. omega (arith, c.type_inv.bytes i))
