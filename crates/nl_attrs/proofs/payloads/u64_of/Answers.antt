use Rattle.std.proofs.Common.{length, Some, ap, ◌∙◌, arith}
use Rattle.nl_attrs.proofs.Lengths.{length-le64}
use Rattle.nl_attrs.proofs.ReadNumbers.{whole64, read64}
use Rattle.nl_attrs.proofs.payloads.u64_of.Goals as goal

pub returns-then-payload-eq8-clause-number : goal.returns-then-payload-eq8-clause-number
returns-then-payload-eq8-clause-number c =
    rw c.u64_at.ensures (whole64 c.args.payload.now (λ i. omega (arith, c.type_inv.payload i)) (omega arith))

pub returns-then-payload-eq8-clause-inverse : goal.returns-then-payload-eq8-clause-inverse
returns-then-payload-eq8-clause-inverse c n lt e = ap Some (c.u64_at.ensures ∙ read64 c.args.payload.now n lt e)

pub returns-else-payload-eq8-clause-inverse : goal.returns-else-payload-eq8-clause-inverse
returns-else-payload-eq8-clause-inverse c n lt e = absurd (omega (arith, ap length e, length-le64 n))
