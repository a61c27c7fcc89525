use Rattle.std.proofs.Common.{length, Some, ap, ◌∙◌, arith}
use Rattle.nl_attrs.proofs.Lengths.{length-le16}
use Rattle.nl_attrs.proofs.ReadNumbers.{whole16, read16}
use Rattle.nl_attrs.proofs.payloads.u16_of.Goals as goal

pub returns-then-payload-eq2-clause-number : goal.returns-then-payload-eq2-clause-number
returns-then-payload-eq2-clause-number c =
    rw c.u16_at.ensures (whole16 c.args.payload.now (λ i. omega (arith, c.type_inv.payload i)) (omega arith))

pub returns-then-payload-eq2-clause-inverse : goal.returns-then-payload-eq2-clause-inverse
returns-then-payload-eq2-clause-inverse c n lt e = ap Some (c.u16_at.ensures ∙ read16 c.args.payload.now n lt e)

pub returns-else-payload-eq2-clause-inverse : goal.returns-else-payload-eq2-clause-inverse
returns-else-payload-eq2-clause-inverse c n lt e = absurd (omega (arith, ap length e, length-le16 n))
