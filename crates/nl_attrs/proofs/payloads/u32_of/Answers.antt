use Rattle.std.proofs.Common.{length, Some, ap, ◌∙◌, arith}
use Rattle.nl_attrs.proofs.Lengths.{length-le32}
use Rattle.nl_attrs.proofs.ReadNumbers.{whole32, read32}
use Rattle.nl_attrs.proofs.payloads.u32_of.Goals as goal

pub returns-then-payload-eq4-clause-number : goal.returns-then-payload-eq4-clause-number
returns-then-payload-eq4-clause-number c =
    rw c.u32_at.ensures (whole32 c.args.payload.now (λ i. omega (arith, c.type_inv.payload i)) (omega arith))

pub returns-then-payload-eq4-clause-inverse : goal.returns-then-payload-eq4-clause-inverse
returns-then-payload-eq4-clause-inverse c n lt e = ap Some (c.u32_at.ensures ∙ read32 c.args.payload.now n lt e)

pub returns-else-payload-eq4-clause-inverse : goal.returns-else-payload-eq4-clause-inverse
returns-else-payload-eq4-clause-inverse c n lt e = absurd (omega (arith, ap length e, length-le32 n))
