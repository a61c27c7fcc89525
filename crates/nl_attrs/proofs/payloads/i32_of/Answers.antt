use Rattle.std.proofs.Common.{length, Some, ap, ◌∙◌, arith}
use Rattle.std.specs.Int.{w32, cast_unsigned}
use Rattle.std.proofs.lemmas.Int.{to_z-of_z}
use Rattle.nl_attrs.proofs.Lengths.{length-le32}
use Rattle.nl_attrs.proofs.ReadNumbers.{whole_signed, read_signed}
use Rattle.nl_attrs.proofs.ReadBodies.{code_fits as signed_fits}
use Rattle.nl_attrs.proofs.payloads.i32_of.Goals as goal

pub returns-then-payload-eq4-clause-number : goal.returns-then-payload-eq4-clause-number
returns-then-payload-eq4-clause-number c =
    rw (to_z-of_z w32 c.i32_at.result (signed_fits c.args.payload.now c.i32_at.result (λ i. omega (arith, c.type_inv.payload i)) c.i32_at.ensures), c.i32_at.ensures) (whole_signed c.args.payload.now (λ i. omega (arith, c.type_inv.payload i)) (omega arith))

pub returns-then-payload-eq4-clause-inverse : goal.returns-then-payload-eq4-clause-inverse
returns-then-payload-eq4-clause-inverse c n fits e =
    ap Some (to_z-of_z w32 c.i32_at.result (signed_fits c.args.payload.now c.i32_at.result (λ i. omega (arith, c.type_inv.payload i)) c.i32_at.ensures) ∙ c.i32_at.ensures ∙ read_signed c.args.payload.now n fits e)

pub returns-else-payload-eq4-clause-inverse : goal.returns-else-payload-eq4-clause-inverse
returns-else-payload-eq4-clause-inverse c n fits e =
    absurd (omega (arith, ap length e, length-le32 (cast_unsigned w32 n)))
