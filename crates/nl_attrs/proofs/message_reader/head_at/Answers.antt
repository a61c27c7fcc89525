use Rattle.std.proofs.Common.{arith}
use Rattle.nl_attrs.proofs.Places.{IsBytes}
use Rattle.nl_attrs.proofs.ReadBodies.{head_taken}
use Rattle.nl_attrs.proofs.message_reader.head_at.Goals as goal

pub returns-clause-parts : goal.returns-clause-parts
returns-clause-parts c =
    let bytes : IsBytes c.args.bytes.now = λ i. omega (arith, c.type_inv.bytes i) in
    rw (c.u32_at.ensures, c.u16_at.ensures, c.u16_at-2.ensures, c.u32_at-2.ensures, c.u32_at-3.ensures) (head_taken c.args.bytes.now bytes c.requires)
