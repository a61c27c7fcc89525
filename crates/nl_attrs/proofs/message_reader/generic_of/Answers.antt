use Rattle.std.proofs.Common.{sym, ◌∙◌, arith}
use Rattle.std.proofs.lemmas.List.{take_rest}
use Rattle.nl_attrs.proofs.Places.{bytes_from}
use Rattle.nl_attrs.proofs.ReadBodies.{generic_taken, read_generic_is}
use Rattle.nl_attrs.proofs.message_reader.generic_of.Goals as goal

pub returns-in-Ok-clause-message : goal.returns-in-Ok-clause-message
returns-in-Ok-clause-message c =
    read_generic_is _ _ _ _ c.args.body.now c.in-Ok.attrs (bytes_from c.args.body.now (λ i. omega (arith, c.type_inv.body i))) c.requires.long (sym c.u16_at.ensures ∙ c.if-u16_at-ne0.false) (sym (take_rest c.args.body.now 4) ∙ c.in-Ok.ensures.list) c.requires.family (omega arith) (omega arith) (omega arith) (omega arith) c.in-Ok.ensures.each c.requires.short

pub returns-in-Ok-clause-spelled : goal.returns-in-Ok-clause-spelled
returns-in-Ok-clause-spelled c =
    generic_taken _ _ _ _ c.args.body.now c.in-Ok.attrs c.requires.long (sym c.u16_at.ensures ∙ c.if-u16_at-ne0.false) (sym (take_rest c.args.body.now 4) ∙ c.in-Ok.ensures.list)
