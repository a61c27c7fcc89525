use Rattle.std.proofs.Common.{◌≡◌, ℕ, ◌%◌, leb, refl, ap, ◌∙◌, arith}
use Rattle.std.proofs.lemmas.List.{take_rest}
use Rattle.nl_attrs.specs.Attributes.{kind_field}
use Rattle.nl_attrs.proofs.Places.{IsBytes, bytes_from, u16_at-lt}
use Rattle.nl_attrs.proofs.Taken.{attr_taken, kind_field_of}
use Rattle.nl_attrs.proofs.Told.{IsAttr-front}
use Rattle.nl_attrs.proofs.walk.attr_at.Goals as goal

pub returns-clause-attr : goal.returns-clause-attr
returns-clause-attr c =
    IsAttr-front c.args.bytes.now _ c.u16_at-length.result (bytes_from c.args.bytes.now (λ i. omega (arith, c.type_inv.bytes i))) c.u16_at-length.ensures (ap (λ (n : ℕ). n % 16384) c.u16_at-field.ensures) refl

pub returns-clause-parts : goal.returns-clause-parts
returns-clause-parts c =
    let bytes : IsBytes c.args.bytes.now = λ i. omega (arith, c.type_inv.bytes i) in
    let field = c.u16_at-field.ensures in
    let kind : kind_field _ (leb 32768 c.u16_at-field.result) ≡ c.u16_at-field.result = kind_field_of c.u16_at-field.result (rw field (u16_at-lt _ 2 bytes)) (rw field c.requires.bit) in
    rw (take_rest, c.aligned.ensures) (attr_taken c.args.bytes.now _ c.u16_at-length.result bytes c.requires c.u16_at-length.ensures (kind ∙ field) refl)
