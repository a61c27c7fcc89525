use Rattle.std.proofs.Common.{rules, List, ◌∷◌, ◌++◌, ap}
use Rattle.std.specs.Prelude.{ℤ}
use Rattle.std.specs.Int.{w32, cast_unsigned}
use Rattle.std.proofs.lemmas.Int.{to_z-of_z}
use Rattle.nl_attrs.specs.Endian.{le32}
use Rattle.nl_attrs.specs.Attributes.{attrs_bytes}
use Rattle.nl_attrs.specs.declared.attr.Attr.{Attr}
use Rattle.nl_attrs.proofs.Written.{too_big, message_written}
use Rattle.nl_attrs.proofs.message_writer.put_message.Goals as goal

pub returns-in-Some-clause-overlong : goal.returns-in-Some-clause-overlong
returns-in-Some-clause-overlong c =
    rw c.in-Generic.is (too_big c.in-Some.length _ _ _ _ _ _ c.in-Generic.attrs (rw c.as_slice-attrs.ensures.items at c.in-Some.ensures))

pub returns-in_ok-put_generic-in-Generic-clause-bytes : goal.returns-in_ok-put_generic-in-Generic-clause-bytes
returns-in_ok-put_generic-in-Generic-clause-bytes c =
    message_written c.args.m.now _ c.fields_of.result c.args.out.now c.put_generic.new.out _ c.in-Generic.is c.fields_of.ensures c.in_ok-put_generic-in-Generic.ensures.bytes (ap (λ (x : List Attr). c.in-Generic.cmd ∷ c.in-Generic.version ∷ 0 ∷ 0 ∷ attrs_bytes x) c.as_slice-attrs.ensures.items)

pub returns-in_ok-put_error-in-Error-clause-bytes : goal.returns-in_ok-put_error-in-Error-clause-bytes
returns-in_ok-put_error-in-Error-clause-bytes c =
    message_written c.args.m.now _ c.fields_of-in-Error.result c.args.out.now c.put_error.new.out _ c.in-Error.is c.fields_of-in-Error.ensures c.in_ok-put_error-in-Error.ensures.bytes (ap (λ (z : ℤ). le32 (cast_unsigned w32 z) ++ c.in-Error.head) (to_z-of_z w32 c.in-Error.code (search rules)))

pub returns-in_ok-put_done-in-Done-clause-bytes : goal.returns-in_ok-put_done-in-Done-clause-bytes
returns-in_ok-put_done-in-Done-clause-bytes c =
    message_written c.args.m.now _ c.fields_of-in-Done.result c.args.out.now c.put_done.new.out _ c.in-Done.is c.fields_of-in-Done.ensures c.in_ok-put_done-in-Done.ensures.bytes (ap (λ (z : ℤ). le32 (cast_unsigned w32 z)) (to_z-of_z w32 c.in-Done.code (search rules)))
