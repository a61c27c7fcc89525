use Rattle.std.proofs.Common.{arith}
use Rattle.std.proofs.lemmas.List.{take_rest}
use Rattle.nl_attrs.proofs.Places.{IsBytes, IsBytes-drop, bytes_from}
use Rattle.nl_attrs.proofs.ReadBodies.{error_taken, code_fits, code_as_read}
use Rattle.nl_attrs.proofs.Written.{error_is}
use Rattle.nl_attrs.proofs.message_reader.error_of.Goals as goal

pub returns-clause-message : goal.returns-clause-message
returns-clause-message c =
    let bytes : IsBytes c.args.body.now = λ i. omega (arith, c.type_inv.body i) in
    error_is _ _ _ _ _ (omega arith) (omega arith) (omega arith) (code_fits c.args.body.now _ bytes (code_as_read c.args.body.now _ bytes c.i32_at.ensures)) c.copy_from_slice.ensures.len (bytes_from _ (λ i. rw (c.copy_from_slice.ensures.after, take_rest) (IsBytes-drop 4 c.args.body.now bytes i)))

pub returns-clause-spelled : goal.returns-clause-spelled
returns-clause-spelled c =
    let bytes : IsBytes c.args.body.now = λ i. omega (arith, c.type_inv.body i) in
    rw (c.copy_from_slice.ensures.after, take_rest) (error_taken _ _ _ c.args.body.now _ bytes c.requires (code_as_read c.args.body.now _ bytes c.i32_at.ensures))
