use Rattle.std.proofs.Common.{append_assoc, arith}
use Rattle.std.specs.Int.{w32}
use Rattle.std.proofs.lemmas.Int.{to_z-of_z}
use Rattle.nl_attrs.proofs.Places.{bytes_from}
use Rattle.nl_attrs.proofs.Written.{error_is}
use Rattle.nl_attrs.proofs.message_writer.put_error.Goals as goal

pub returns-clause-bytes : goal.returns-clause-bytes
returns-clause-bytes c =
    rw (c.in_ok-append.ensures.ok, c.in_ok-put_i32.ensures, c.in_ok-put_head.ensures, to_z-of_z w32 c.args.code c.ranges.code) (simp append_assoc)

pub returns-clause-message : goal.returns-clause-message
returns-clause-message c =
    error_is _ _ _ _ _ (omega arith) (omega arith) (omega arith) c.ranges.code c.requires (bytes_from c.args.request.now (λ i. omega (arith, c.type_inv.request i)))

pub returns-in_err-put_head-clause-message : goal.returns-in_err-put_head-clause-message
returns-in_err-put_head-clause-message c =
    error_is _ _ _ _ _ (omega arith) (omega arith) (omega arith) c.ranges.code c.requires (bytes_from c.args.request.now (λ i. omega (arith, c.type_inv.request i)))

pub returns-in_err-put_i32-clause-message : goal.returns-in_err-put_i32-clause-message
returns-in_err-put_i32-clause-message c =
    error_is _ _ _ _ _ (omega arith) (omega arith) (omega arith) c.ranges.code c.requires (bytes_from c.args.request.now (λ i. omega (arith, c.type_inv.request i)))

pub returns-in_err-append-clause-message : goal.returns-in_err-append-clause-message
returns-in_err-append-clause-message c =
    error_is _ _ _ _ _ (omega arith) (omega arith) (omega arith) c.ranges.code c.requires (bytes_from c.args.request.now (λ i. omega (arith, c.type_inv.request i)))
