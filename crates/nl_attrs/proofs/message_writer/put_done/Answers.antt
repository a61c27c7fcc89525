use Rattle.std.proofs.Common.{append_assoc, refl, arith}
use Rattle.std.specs.Int.{w32}
use Rattle.std.proofs.lemmas.Int.{to_z-of_z}
use Rattle.nl_attrs.proofs.Written.{done_is}
use Rattle.nl_attrs.proofs.message_writer.put_done.Goals as goal

pub returns-clause-bytes : goal.returns-clause-bytes
returns-clause-bytes c =
    rw (c.in_ok-put_i32.ensures, c.in_ok-put_head.ensures, to_z-of_z w32 c.args.code c.ranges.code, append_assoc) refl

pub returns-clause-message : goal.returns-clause-message
returns-clause-message c =
    done_is _ _ _ _ (omega arith) (omega arith) (omega arith) c.ranges.code

pub returns-in_err-put_head-clause-message : goal.returns-in_err-put_head-clause-message
returns-in_err-put_head-clause-message c =
    done_is _ _ _ _ (omega arith) (omega arith) (omega arith) c.ranges.code

pub returns-in_err-put_i32-clause-message : goal.returns-in_err-put_i32-clause-message
returns-in_err-put_i32-clause-message c =
    done_is _ _ _ _ (omega arith) (omega arith) (omega arith) c.ranges.code
