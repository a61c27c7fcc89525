use Rattle.std.proofs.Common.{◌≤◌, length, of_z, subst, sym, to_z, w32}
use Rattle.nl_attrs.specs.Messages.{spelled}
use Rattle.wire_run.proofs.Lengths.{error_short}
use Rattle.wire_run.proofs.answering.put_errno.Goals as goal

pub put_short-requires-clause-short : goal.put_short-requires-clause-short
put_short-requires-clause-short c = subst (λ m. length (spelled m) ≤ 65536) (sym c.in_ok-answer.ensures) (error_short c.args.message.now (to_z w32 (of_z w32 c.args.errno)))
