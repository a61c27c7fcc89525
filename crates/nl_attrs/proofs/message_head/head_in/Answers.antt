use Rattle.std.proofs.Common.{◌≤◌, length, take, ap, ◌∙◌, arith}
use Rattle.std.proofs.lemmas.List.{length-append, take-append-le}
use Rattle.nl_attrs.specs.Messages.{spelled}
use Rattle.nl_attrs.proofs.MsgLaws.{length-msg}
use Rattle.nl_attrs.proofs.message_head.head_in.Goals as goal

pub returns-then-held-lt-HEAD-clause-message : goal.returns-then-held-lt-HEAD-clause-message
returns-then-held-lt-HEAD-clause-message c m rest is e =
    omega (arith, ap length e, length-append (spelled m) rest, length-msg m is)

pub returns-clause-message : goal.returns-clause-message
returns-clause-message c m rest is e =
    let long : 16 ≤ length (spelled m) = omega (arith, length-msg m is) in
    c.copy_from_slice.ensures.after ∙ ap (take 16) e ∙ take-append-le 16 (spelled m) rest long
