use Rattle.std.proofs.lemmas.Result.{err_from_is_err_and}
use Rattle.nl_attrs.proofs.Fronts.{whole_front, refusal}
use Rattle.nl_attrs.proofs.message_reader.message_at.Goals as goal

pub message_in-requires : goal.message_in-requires
message_in-requires c = whole_front _ _ (rw c.in-Ok-Some.field-0-is at c.in-Ok-Some.ensures)

pub returns-in_err-message-in-Ok-Some-clause-fault :
    goal.returns-in_err-message-in-Ok-Some-clause-fault
returns-in_err-message-in-Ok-Some-clause-fault c =
    let p = err_from_is_err_and c.from_residual.result c.from_residual.ensures.1 in
    rw (p.1, p.2) (refusal _ _ _ (rw c.in-Ok-Some.field-0-is at c.in-Ok-Some.ensures) c.in_err-message-in-Ok-Some.ensures.fault)
