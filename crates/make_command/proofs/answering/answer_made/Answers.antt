use Rattle.std.proofs.Common.{arith, refl}
use Rattle.make_command.proofs.Course.{always_told, few_made, none_answered}
use Rattle.make_command.proofs.answering.answer_made.Goals as goal

pub returns-in_err-db-clause-stopped : goal.returns-in_err-db-clause-stopped
returns-in_err-db-clause-stopped g c = always_told _ _ (none_answered _ _ _ _ c.requires.idle refl)

pub returns-in_err-core-clause-stopped : goal.returns-in_err-core-clause-stopped
returns-in_err-core-clause-stopped g c = always_told _ _ (none_answered _ _ _ _ c.requires.idle refl)

pub answer_all-requires-clause-few : goal.answer_all-requires-clause-few
answer_all-requires-clause-few g c = let few = few_made c.new-requests.result c.args.number c.new-requests.ensures.requests c.requires.few in omega (arith, few)
