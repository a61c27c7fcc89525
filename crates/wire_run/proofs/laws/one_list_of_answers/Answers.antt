use Rattle.wire_run.proofs.Together.{one_list_of_answers}
use Rattle.wire_run.proofs.laws.one_list_of_answers.Goals as goal

pub returns : goal.returns
returns c = one_list_of_answers
