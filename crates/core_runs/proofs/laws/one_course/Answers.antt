use Rattle.core_runs.proofs.Each.{one_course}
use Rattle.core_runs.proofs.laws.one_course.Goals as goal

pub returns : goal.returns
returns c = one_course
