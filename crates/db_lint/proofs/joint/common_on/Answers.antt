use Rattle.db_lint.proofs.Together.{lacks_one}
use Rattle.db_lint.proofs.joint.common_on.Goals as goal

pub returns-in_default : goal.returns-in_default
returns-in_default c = record { common = lacks_one c.args.a.now c.args.b.now c.args.khz c.in_default.ensures.allowed }
