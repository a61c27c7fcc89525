use Rattle.script_run.proofs.Scripts.{one_output}
use Rattle.regtool.proofs.laws.one_output.Goals as goal

pub returns : goal.returns
returns c = one_output
