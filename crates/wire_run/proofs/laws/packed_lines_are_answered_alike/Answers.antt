use Rattle.wire_run.proofs.Together.{packed_alike}
use Rattle.wire_run.proofs.laws.packed_lines_are_answered_alike.Goals as goal

pub returns : goal.returns
returns c = packed_alike
