use Rattle.std.proofs.Common.{rules}
use Rattle.rule_publish.proofs.plain.PlainBoardBoard.publish.Goals as goal

pub returns : goal.returns
returns g c = search rules
