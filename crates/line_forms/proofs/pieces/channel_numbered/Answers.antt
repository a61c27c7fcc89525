use Rattle.std.proofs.Common.{◌≤◌, rules}
use Rattle.line_forms.proofs.ChannelNumbers.{numbered-low}
use Rattle.line_forms.proofs.pieces.channel_numbered.Goals as goal

pub returns-then-number-le14 : goal.returns-then-number-le14
returns-then-number-le14 c = let low : c.args.number ≤ 14 = search rules in numbered-low c.args.number _ low c.channel_khz.ensures.table
