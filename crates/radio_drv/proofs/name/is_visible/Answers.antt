use Rattle.std.proofs.Common.{rules}
use Rattle.radio_drv.proofs.name.is_visible.Goals as goal

pub returns-then-byte-ge33 : goal.returns-then-byte-ge33
returns-then-byte-ge33 c = search rules
