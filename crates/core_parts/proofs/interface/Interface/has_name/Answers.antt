use Rattle.reg_journal.proofs.SameNames.{same_name}
use Rattle.core_parts.proofs.interface.Interface.has_name.Goals as goal

pub returns : goal.returns
returns c = same_name _ _ _ c.is_same.ensures.same.0 c.is_same.ensures.same.1
