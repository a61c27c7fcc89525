use Rattle.reg_hints.proofs.NeverEmpty.{never_empty}
use Rattle.reg_hints.proofs.laws.global_list_is_never_empty.Goals as goal

pub returns : goal.returns
returns c = never_empty
