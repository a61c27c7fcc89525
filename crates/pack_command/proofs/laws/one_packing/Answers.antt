use Rattle.pack_command.proofs.Packed.{one_packing}
use Rattle.pack_command.proofs.laws.one_packing.Goals as goal

pub returns : goal.returns
returns c = one_packing
