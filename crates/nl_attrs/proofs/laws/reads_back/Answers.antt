use Rattle.nl_attrs.proofs.StreamLaws.{read_back}
use Rattle.nl_attrs.proofs.laws.reads_back.Goals as goal

pub returns : goal.returns
returns c = read_back
