use Rattle.iw_dumps.proofs.ChannelNumbers.{number_of_channel}
use Rattle.iw_dumps.proofs.laws.numbers_are_of_the_table.Goals as goal

pub returns : goal.returns
returns c = number_of_channel
