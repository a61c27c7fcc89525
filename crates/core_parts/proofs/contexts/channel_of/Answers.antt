use Rattle.std.proofs.Common.{◌∙◌}
use Rattle.core_parts.proofs.OnChannels.{channel_by_operation, channel_by_check}
use Rattle.core_parts.proofs.contexts.channel_of.Goals as goal

pub returns-in-Some : goal.returns-in-Some
returns-in-Some c = λ db J x is. channel_by_operation J x _ _ is.interface_is c.in-Some.is

pub returns-in-None : goal.returns-in-None
returns-in-None c = λ db J x is. c.checked_channel.ensures db J x is ∙ channel_by_check J x _ is.interface_is c.in-None.is
