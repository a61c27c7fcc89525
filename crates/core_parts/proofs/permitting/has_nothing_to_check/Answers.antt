use Rattle.core_parts.proofs.Permitted.{nothing_to_check, something_to_check}
use Rattle.core_parts.proofs.permitting.has_nothing_to_check.Goals as goal

pub returns-in-Some : goal.returns-in-Some
returns-in-Some c = λ db J x rules quiet. something_to_check db J x c.args.chan.now c.in-Some._khz quiet (c.in-Some.ensures db J x.radio rules)

pub returns-in-None : goal.returns-in-None
returns-in-None c = λ db J x rules quiet. nothing_to_check db J x c.args.chan.now (c.in-None.ensures db J x.radio rules)
