use Rattle.regtool.proofs.Complete.{complete_from, fault_from, length_from}
use Rattle.regtool.proofs.tool.regtool.Goals as goal

pub returns-clause-complete : goal.returns-clause-complete
returns-clause-complete g c = complete_from _ _ _ c.dispatch.ensures.answer

pub returns-clause-fault : goal.returns-clause-fault
returns-clause-fault g c = fault_from _ _ _ c.dispatch.ensures.answer

pub returns-clause-length : goal.returns-clause-length
returns-clause-length g c = length_from _ _ _ c.dispatch.ensures.answer
