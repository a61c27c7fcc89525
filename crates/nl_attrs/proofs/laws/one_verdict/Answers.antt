use Rattle.nl_attrs.proofs.FaultLaws.{never_undecided, never_faulty, undecided_no_fault, undecided_not_whole, one_fault}
use Rattle.nl_attrs.proofs.Verdicts.{verdict}
use Rattle.nl_attrs.proofs.laws.one_verdict.Goals as goal

pub returns-clause-whole : goal.returns-clause-whole
returns-clause-whole c = never_undecided

pub returns-clause-sound : goal.returns-clause-sound
returns-clause-sound c = never_faulty

pub returns-clause-decided : goal.returns-clause-decided
returns-clause-decided c = undecided_no_fault

pub returns-clause-waits : goal.returns-clause-waits
returns-clause-waits c = undecided_not_whole

pub returns-clause-fault : goal.returns-clause-fault
returns-clause-fault c = one_fault

pub returns-clause-exists : goal.returns-clause-exists
returns-clause-exists c = verdict
