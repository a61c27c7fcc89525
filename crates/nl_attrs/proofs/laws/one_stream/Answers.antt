use Rattle.std.proofs.Common.{ℕ, List, subst}
use Rattle.nl_attrs.specs.Streams.{AreMessages}
use Rattle.nl_attrs.proofs.StreamLaws.{one_stream, longest_list, goes_on, fault_ends}
use Rattle.nl_attrs.proofs.Verdicts.{messages_told}
use Rattle.nl_attrs.proofs.laws.one_stream.Goals as goal

pub returns-clause-messages : goal.returns-clause-messages
returns-clause-messages c ps qs ms ns e f same one other =
    (one_stream _ ms ns e f (let P : List ℕ → Type 0 = λ x. AreMessages x ms e in subst P same one) other).0

pub returns-clause-fault : goal.returns-clause-fault
returns-clause-fault c ps qs ms ns e f same one other =
    (one_stream _ ms ns e f (let P : List ℕ → Type 0 = λ x. AreMessages x ms e in subst P same one) other).1

pub returns-clause-longest : goal.returns-clause-longest
returns-clause-longest c stream left ms ns f messages each e = longest_list stream ms ns f left messages each e

pub returns-clause-goes_on : goal.returns-clause-goes_on
returns-clause-goes_on c = goes_on

pub returns-clause-fault_ends : goal.returns-clause-fault_ends
returns-clause-fault_ends c = fault_ends

pub returns-clause-exists : goal.returns-clause-exists
returns-clause-exists c = messages_told
