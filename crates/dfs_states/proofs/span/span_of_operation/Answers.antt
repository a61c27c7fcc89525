use Rattle.dfs_states.proofs.span.span_of_operation.Goals as goal

pub returns-in-Some : goal.returns-in-Some
returns-in-Some c = λ khz on. c.span_of.ensures khz (rw c.in-Some.is at on)
