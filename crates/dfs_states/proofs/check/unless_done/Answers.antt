use Rattle.std.proofs.Common.{subst}
use Rattle.dfs_states.specs.StandsFor.{IsCheck}
use Rattle.dfs_states.proofs.Slots.{check_runs_on, check_done, check_none}
use Rattle.dfs_states.proofs.check.unless_done.Goals as goal

pub returns-in-Some : goal.returns-in-Some
returns-in-Some c = λ calls slot due is. check_runs_on c.args.now calls slot c.in-Some.running c.if-now-running.true (subst (λ o. IsCheck calls slot o) c.in-Some.is is)

pub returns-in_default : goal.returns-in_default
returns-in_default c = λ calls slot due is. check_done c.args.now calls slot c.in-Some.running c.if-now-running.false due (subst (λ o. IsCheck calls slot o) c.in-Some.is is)

pub returns-in_default-2 : goal.returns-in_default-2
returns-in_default-2 c = λ calls slot due is. check_none c.args.now calls slot due (subst (λ o. IsCheck calls slot o) c.in_default.is is)
