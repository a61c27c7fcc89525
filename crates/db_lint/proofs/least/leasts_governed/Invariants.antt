use Rattle.db_lint.proofs.Leasts.{Firsts}
use Rattle.db_lint.proofs.least.leasts_governed.Given as goal

abbrev pub invariant-loop-khz : goal.invariant-loop-khz
invariant-loop-khz l = Firsts l.domain.rules l.channels l.khz-index l.leasts.items
