use Rattle.db_lint.proofs.Noted.{hides}
use Rattle.db_lint.proofs.notes.hidden_by.Goals as goal

pub returns-in-None-Some : goal.returns-in-None-Some
returns-in-None-Some c =
    rw (c.in-None-Some.is-0, c.in-None-Some.is-1)
    (record { hidden = hides c.args.domain.now.rules c.in-None-Some.khz c.governing.result (rw c.in-None-Some.is-1 at c.requires.held) c.governing.ensures })
