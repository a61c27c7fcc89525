use Rattle.db_lint.proofs.Noted.{notes_step}
use Rattle.db_lint.proofs.notes.lint.Goals as goal

pub loop-domain-preserved : goal.loop-domain-preserved
loop-domain-preserved c =
    let (own, grown, are) = c.in_ok-lint_domain.ensures.notes in
    notes_step c.as_slice-domain-items.result.now c.loop-domain.domain-index c.domain-item.result c.loop-domain.notes c.lint_domain.new.notes own c.loop-domain-test.true c.domain-item.is grown
    c.loop-domain.invariant are
