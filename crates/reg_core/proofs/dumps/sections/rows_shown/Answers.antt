use Rattle.std.proofs.Common.{◌++◌, ◌∷◌, [], map, take, sym, ap, ◌∙◌}
use Rattle.reg_journal.specs.Dumps.{row_shown}
use Rattle.core_parts.proofs.Taken.{map-take_got}
use Rattle.reg_core.proofs.dumps.sections.rows_shown.Goals as goal

pub loop-k-preserved : goal.loop-k-preserved
loop-k-preserved c =
    let rows = c.args.table.now.rows in
    c.in_ok-push.ensures.ok ∙ ap (λ xs. xs ++ c.row_shown.result ∷ []) c.loop-k.invariant
    ∙ ap (λ row. map row_shown (take c.loop-k.k rows) ++ row ∷ []) c.row_shown.ensures
    ∙ sym (map-take_got row_shown rows c.loop-k.k c.in-Some.row (sym c.in-Some.ensures.row))
