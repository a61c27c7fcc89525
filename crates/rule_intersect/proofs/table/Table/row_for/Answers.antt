use Rattle.rule_intersect.proofs.Lawful.{answer_of_first}
use Rattle.rule_intersect.proofs.table.Table.row_for.Goals as goal

pub returns-clause-law : goal.returns-clause-law
returns-clause-law c = λ ds is.
    let table = rw (← c.self.view_is) at is in
    let row = rw c.as_slice.ensures.value at c.first_holding.ensures in
    rw (← c.self.view_is) (answer_of_first ds _ _ _ table row)
