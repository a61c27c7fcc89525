use Rattle.rule_intersect.proofs.Resolved.{HasFewRows-first, IsTableOf-first, fault_of_memory}
use Rattle.rule_intersect.proofs.table.Table.first.Goals as goal

pub returns-in_err-rows-clause-table : goal.returns-in_err-rows-clause-table
returns-in_err-rows-clause-table c =
    let fault = rw c.in_err-rows.ensures.err at c.from_residual.ensures.1 in
    fault_of_memory _ _ _ fault (HasFewRows-first c.args.d.now c.requires.valid c.requires.few)

pub returns-clause-table : goal.returns-clause-table
returns-clause-table c =
    let rows = rw c.as_slice.ensures.items at c.in_ok-rows.ensures.rows in
    IsTableOf-first c.args.d.now c.in_ok-rows.rows.items c.requires.valid c.requires.few rows
