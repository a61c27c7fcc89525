use Rattle.std.proofs.Common.{refl}
use Rattle.rule_intersect.proofs.Counted.{few_made}
use Rattle.rule_intersect.proofs.Resolved.{HasFewRows-next, IsTableOf-next, IsTooMany-next, fault_of_memory}
use Rattle.rule_intersect.proofs.table.Table.next.Goals as goal

pub returns-then-count-gt-MOST_ROWS-clause-table : goal.returns-then-count-gt-MOST_ROWS-clause-table
returns-then-count-gt-MOST_ROWS-clause-table c = λ ds is.
    let table = rw (← c.self.view_is) at is in
    let count = rw (c.as_slice.ensures.value, c.as_slice-2.ensures.items) at c.count_all-count.ensures.count in
    IsTooMany-next ds c.args.d.now (record { rows = c.self.inside.rows.items; domains = c.self.inside.domains }) _ _ table count
    c.if-count-gt-MOST_ROWS.true refl

pub returns-in_err-own-clause-table : goal.returns-in_err-own-clause-table
returns-in_err-own-clause-table c = λ ds is.
    let table = rw (← c.self.view_is) at is in
    let count = rw (c.as_slice.ensures.value, c.as_slice-2.ensures.items) at c.count_all-count.ensures.count in
    let fault = rw c.in_err-own.ensures.err at c.from_residual.ensures.1 in
    fault_of_memory _ _ _ fault
    (HasFewRows-next ds c.args.d.now (record { rows = c.self.inside.rows.items; domains = c.self.inside.domains }) _ table count c.if-count-gt-MOST_ROWS.false)

pub returns-in_err-rows-clause-table : goal.returns-in_err-rows-clause-table
returns-in_err-rows-clause-table c = λ ds is.
    let table = rw (← c.self.view_is) at is in
    let count = rw (c.as_slice.ensures.value, c.as_slice-2.ensures.items) at c.count_all-count.ensures.count in
    let fault = rw c.in_err-rows.ensures.err at c.from_residual-in_err-rows.ensures.1 in
    fault_of_memory _ _ _ fault
    (HasFewRows-next ds c.args.d.now (record { rows = c.self.inside.rows.items; domains = c.self.inside.domains }) _ table count c.if-count-gt-MOST_ROWS.false)

pub invariant_of-result : goal.invariant_of-result
invariant_of-result c =
    let count = rw (c.as_slice.ensures.value, c.as_slice-2.ensures.items) at c.count_all-count.ensures.count in
    let own = rw c.as_slice-3.ensures.items at c.in_ok-own.ensures.rows in
    let rows = rw (c.as_slice-4.ensures.value, c.as_slice-5.ensures.value) at c.in_ok-rows.ensures.rows in
    few_made c.args.d.now.rules c.self.inside.rows.items c.in_ok-own.own.items c.in_ok-rows.rows.items _ own count c.if-count-gt-MOST_ROWS.false rows

pub returns-clause-table : goal.returns-clause-table
returns-clause-table c = λ ds is.
    let table = rw (← c.self.view_is) at is in
    let count = rw (c.as_slice.ensures.value, c.as_slice-2.ensures.items) at c.count_all-count.ensures.count in
    let own = rw c.as_slice-3.ensures.items at c.in_ok-own.ensures.rows in
    let rows = rw (c.as_slice-4.ensures.value, c.as_slice-5.ensures.value) at c.in_ok-rows.ensures.rows in
    IsTableOf-next ds c.args.d.now (record { rows = c.self.inside.rows.items; domains = c.self.inside.domains }) c.in_ok-own.own.items c.in_ok-rows.rows.items _ _ table count
    c.if-count-gt-MOST_ROWS.false own rows refl
