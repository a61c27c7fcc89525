use Rattle.std.proofs.Common.{[], None}
use Rattle.rule_intersect.proofs.OneTable.{no_table_of_too_many}
use Rattle.reg_books.specs.Lists.{applies_by}
use Rattle.core_parts.proofs.NewLists.{some_table}
use Rattle.core_parts.proofs.tables.new_radio_table.Goals as goal

pub unreachable-requires : goal.unreachable-requires
unreachable-requires c =
    let some = some_table c.args.domains.now c.args.hints.now c.args.self_managed c.requires in
    no_table_of_too_many (applies_by c.args.domains.now c.args.hints.now c.args.self_managed [] None) some.0 c.in-Err-TooManyRows.field-0-0 c.in-Err-TooManyRows.field-0-1
    some.1 (rw c.in-Err-TooManyRows.field-0-is at c.in-Err-TooManyRows.ensures.made)
