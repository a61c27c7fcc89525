use Rattle.reg_books.specs.Lists.{global_by}
use Rattle.core_parts.proofs.Fronts.{made_of_some}
use Rattle.core_parts.proofs.tables.global_table.Goals as goal

pub returns : goal.returns
returns c =
    let global = global_by c.args.domains.now c.args.hints.now in
    record { made = made_of_some global c.or_nothing.result c.requires.some (c.or_nothing.ensures.made global c.in_ok-shared.ensures.made) }
