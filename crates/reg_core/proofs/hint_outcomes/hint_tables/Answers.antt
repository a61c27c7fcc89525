use Rattle.std.proofs.Common.{◌∷◌}
use Rattle.core_parts.specs.Hinting.{lists_after}
use Rattle.reg_books.specs.Lists.{global_by}
use Rattle.reg_core.proofs.HintRefusals.{rows_after_global}
use Rattle.core_parts.proofs.NewTables.{refused}
use Rattle.reg_core.proofs.hint_outcomes.hint_tables.Goals as goal

pub returns-in_err-radios-clause-fault : goal.returns-in_err-radios-clause-fault
returns-in_err-radios-clause-fault c =
    let db = c.args.domains.now in
    let global = global_by db c.args.after.now in
    let lists = lists_after db c.args.after.now c.args.hint.now 0 c.args.radios.now in
    let fault = c.in_err-radios.field-0.0 in
    refused (global ∷ lists) c.from_residual-in_err-radios.result fault c.from_residual-in_err-radios.ensures.1
    (rows_after_global global c.in_ok-global.global lists fault c.in_ok-global.ensures.made c.in_err-radios.ensures.fault)
