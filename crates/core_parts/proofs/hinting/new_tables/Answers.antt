use Rattle.std.proofs.Common.{◌∷◌, [], None, length, get_or, arith, sym, subst, ap, ◌∙◌}
use Rattle.std.proofs.lemmas.List.{length-append}
use Rattle.core_parts.specs.Hinting.{IsNewTable, lists_after}
use Rattle.core_parts.specs.declared.radio.RadioPlace.TheVariants.{Free}
use Rattle.core_parts.proofs.NewTables.{one_more_table, refused, rest_fault, rest_past}
use Rattle.core_parts.proofs.hinting.new_tables.Goals as goal

pub returns-in_err-new_table-clause-fault : goal.returns-in_err-new_table-clause-fault
returns-in_err-new_table-clause-fault c =
    let db = c.args.domains.now in
    let after = c.args.after.now in
    let hint = c.args.hint.now in
    let fault = c.in_err-new_table.field-0.0 in
    refused (lists_after db after hint 0 c.args.radios.now) c.from_residual-in_err-new_table.result fault c.from_residual-in_err-new_table.ensures.1
    (rest_fault db after hint c.args.radios.now c.loop-number.number c.index-radios-number.result fault c.loop-number-test.true c.loop-number.invariant.rest
    c.index-radios-number.is c.in_err-new_table.ensures)

pub loop-number-preserved : goal.loop-number-preserved
loop-number-preserved c =
    let db = c.args.domains.now in
    let after = c.args.after.now in
    let hint = c.args.hint.now in
    let radios = c.args.radios.now in
    let k = c.loop-number.number in
    let place = c.index-radios-number.result in
    let table = c.in_ok-new_table.field-0 in
    let pushed = c.in_ok-push.ensures.items in
    let count = c.loop-number.invariant.all in
    let len = ap length pushed ∙ length-append c.loop-number.tables.items (table ∷ []) in
    record {
      all = omega (arith, len, count);
      each = λ r below. subst (λ tables. IsNewTable db after hint r (get_or radios r Free) (get_or tables r None)) (sym pushed)
          (one_more_table db after hint radios c.loop-number.tables.items k place table count c.loop-number-test.true c.loop-number.invariant.each c.index-radios-number.is c.in_ok-new_table.ensures r below);
      rest = λ e rest. c.loop-number.invariant.rest e (rest_past db after hint radios k place table e c.loop-number-test.true c.index-radios-number.is c.in_ok-new_table.ensures rest);
    }
