use Rattle.std.proofs.lemmas.Result.{err_from_is_err_and}
use Rattle.rule_text.proofs.ReadableFront.{all_readable}
use Rattle.rule_text.proofs.WholeText.{AreLists, late_text, ready_text, text_stands}
use Rattle.rule_text.proofs.text.parse.Goals as goal

pub returns-in-Some : goal.returns-in-Some
returns-in-Some c =
    let lists : AreLists c.in_ok-countries.field-0 c.in_ok-countries-2.countries.items c.in_ok-blocks.blocks.items = record {
      countries_are = c.in_ok-countries-2.ensures.all;
      countries_ordered = c.in_ok-countries-2.ensures.ordered;
      blocks_are = c.in_ok-blocks.ensures.all;
      blocks_ordered = c.in_ok-blocks.ensures.ordered;
    } in
    record {
      stands_for = late_text c.args.text.now c.in_ok-countries.field-0 c.in_ok-countries-2.countries.items c.in_ok-blocks.blocks.items c.in-Some.fault c.in_ok-countries.ensures lists
          (rw (c.as_slice.ensures.value, c.as_slice-2.ensures.value) at c.in-Some.ensures.first);
    }

pub assemble-requires : goal.assemble-requires
assemble-requires c =
    let lists : AreLists c.in_ok-countries.field-0 c.in_ok-countries-2.countries.items c.in_ok-blocks.blocks.items = record {
      countries_are = c.in_ok-countries-2.ensures.all;
      countries_ordered = c.in_ok-countries-2.ensures.ordered;
      blocks_are = c.in_ok-blocks.ensures.all;
      blocks_ordered = c.in_ok-blocks.ensures.ordered;
    } in
    let none = rw (c.as_slice.ensures.value, c.as_slice-2.ensures.value) at c.in_default.ensures.first in
    ready_text c.args.text.now c.in_ok-countries.field-0 c.in_ok-countries-2.countries.items c.in_ok-blocks.blocks.items c.in_ok-countries.ensures lists none
    (rw c.as_slice-2.ensures.value at c.in_default.ensures.none)

pub returns : goal.returns
returns c =
    let lists : AreLists c.in_ok-countries.field-0 c.in_ok-countries-2.countries.items c.in_ok-blocks.blocks.items = record {
      countries_are = c.in_ok-countries-2.ensures.all;
      countries_ordered = c.in_ok-countries-2.ensures.ordered;
      blocks_are = c.in_ok-blocks.ensures.all;
      blocks_ordered = c.in_ok-blocks.ensures.ordered;
    } in
    record {
      stands_for = text_stands c.args.text.now c.in_ok-countries.field-0 c.in_ok-countries-2.countries.items c.in_ok-blocks.blocks.items c.in_ok-assemble.field-0 c.in_ok-countries.ensures lists
          (rw (c.as_slice.ensures.value, c.as_slice-2.ensures.value) at c.in_default.ensures.first) c.in_ok-assemble.ensures;
    }

pub returns-in_err-countries-2 : goal.returns-in_err-countries-2
returns-in_err-countries-2 c =
    let p = err_from_is_err_and c.from_residual-in_err-countries-2.result c.from_residual-in_err-countries-2.ensures.1 in
    rw (p.1, p.2) (record { stands_for = all_readable c.args.text.now c.in_ok-countries.ensures.forms c.in_ok-countries.ensures.accepted })

pub returns-in_err-blocks : goal.returns-in_err-blocks
returns-in_err-blocks c =
    let p = err_from_is_err_and c.from_residual-in_err-blocks.result c.from_residual-in_err-blocks.ensures.1 in
    rw (p.1, p.2) (record { stands_for = all_readable c.args.text.now c.in_ok-countries.ensures.forms c.in_ok-countries.ensures.accepted })

pub returns-in_err-assemble : goal.returns-in_err-assemble
returns-in_err-assemble c =
    let p = err_from_is_err_and c.from_residual-in_err-assemble.result c.from_residual-in_err-assemble.ensures.1 in
    rw (p.1, p.2) (record { stands_for = all_readable c.args.text.now c.in_ok-countries.ensures.forms c.in_ok-countries.ensures.accepted })
