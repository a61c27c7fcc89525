use Rattle.std.proofs.Common.{◌++◌}
use Rattle.std.specs.Option.{option_copied, option_to_list}
use Rattle.reg_books.specs.Lists.{driver_by, shared_by}
use Rattle.core_parts.proofs.Fronts.{IsMadeFault-front, handed_on_or_nothing}
use Rattle.core_parts.proofs.tables.radio_table.Goals as goal

pub returns-in_err-shared : goal.returns-in_err-shared
returns-in_err-shared c =
    let shared = shared_by c.args.domains.now c.args.hints.now c.args.self_managed in
    let own = option_to_list (option_copied c.args.custom) in
    let driver = driver_by c.args.domains.now c.args.driver in
    let fault = c.in_err-shared.field-0.0 in
    record {
      made = handed_on_or_nothing (shared ++ own ++ driver) c.from_residual.result fault c.from_residual.ensures.1
          (IsMadeFault-front (shared ++ own) driver fault (IsMadeFault-front shared own fault c.in_err-shared.ensures.made));
    }

pub returns-in_err-with_custom : goal.returns-in_err-with_custom
returns-in_err-with_custom c =
    let shared = shared_by c.args.domains.now c.args.hints.now c.args.self_managed in
    let own = option_to_list (option_copied c.args.custom) in
    let driver = driver_by c.args.domains.now c.args.driver in
    let fault = c.in_err-with_custom.field-0.0 in
    let made = rw c.custom_of.ensures.domain at (c.in_err-with_custom.ensures.made shared c.in_ok-shared.ensures.made) in
    record {
      made = handed_on_or_nothing (shared ++ own ++ driver) c.from_residual-in_err-with_custom.result fault c.from_residual-in_err-with_custom.ensures.1
          (IsMadeFault-front (shared ++ own) driver fault made);
    }

pub returns-in_err-with_driver : goal.returns-in_err-with_driver
returns-in_err-with_driver c =
    let shared = shared_by c.args.domains.now c.args.hints.now c.args.self_managed in
    let own = option_to_list (option_copied c.args.custom) in
    let driver = driver_by c.args.domains.now c.args.driver in
    let with_custom = rw c.custom_of.ensures.domain at (c.in_ok-with_custom.ensures.made shared c.in_ok-shared.ensures.made) in
    let made = rw c.driver_of.ensures.domain at (c.in_err-with_driver.ensures.made (shared ++ own) with_custom) in
    record {
      made = handed_on_or_nothing (shared ++ own ++ driver) c.from_residual-in_err-with_driver.result c.in_err-with_driver.field-0.0
          c.from_residual-in_err-with_driver.ensures.1 made;
    }

pub returns : goal.returns
returns c =
    let shared = shared_by c.args.domains.now c.args.hints.now c.args.self_managed in
    let own = option_to_list (option_copied c.args.custom) in
    let driver = driver_by c.args.domains.now c.args.driver in
    let with_custom = rw c.custom_of.ensures.domain at (c.in_ok-with_custom.ensures.made shared c.in_ok-shared.ensures.made) in
    let with_driver = rw c.driver_of.ensures.domain at (c.in_ok-with_driver.ensures.made (shared ++ own) with_custom) in
    record { made = c.or_nothing.ensures.made (shared ++ own ++ driver) with_driver }
