use Rattle.std.proofs.Common.{arith}
use Rattle.std.proofs.lemmas.Grind.{common_steps}
use Rattle.reg_books.proofs.Tellings.{one_went}
use Rattle.reg_core.proofs.drivers.DriversDriverRow.start.Goals as goal

pub returns-in-Ok : goal.returns-in-Ok
returns-in-Ok g c = record {
  told = one_went _ _ _ _ _ c.index_mut.result.now _ c.get.ensures.number (grind (arith, common_steps)) c.index_mut.ensures.value c.in-Ok.ensures.told;
}

pub returns-in-Err : goal.returns-in-Err
returns-in-Err g c = record {
  told = one_went _ _ _ _ _ c.index_mut.result.now _ c.get.ensures.number (grind (arith, common_steps)) c.index_mut.ensures.value c.in-Err.ensures.told;
}
