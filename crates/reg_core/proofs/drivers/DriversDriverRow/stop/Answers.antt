use Rattle.std.proofs.Common.{arith}
use Rattle.std.proofs.lemmas.Grind.{common_steps}
use Rattle.reg_books.proofs.Tellings.{one_went}
use Rattle.reg_core.proofs.drivers.DriversDriverRow.stop.Goals as goal

pub returns : goal.returns
returns g c = record {
  told = one_went _ _ _ _ _ c.index_mut.result.now _ c.get.ensures.number (grind (arith, common_steps)) c.index_mut.ensures.value c.stop_on.ensures.told;
}
