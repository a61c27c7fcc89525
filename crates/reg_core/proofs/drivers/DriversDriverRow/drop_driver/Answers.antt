use Rattle.std.proofs.Common.{None, refl}
use Rattle.reg_books.proofs.Tellings.{one_dropped}
use Rattle.reg_core.proofs.drivers.DriversDriverRow.drop_driver.Goals as goal

pub returns : goal.returns
returns g c = record { gone = one_dropped _ c.args.self.now.items c.args.radio c.get.result None c.get.ensures.number refl }
