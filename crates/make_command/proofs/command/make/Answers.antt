use Rattle.db_commands.specs.Devices.{driven}
use Rattle.make_command.proofs.Ending.{made_unwritten, untouched}
use Rattle.make_command.proofs.command.make.Goals as goal

pub returns-in-Err-line-clause-made : goal.returns-in-Err-line-clause-made
returns-in-Err-line-clause-made g c = (
  untouched _ _,
  made_unwritten c.args.number c.in-Ok.counts (driven (g.D.DriverRow.seen c.args.drivers.now) (g.D.DriverRow.seen c.answer_made.new.drivers)) c.in-Ok.ensures.answered,
)
