use Rattle.wire_run.proofs.Lengths.{reply_fits, reply_short}
use Rattle.wire_run.proofs.Turning.{few_ifaces, reached_next, shown_reply, turn_replied, turn_untold}
use Rattle.wire_run.proofs.answering.put_reply.Goals as goal

pub put_told-requires-clause-fits : goal.put_told-requires-clause-fits
put_told-requires-clause-fits g c = reply_fits c.in-Ok.reply (shown_reply c.args.request.now c.in-Ok.reply c.args.core.now c.step.new.self (g.D.DriverRow.seen c.args.drivers.now) (g.D.DriverRow.seen c.step.new.drivers) c.requires.ready c.type_request.ensures c.requires.line c.in-Ok.ensures.step)

pub put_told-requires-clause-short : goal.put_told-requires-clause-short
put_told-requires-clause-short g c = reply_short c.args.message.now c.in-Ok.reply (shown_reply c.args.request.now c.in-Ok.reply c.args.core.now c.step.new.self (g.D.DriverRow.seen c.args.drivers.now) (g.D.DriverRow.seen c.step.new.drivers) c.requires.ready c.type_request.ensures c.requires.line c.in-Ok.ensures.step) (few_ifaces c.args.request.now c.in-Ok.reply c.args.core.now c.step.new.self (g.D.DriverRow.seen c.args.drivers.now) (g.D.DriverRow.seen c.step.new.drivers) c.requires.ready c.in-Ok.ensures.step)

pub returns-in-Ok-clause-answered : goal.returns-in-Ok-clause-answered
returns-in-Ok-clause-answered g c = turn_replied c.put_told.result c.args.message.now c.put_told.new.text c.args.request.now c.in-Ok.reply c.args.core.now c.step.new.self (g.D.DriverRow.seen c.args.drivers.now) (g.D.DriverRow.seen c.step.new.drivers) c.requires.asks c.in-Ok.ensures.step c.put_told.ensures

pub returns-in-Ok-clause-stopped : goal.returns-in-Ok-clause-stopped
returns-in-Ok-clause-stopped g c = turn_untold c.put_told.result c.args.message.now c.args.request.now c.in-Ok.reply c.args.core.now c.step.new.self (g.D.DriverRow.seen c.args.drivers.now) (g.D.DriverRow.seen c.step.new.drivers) c.requires.asks c.in-Ok.ensures.step

pub returns-in-Ok-clause-ready : goal.returns-in-Ok-clause-ready
returns-in-Ok-clause-ready g c = reached_next c.args.request.now c.in-Ok.reply c.args.core.now c.step.new.self (g.D.DriverRow.seen c.args.drivers.now) (g.D.DriverRow.seen c.step.new.drivers) c.requires.ready c.type_request.ensures c.requires.line c.in-Ok.ensures.step
