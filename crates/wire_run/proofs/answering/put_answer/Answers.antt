use Rattle.std.proofs.Common.{of_z, subst, to_z, w32}
use Rattle.nl80211_cmds.specs.Requests.{IsRequestFault}
use Rattle.wire_run.proofs.Turning.{errno_kept, turn_errno}
use Rattle.wire_run.proofs.answering.put_answer.Goals as goal

pub returns-in-Err-Errno-clause-answered : goal.returns-in-Err-Errno-clause-answered
returns-in-Err-Errno-clause-answered g c =
    turn_errno c.put_errno.result c.args.message.now c.put_errno.new.text (to_z w32 (of_z w32 c.in-Err-Errno.errno)) c.args.core.now (g.D.DriverRow.seen c.args.drivers.now)
    (errno_kept c.args.message.now c.in-Err-Errno.errno (subst (IsRequestFault c.args.message.now) c.in-Err-Errno.field-0-is c.in-Err-Errno.ensures.fault)) c.put_errno.ensures
