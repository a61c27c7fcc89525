use Rattle.std.proofs.Common.{sym}
use Rattle.db_commands.specs.Devices.{around}
use Rattle.script_run.proofs.Taking.{map_err, map_ok}
use Rattle.pack_command.proofs.Taking.{stops_line, takes_byte, takes_line}
use Rattle.pack_command.proofs.packing.pack_byte.Goals as goal

pub returns-then-not-push-clause-packed : goal.returns-then-not-push-clause-packed
returns-then-not-push-clause-packed g c = λ taken before so.
    takes_byte taken c.args.byte c.args.cutter.now c.push.new.self before (g.K.Sink.held c.args.out.now) c.args.progress.now (sym c.if-not-push.ensures.newline) c.push.ensures.pushed so

pub returns-clause-packed : goal.returns-clause-packed
returns-clause-packed g c = map_ok c.pack_line-packed.result _ _ (λ packed taken before so.
    takes_line taken c.args.byte c.args.cutter.now c.push.new.self c.clear.new.self c.line.result before (g.K.Sink.held c.args.out.now) (g.K.Sink.held c.pack_line-packed.new.out)
    c.args.progress.now c.pack_line-packed.new.progress
    (sym c.if-not-push.ensures.newline) c.push.ensures.pushed c.line.ensures.cut c.clear.ensures.«open» (λ lines this is. packed lines this before is) so) c.pack_line-packed.ensures.packed

pub returns-clause-stopped : goal.returns-clause-stopped
returns-clause-stopped g c = map_err c.pack_line-packed.result _ _ (λ stop stops taken more before n m so.
    stops_line taken c.args.byte more c.args.cutter.now c.push.new.self c.line.result (g.K.Sink.held c.args.out.now) (around before (g.K.Sink.held c.pack_line-packed.new.out) n m)
    stop c.args.progress.now
    (sym c.if-not-push.ensures.newline) c.push.ensures.pushed c.line.ensures.cut (λ lines this rest is. stops lines this rest before n m is) so) c.pack_line-packed.ensures.stopped
