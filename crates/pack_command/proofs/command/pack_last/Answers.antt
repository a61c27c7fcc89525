use Rattle.db_commands.specs.Devices.{around}
use Rattle.script_run.proofs.Taking.{map_err, map_ok, not_empty}
use Rattle.pack_command.proofs.Taking.{last_none, last_packed, last_stops, number_left}
use Rattle.pack_command.proofs.command.pack_last.Goals as goal

pub returns-then-is_empty-clause-packed : goal.returns-then-is_empty-clause-packed
returns-then-is_empty-clause-packed g c = λ script before n m so.
    last_none script c.args.cutter.now c.line.result (around before (g.K.Sink.held c.args.out.now) n m) c.args.progress.now
    c.line.ensures.cut (λ this is. (c.is_empty.ensures.empty this is).0 c.if-is_empty.true) so

pub pack_line-requires-clause-room : goal.pack_line-requires-clause-room
pack_line-requires-clause-room g c =
    number_left c.args.cutter.now c.args.progress.now.lines c.line.result c.requires.room c.line.ensures.cut
    (λ this is none. not_empty _ ((c.is_empty.ensures.empty this is).1 none) c.if-is_empty.false)

pub returns-clause-packed : goal.returns-clause-packed
returns-clause-packed g c = map_ok c.pack_line.result _ _ (λ packed script before n m so.
    last_packed script c.args.cutter.now c.line.result c.line-2.result (g.K.Sink.held c.args.out.now) (around before (g.K.Sink.held c.pack_line.new.out) n m)
    c.args.progress.now c.pack_line.new.progress
    c.line.ensures.cut (λ this is none. not_empty _ ((c.is_empty.ensures.empty this is).1 none) c.if-is_empty.false)
    c.line-2.ensures.cut (λ lines this is. packed lines this before is) so) c.pack_line.ensures.packed

pub returns-clause-stopped : goal.returns-clause-stopped
returns-clause-stopped g c = map_err c.pack_line.result _ _ (λ stop stops script before n m so.
    last_stops script c.args.cutter.now c.line.result c.line-2.result (g.K.Sink.held c.args.out.now) (around before (g.K.Sink.held c.pack_line.new.out) n m)
    stop c.args.progress.now
    c.line.ensures.cut (λ this is none. not_empty _ ((c.is_empty.ensures.empty this is).1 none) c.if-is_empty.false)
    c.line-2.ensures.cut (λ lines this rest is. stops lines this rest before n m is) so) c.pack_line.ensures.stopped
