use Rattle.std.proofs.Common.{◌+◌, refl, subst}
use Rattle.std.specs.Io.KnownBytes.{Appends}
use Rattle.reg_base.specs.Appended.{AppendsFront}
use Rattle.db_commands.specs.Devices.{around}
use Rattle.pack_command.specs.inner.Steps.{IsPutStop}
use Rattle.pack_command.proofs.Packed.{all_of_written, front_of_failed, meets_fault, packed_more, stops_within}
use Rattle.pack_command.proofs.packing.pack_whole.Goals as goal

pub returns-then-is_err-clause-stopped : goal.returns-then-is_err-clause-stopped
returns-then-is_err-clause-stopped g c = λ lines rest before n m so.
    stops_within lines c.args.line.now rest c.put_line.new.text c.in-Ok.requests (g.K.Sink.held c.args.out.now) (around before (g.K.Sink.held c.write_text.new.out) n m) c.args.progress.now c.in-Ok.ensures.packed
    (subst (AppendsFront (g.K.Sink.held c.args.out.now) (g.K.Sink.held c.write_text.new.out)) c.as_slice.ensures.items
    (front_of_failed c.write_text.result (g.K.Sink.held c.args.out.now) (g.K.Sink.held c.write_text.new.out) c.as_slice.result.now c.if-is_err.ensures.value c.write_text.ensures.bytes)) so

pub returns-clause-packed : goal.returns-clause-packed
returns-clause-packed g c = λ lines before so.
    packed_more lines c.args.line.now before (g.K.Sink.held c.args.out.now) (g.K.Sink.held c.write_text.new.out) c.put_line.new.text c.args.progress.now
    (record { lines = c.args.progress.now.lines + 1; requests = c.in-Ok.requests }) so c.in-Ok.ensures.packed refl
    (subst (Appends (g.K.Sink.held c.args.out.now) (g.K.Sink.held c.write_text.new.out)) c.as_slice.ensures.items
    (all_of_written c.write_text.result (g.K.Sink.held c.args.out.now) (g.K.Sink.held c.write_text.new.out) c.as_slice.result.now c.if-is_err.ensures.value c.write_text.ensures.bytes))

pub returns-in-Err-Line-clause-stopped : goal.returns-in-Err-Line-clause-stopped
returns-in-Err-Line-clause-stopped g c = λ lines rest before n m so.
    meets_fault lines c.args.line.now rest (c.args.progress.now.lines + 1) c.in-Err-Line.fault (around before (g.K.Sink.held c.args.out.now) n m) c.args.progress.now
    (subst (IsPutStop c.args.line.now) c.in-Err-Line.field-0-is c.in-Err-Line.ensures.fault) refl so
