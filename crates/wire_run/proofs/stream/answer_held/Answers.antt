use Rattle.std.proofs.Common.{◌∙◌, IfSome, Ok, Err, ap, le_trans, subst}
use Rattle.db_commands.specs.Devices.{around, driven}
use Rattle.nl_attrs.specs.Streams.{TakesMsg}
use Rattle.wire_run.proofs.Streaming.{halts_between, halts_message, kept_taken, meets_fault, takes_all, takes_message}
use Rattle.wire_run.proofs.stream.answer_held.Goals as goal

pub returns-in-Ok-None-clause-answered : goal.returns-in-Ok-None-clause-answered
returns-in-Ok-None-clause-answered g c = λ db fed before heard so.
    takes_all db fed c.messages.decoder c.next.new.self c.next.result before (g.K.Sink.held c.messages.out) c.messages.core heard (g.D.DriverRow.seen c.messages.drivers) c.next.ensures.stream (c.in-Ok-None.is ∙ ap Ok c.in-Ok-None.field-0-is) (c.messages.invariant.so_far db fed before heard so)

pub returns-in-Err-Bad-clause-stopped : goal.returns-in-Err-Bad-clause-stopped
returns-in-Err-Bad-clause-stopped g c = λ db fed before heard n m so.
    meets_fault db fed c.messages.decoder c.next.new.self c.next.result c.taken-place.result c.in-Err-Bad.fault (around before (g.K.Sink.held c.messages.out) n m) (driven heard (g.D.DriverRow.seen c.messages.drivers)) c.messages.core
    c.next.ensures.stream (c.in-Err-Bad.is ∙ ap Err c.in-Err-Bad.field-0-is) c.taken-place.ensures.stream (c.messages.invariant.so_far db fed before heard so)

pub returns-in-Err-OutOfMemory-clause-stopped : goal.returns-in-Err-OutOfMemory-clause-stopped
returns-in-Err-OutOfMemory-clause-stopped g c = λ db fed before heard n m so.
    halts_between db fed c.messages.decoder (around before (g.K.Sink.held c.messages.out) n m) (driven heard (g.D.DriverRow.seen c.messages.drivers)) c.messages.core (c.messages.invariant.so_far db fed before heard so)

pub returns-in-Err-clause-stopped : goal.returns-in-Err-clause-stopped
returns-in-Err-clause-stopped g c = λ db fed before heard n m so.
    halts_message db fed c.messages.decoder c.next.new.self c.in-Ok-Some.message c.next.result (g.K.Sink.held c.messages.out) (around before (g.K.Sink.held c.answer_message.new.out) n m)
    (driven heard (g.D.DriverRow.seen c.answer_message.new.drivers)) c.in-Err.halt c.messages.core (g.D.DriverRow.seen c.messages.drivers) c.next.ensures.stream (c.in-Ok-Some.is ∙ ap Ok c.in-Ok-Some.field-0-is)
    (λ messages run. c.in-Err.ensures.halted db messages before heard n m run) (c.messages.invariant.so_far db fed before heard so)

pub messages-preserved : goal.messages-preserved
messages-preserved g c =
    let takes = subst (λ o. IfSome o (TakesMsg c.messages.decoder c.next.new.self)) c.in-Ok-Some.field-0-is c.in-Ok-Some.ensures.message in record {
      ready = c.answer_message.ensures.ready;
      later = le_trans c.messages.invariant.later c.answer_message.ensures.later;
      sound = takes.after;
      kept = kept_taken c.messages.decoder c.next.new.self c.in-Ok-Some.message takes ∙ c.messages.invariant.kept;
      so_far = λ db fed before heard so.
          takes_message db fed c.messages.decoder c.next.new.self c.in-Ok-Some.message c.next.result before (g.K.Sink.held c.messages.out) (g.K.Sink.held c.answer_message.new.out) c.messages.core c.answer_message.new.core
          heard (g.D.DriverRow.seen c.messages.drivers) (g.D.DriverRow.seen c.answer_message.new.drivers) c.next.ensures.stream (c.in-Ok-Some.is ∙ ap Ok c.in-Ok-Some.field-0-is)
          (λ messages run. c.in_default.ensures.answered db messages before heard run) (c.messages.invariant.so_far db fed before heard so);
    }

pub messages-preserved-in_default : goal.messages-preserved-in_default
messages-preserved-in_default g c =
    let takes = subst (λ o. IfSome o (TakesMsg c.messages.decoder c.next.new.self)) c.in-Ok-Some.field-0-is c.in-Ok-Some.ensures.message in record {
      ready = c.answer_message.ensures.ready;
      later = le_trans c.messages.invariant.later c.answer_message.ensures.later;
      sound = takes.after;
      kept = kept_taken c.messages.decoder c.next.new.self c.in-Ok-Some.message takes ∙ c.messages.invariant.kept;
      so_far = λ db fed before heard so.
          takes_message db fed c.messages.decoder c.next.new.self c.in-Ok-Some.message c.next.result before (g.K.Sink.held c.messages.out) (g.K.Sink.held c.answer_message.new.out) c.messages.core c.answer_message.new.core
          heard (g.D.DriverRow.seen c.messages.drivers) (g.D.DriverRow.seen c.answer_message.new.drivers) c.next.ensures.stream (c.in-Ok-Some.is ∙ ap Ok c.in-Ok-Some.field-0-is)
          (λ messages run. c.in_default.ensures.answered db messages before heard run) (c.messages.invariant.so_far db fed before heard so);
    }
