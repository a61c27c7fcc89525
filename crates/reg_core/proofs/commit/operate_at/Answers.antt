use Rattle.std.proofs.Common.{ap, sym, ◌∙◌, Some}
use Rattle.core_parts.specs.BookCalls.{call_in}
use Rattle.core_parts.proofs.Operated.{sent_call, sent_elsewhere, speaks_running, unsent}
use Rattle.reg_core.proofs.commit.operate_at.Goals as goal

pub returns-then-initiates : goal.returns-then-initiates
returns-then-initiates c = record {
  kept = λ db J x f keeps is tells due.
      let first = sym c.initiates.ensures.initiates ∙ c.if-initiates.true in
      c.note_at.ensures.kept db J f keeps (speaks_running f x.index c.args.operation.now tells)
      (sent_call db J x f c.args.interface.now c.args.operation.now is tells due first ∙ ap (λ call. Some (call_in call)) (sym c.operation_call.ensures))
      (sent_elsewhere db J x f c.args.interface.now c.args.operation.now is tells due) due;
}

pub returns-else-initiates : goal.returns-else-initiates
returns-else-initiates c = record {
  kept = λ db J x f keeps is tells due.
      unsent db J x f c.args.radios.now c.args.interface.now c.args.operation.now keeps is tells due (sym c.initiates.ensures.initiates ∙ c.if-initiates.false);
}
