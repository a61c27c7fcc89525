use Rattle.std.proofs.Common.{Ok, subst}
use Rattle.line_forms.specs.Lines.{Says}
use Rattle.script_run.proofs.Turning.{turn_printed, turn_silent, turn_told, turn_unprinted}
use Rattle.script_run.proofs.answering.answer_whole.Goals as goal

pub returns-in-Ok-None-clause-answered : goal.returns-in-Ok-None-clause-answered
returns-in-Ok-None-clause-answered g c = λ db J here.
    turn_silent db J c.args.line.now _ _ _ (subst (λ o. Says c.args.line.now (Ok o)) c.in-Ok-None.field-0-is c.in-Ok-None.ensures.says) c.clear.ensures.empty here

pub returns-in-Ok-clause-answered : goal.returns-in-Ok-clause-answered
returns-in-Ok-clause-answered g c =
    turn_printed _ c.args.line.now _ _ _ c.in-Ok.reply _ _ _ _
    (subst (λ o. Says c.args.line.now (Ok o)) c.in-Ok-Some.field-0-is c.in-Ok-Some.ensures.says) c.in-Ok.ensures.step c.clear.ensures.empty c.put_reply.ensures.text

pub returns-in-Ok-clause-stopped : goal.returns-in-Ok-clause-stopped
returns-in-Ok-clause-stopped g c =
    turn_unprinted _ c.args.line.now _ c.in-Ok.reply _ _ _ _
    (subst (λ o. Says c.args.line.now (Ok o)) c.in-Ok-Some.field-0-is c.in-Ok-Some.ensures.says) c.in-Ok.ensures.step

pub returns-in-Err-Line-clause-answered : goal.returns-in-Err-Line-clause-answered
returns-in-Err-Line-clause-answered g c =
    turn_told _ c.args.line.now _ _ c.in-Err-Line.fault _ _ (rw c.in-Err-Line.field-0-is at c.in-Err-Line.ensures.says) c.clear.ensures.empty c.put_fault.ensures.text
