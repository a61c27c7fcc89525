use Rattle.std.proofs.Common.{◌++◌, ◌+◌, ◌∙◌, IfSome, None, Ok, Some, ap, refl, subst}
use Rattle.line_forms.specs.Lines.{Says}
use Rattle.line_forms.specs.declared.fault.ReadLineFault.TheVariants.{OutOfMemory}
use Rattle.nl_attrs.specs.Messages.{spelled}
use Rattle.nl80211_cmds.specs.Requests.{message_of}
use Rattle.reg_journal.specs.Forms.{IsLineRequest}
use Rattle.script_run.proofs.Taking.{handed_on}
use Rattle.pack_command.specs.inner.Steps.{IsPutStop}
use Rattle.pack_command.proofs.requests.put_line.Goals as goal

pub returns-in_err-put_request-in-Some-clause-fault :
    goal.returns-in_err-put_request-in-Some-clause-fault
returns-in_err-put_request-in-Some-clause-fault c =
    handed_on c.from_residual-in_err-put_request-in-Some.result OutOfMemory (IsPutStop c.args.line.now) c.from_residual-in_err-put_request-in-Some.ensures.1 tt

pub returns-in-None-clause-packed : goal.returns-in-None-clause-packed
returns-in-None-clause-packed c =
    (Ok None, subst (λ o. Says c.args.line.now (Ok o)) c.in-None.is c.in_ok-read_line.ensures.says, (c.clear.ensures.empty, refl), refl)

pub returns-in_ok-put_request-in-Some-clause-packed :
    goal.returns-in_ok-put_request-in-Some-clause-packed
returns-in_ok-put_request-in-Some-clause-packed c = (
  Ok (Some c.in-Some.request),
  subst (λ o. Says c.args.line.now (Ok o)) c.in-Some.is c.in_ok-read_line.ensures.says,
  (
    record {
      typed = c.put_request.ensures.typed;
      askable = subst (λ o. IfSome o IsLineRequest) c.in-Some.is c.in_ok-read_line.ensures.line;
      message = c.in_ok-put_request-in-Some.ensures.is;
      is = c.in_ok-put_request-in-Some.ensures.message ∙ ap (λ before. before ++ spelled (message_of c.in-Some.request (c.args.requests + 1))) c.clear.ensures.empty;
    },
    refl,
  ),
  refl,
)
