use Rattle.std.proofs.Common.{◌∙◌, ap, sym}
use Rattle.std.proofs.lemmas.Bool.{false≢true}
use Rattle.chan_flags.specs.Profiles.{Abilities}
use Rattle.reg_journal.specs.Applicable.{applies}
use Rattle.core_parts.proofs.Judged.{bars_by_contexts, judged_lacking, judged_within, swept_of_judged, verdict_kept}
use Rattle.core_parts.proofs.permitting.judge.Goals as goal
use Rattle.core_parts.proofs.permitting.judge.Goals.{else-not-is_lacking-via-then-not-is_lacking+else-passes_contexts, else-not-is_lacking-via-else-not-is_lacking}

pub returns-then-passes_contexts : goal.returns-then-passes_contexts
returns-then-passes_contexts c = λ db J x is.
    let verdict = c.verdict-verdict.ensures.domains (applies db J x.radio) is.among.radio_is.records in
    let has = verdict_kept db J x c.args.interface.now c.args.radio.now c.args.indoor c.args.chan.now c.verdict-verdict.result
    (swept_of_judged db J x c.args.interface.now c.args.interfaces.now c.args.radio.now c.args.indoor is) verdict in
    let contexts = c.contexts.ensures.contexts ∙ ap (λ (p : Abilities). p.contexts) c.profile.ensures in
    bars_by_contexts db J x c.args.radio.now c.args.chan.now c.verdict-verdict.result c.contexts.result is.among.radio_is has.verdict_is
    (sym c.is_lacking.ensures ∙ c.if-not-is_lacking.true) contexts ((c.passes_contexts.ensures db J x is.among).0 c.if-passes_contexts.true)

pub returns : goal.returns
returns c = λ db J x is.
    let verdict = c.verdict-verdict.ensures.domains (applies db J x.radio) is.among.radio_is.records in
    let has = verdict_kept db J x c.args.interface.now c.args.radio.now c.args.indoor c.args.chan.now c.verdict-verdict.result
    (swept_of_judged db J x c.args.interface.now c.args.interfaces.now c.args.radio.now c.args.indoor is) verdict in
    let permitted = c.permit.ensures db J x has in
    elim c.else-not-is_lacking.branch [
      | else-not-is_lacking-via-then-not-is_lacking+else-passes_contexts w ↦
          judged_within db J x c.args.radio.now c.args.chan.now c.permit.result is.among.radio_is c.requires
          (λ more. false≢true ((w.if-passes_contexts.ensures db J x is.among).1 more)) permitted
      | else-not-is_lacking-via-else-not-is_lacking w ↦
          judged_lacking db J x c.args.chan.now c.verdict-verdict.result c.permit.result has.verdict_is (sym c.is_lacking.ensures ∙ w.if-not-is_lacking.false) permitted
    ]
