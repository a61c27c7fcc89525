use Rattle.std.proofs.Common.{◌∙◌, ap, sym}
use Rattle.std.proofs.lemmas.Bool.{false≢true}
use Rattle.chan_flags.specs.Profiles.{Abilities}
use Rattle.reg_journal.specs.Applicable.{applies}
use Rattle.core_parts.proofs.Judged.{swept_of_judged}
use Rattle.core_parts.proofs.Permitted.{HasContexts, begins, begins_by_contexts, begins_where_ends, lacks_more, verdict_auto, within_contexts}
use Rattle.core_parts.proofs.permitting.judge_check.Goals as goal
use Rattle.core_parts.proofs.permitting.judge_check.Goals.{else-not-is_lacking-via-then-not-is_lacking+else-passes_contexts, else-not-is_lacking-via-else-not-is_lacking}

pub returns-then-passes_contexts : goal.returns-then-passes_contexts
returns-then-passes_contexts c = λ db J x is sends.
    let has = verdict_auto db J x c.args.interface.now c.args.radio.now c.args.indoor c.args.chan.now c.verdict-verdict.result
    (swept_of_judged db J x c.args.interface.now c.args.interfaces.now c.args.radio.now c.args.indoor is) (c.verdict-verdict.ensures.domains (applies db J x.radio) is.among.radio_is.records) in
    let contexts = c.contexts.ensures.contexts ∙ ap (λ (p : Abilities). p.contexts) c.profile.ensures in
    begins_by_contexts db J x c.args.radio.now c.args.chan.now c.verdict-verdict.result c.contexts.result is.among.radio_is has.verdict_is
    (sym c.is_lacking.ensures ∙ c.if-not-is_lacking.true) contexts ((c.passes_contexts.ensures db J x is.among).0 c.if-passes_contexts.true)

pub returns-in-Ok : goal.returns-in-Ok
returns-in-Ok c = λ db J x is sends.
    let has = verdict_auto db J x c.args.interface.now c.args.radio.now c.args.indoor c.args.chan.now c.verdict-verdict.result
    (swept_of_judged db J x c.args.interface.now c.args.interfaces.now c.args.radio.now c.args.indoor is) (c.verdict-verdict.ensures.domains (applies db J x.radio) is.among.radio_is.records) in
    let fits = c.in-Ok.ensures db J x has in
    let contexts : HasContexts db J x c.args.chan.now = elim c.else-not-is_lacking.branch [
      | else-not-is_lacking-via-then-not-is_lacking+else-passes_contexts w ↦
          within_contexts db J x c.args.radio.now c.args.chan.now is.among.radio_is (λ more. false≢true ((w.if-passes_contexts.ensures db J x is.among).1 more))
      | else-not-is_lacking-via-else-not-is_lacking w ↦ lacks_more db J x c.args.chan.now c.verdict-verdict.result has.verdict_is (sym c.is_lacking.ensures ∙ w.if-not-is_lacking.false)
    ] in
    begins db J x c.args.radio.now c.args.chan.now c.in-Ok.length_ms c.some_to_check.result contexts fits (c.some_to_check.ensures db J x fits.rules (fits.quiet sends))

pub returns-in-Err : goal.returns-in-Err
returns-in-Err c = λ db J x is sends.
    let has = verdict_auto db J x c.args.interface.now c.args.radio.now c.args.indoor c.args.chan.now c.verdict-verdict.result
    (swept_of_judged db J x c.args.interface.now c.args.interfaces.now c.args.radio.now c.args.indoor is) (c.verdict-verdict.ensures.domains (applies db J x.radio) is.among.radio_is.records) in
    let contexts : HasContexts db J x c.args.chan.now = elim c.else-not-is_lacking.branch [
      | else-not-is_lacking-via-then-not-is_lacking+else-passes_contexts w ↦
          within_contexts db J x c.args.radio.now c.args.chan.now is.among.radio_is (λ more. false≢true ((w.if-passes_contexts.ensures db J x is.among).1 more))
      | else-not-is_lacking-via-else-not-is_lacking w ↦ lacks_more db J x c.args.chan.now c.verdict-verdict.result has.verdict_is (sym c.is_lacking.ensures ∙ w.if-not-is_lacking.false)
    ] in
    begins_where_ends db J x c.args.chan.now c.in-Err.refusal contexts (c.in-Err.ensures db J x has)
