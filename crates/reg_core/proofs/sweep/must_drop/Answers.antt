use Rattle.std.proofs.Common.{inl, inr, subst, sym}
use Rattle.reg_journal.specs.Applicable.{applies}
use Rattle.reg_journal.specs.Permits.{EndsCheck}
use Rattle.core_parts.proofs.Permitted.{verdict_auto}
use Rattle.reg_core.proofs.sweep.must_drop.Goals as goal

pub returns-then-moved : goal.returns-then-moved
returns-then-moved c = λ db J x k is same region. inr (rw c.if-moved.true at region)

pub returns-in-Ok : goal.returns-in-Ok
returns-in-Ok c = λ db J x k is same region drops.
    let unmoved = rw c.if-moved.false at region in
    let has = verdict_auto db J x c.args.interface.now c.args.radio.now c.args.indoor c.args.chan.now c.verdict-verdict.result is
    (c.verdict-verdict.ensures.domains (applies db J x.radio) is.radio_is.records) in
    elim drops [
      | inl ends ↦ (c.in-Ok.ensures db J x has).free ends.0 (subst (λ d. EndsCheck db J x d ends.0) (sym same) ends.1)
      | inr changed ↦ unmoved changed
    ]

pub returns-in-Err : goal.returns-in-Err
returns-in-Err c = λ db J x k is same region.
    let has = verdict_auto db J x c.args.interface.now c.args.radio.now c.args.indoor c.args.chan.now c.verdict-verdict.result is
    (c.verdict-verdict.ensures.domains (applies db J x.radio) is.radio_is.records) in
    inl (c.in-Err._refusal, subst (λ d. EndsCheck db J x d c.in-Err._refusal) same (c.in-Err.ensures db J x has))
