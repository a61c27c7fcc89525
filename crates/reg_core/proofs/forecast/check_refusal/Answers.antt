use Rattle.std.proofs.Common.{refl, sym, ap, ◌∙◌, inl, inr}
use Rattle.std.proofs.lemmas.Bool.{false≢true}
use Rattle.chan_def.specs.Kinds.{initiates}
use Rattle.reg_journal.proofs.Granting.{free-where}
use Rattle.core_parts.specs.declared.interface.Interface.{Interface}
use Rattle.reg_core.proofs.forecast.check_refusal.Goals as goal

pub returns-then-is_used-clause-first : goal.returns-then-is_used-clause-first
returns-then-is_used-clause-first c = λ db J x is.
    let sends = sym (ap (λ (p : Interface). initiates p.kind) is.interface_is) ∙ sym c.initiates.ensures.initiates ∙ c.if-not-initiates.false in
    inr (free-where _ _ (λ not. not sends), inl ((c.is_used.ensures db J x is).0 c.if-is_used.true, refl))

pub returns-then-not-valid-clause-first : goal.returns-then-not-valid-clause-first
returns-then-not-valid-clause-first c = λ db J x is.
    let sends = sym (ap (λ (p : Interface). initiates p.kind) is.interface_is) ∙ sym c.initiates.ensures.initiates ∙ c.if-not-initiates.false in
    inr (
      free-where _ _ (λ not. not sends),
      inr (
        free-where _ _ (λ used. absurd (false≢true ((c.if-is_used.ensures db J x is).1 used))),
        (λ valid. absurd (false≢true (c.if-not-valid.ensures.valid.1 valid)), refl),
      ),
    )

pub returns-clause-first : goal.returns-clause-first
returns-clause-first c = λ db J x is. record {
  sends_first = sym (ap (λ (p : Interface). initiates p.kind) is.interface_is) ∙ sym c.initiates.ensures.initiates ∙ c.if-not-initiates.false;
  free = λ used. absurd (false≢true ((c.if-is_used.ensures db J x is).1 used));
  valid = c.if-not-valid.ensures.valid.0 refl;
}
