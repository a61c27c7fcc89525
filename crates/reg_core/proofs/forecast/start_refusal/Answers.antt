use Rattle.std.proofs.Common.{refl, sym, ap, ◌∙◌, inl, inr}
use Rattle.std.proofs.lemmas.Bool.{false≢true}
use Rattle.reg_journal.proofs.Granting.{free-where}
use Rattle.core_parts.specs.declared.interface.Interface.{Interface}
use Rattle.reg_core.proofs.forecast.start_refusal.Goals as goal

pub returns-then-is_in_use_for-clause-first : goal.returns-then-is_in_use_for-clause-first
returns-then-is_in_use_for-clause-first c = λ db J x is.
    let same = sym (ap (λ (p : Interface). p.kind) is.interface_is) ∙ c.if-not-is_same_kind.ensures.0 refl in
    inr (free-where _ _ (λ other. other same), inl ((c.is_in_use_for.ensures db J x is).0 c.if-is_in_use_for.true, refl))

pub returns-then-not-valid-clause-first : goal.returns-then-not-valid-clause-first
returns-then-not-valid-clause-first c = λ db J x is.
    let same = sym (ap (λ (p : Interface). p.kind) is.interface_is) ∙ c.if-not-is_same_kind.ensures.0 refl in
    inr (
      free-where _ _ (λ other. other same),
      inr (
        free-where _ _ (λ used. absurd (false≢true ((c.if-is_in_use_for.ensures db J x is).1 used))),
        (λ valid. absurd (false≢true (c.if-not-valid.ensures.valid.1 valid)), refl),
      ),
    )

pub returns-clause-first : goal.returns-clause-first
returns-clause-first c = λ db J x is. record {
  of_kind = sym (ap (λ (p : Interface). p.kind) is.interface_is) ∙ c.if-not-is_same_kind.ensures.0 refl;
  free = λ used. absurd (false≢true ((c.if-is_in_use_for.ensures db J x is).1 used));
  valid = c.if-not-valid.ensures.valid.0 refl;
}
