-- A country element that a radio receives, to one step.
use Rattle.std.proofs.Common.{◌≡◌, ℕ, ◌<◌, ◌≤◌, ◌%◌, ◌||◌, Bool, false, is_some, MatchResult, List, [], ◌∷◌, Option, IsSome, length, refl, sym, subst, ap, ap₂, ◌∙◌, inl, inr, arith}
use Rattle.std.proofs.lemmas.Option.{none-some}
use Rattle.rule_tables.specs.declared.code.Alpha2.{Alpha2}
use Rattle.rule_tables.specs.declared.domain.Domain.{Domain}
use Rattle.chan_flags.specs.Profiles.{Abilities}
use Rattle.radio_drv.specs.Seen.{Seen}
use Rattle.reg_hints.specs.Element.{IsElement, IsElementFault}
use Rattle.reg_hints.specs.Table.{Treated, hinted_code}
use Rattle.reg_hints.specs.declared.element.Element.{Element}
use Rattle.reg_hints.specs.declared.element.ElementFault.{ElementFault}
use Rattle.reg_hints.specs.declared.element.ElementFault.TheVariants.{Short, Odd, NotLetters}
use Rattle.reg_hints.specs.declared.hint.Hint.{Hint}
use Rattle.reg_hints.specs.declared.hint.Hint.TheVariants.{Element as ElementHint}
use Rattle.reg_hints.specs.declared.hint.Treatment.{Treatment}
use Rattle.reg_journal.specs.Applicable.{is_self_managed}
use Rattle.reg_journal.specs.Causes.{IsFree, ◌before◌}
use Rattle.reg_journal.specs.Due.{FitsItsRadio}
use Rattle.reg_journal.specs.Effects.{effects_of}
use Rattle.reg_journal.specs.Facts.{Fact, Journal, hinted}
use Rattle.reg_journal.specs.Present.{abilities_of, ifaces_of}
use Rattle.reg_journal.specs.Refusals.{ElementCauses, HintCauses, LacksRadio}
use Rattle.reg_journal.specs.Replies.{Hints, Steps, element_hint}
use Rattle.reg_journal.specs.declared.effects.Effect.{Effect}
use Rattle.reg_journal.specs.declared.refusal.Refusal.{Refusal}
use Rattle.reg_journal.specs.declared.refusal.Refusal.TheVariants.{ElementShort, ElementOdd, ElementNotLetters}
use Rattle.reg_journal.specs.declared.reply.Answer.TheVariants.{Hint as HintTaken, Refused}
use Rattle.reg_journal.specs.declared.reply.HintAnswer.TheVariants.{Treated as ByTable}
use Rattle.reg_journal.specs.declared.reply.Reply.{Reply}
use Rattle.reg_journal.specs.declared.reply.Reply.TheVariants.{Plain}
use Rattle.reg_journal.specs.declared.request.Request.TheVariants.{Element as HeardElement}
use Rattle.reg_journal.proofs.Granting.{free-before, free-where}
use Rattle.core_parts.specs.Kept.{KeepsRadio}
use Rattle.reg_core.specs.Kept.{StandsFor}
use Rattle.reg_core.specs.Stepping.{OneStep, is_failure}
use Rattle.reg_core.specs.inner.Deciding.{IsReason}
use Rattle.reg_core.specs.inner.Elements.{BarsElement, HasHint, HearsElement}
use Rattle.reg_core.specs.inner.HintsTaken.{TakesHint}
use Rattle.std.proofs.Common.{Result, Ok as RustOk, Err}
use Rattle.reg_core.specs.declared.core_state.Core.{Core}
use Rattle.reg_core.specs.declared.declined.Declined.{Declined}
use Rattle.reg_core.specs.declared.declined.Declined.TheVariants.{Refused as ByRefusal, OutOfMemory}
use Rattle.core_parts.specs.declared.radio.Radio.{Radio}
use Rattle.reg_core.proofs.OneSteps.{hint_is_no_failure, step_of_refusal}
use Rattle.core_parts.proofs.RadarRefusals.{abilities_kept}
use Rattle.reg_core.proofs.SweptSteps.{swept_step}

-- ---- faults

none_and_one : (n : ℕ) → n ≡ 0 → n ≡ 1 → ⊥
none_and_one n none one = omega (arith, none, one)

-- a good element has no fault
pub good_element : (body : List ℕ) (e : Element) (fault : ElementFault) → IsElement body e → IsElementFault body fault → ⊥
good_element body e (Short n) is (same, less) = let long = is.long in omega (arith, same, less, long)
good_element body e (Odd n) is (same, long, odd) = let even = is.even in none_and_one (length body % 2) even (ap (λ m. m % 2) (sym same) ∙ odd)
good_element body e NotLetters is (long, even, none) = none is.letters

pub free_of_faults : (body : List ℕ) (e : Element) → IsElement body e → IsFree (ElementCauses body)
free_of_faults body e is r (inl (n, short, same)) = good_element body e (Short n) is short
free_of_faults body e is r (inr (f1, inl (n, odd, same))) = good_element body e (Odd n) is odd
free_of_faults body e is r (inr (f1, inr (f2, (none, same)))) = good_element body e NotLetters is none

-- which refusal a fault leads to
pub short_refused : (body : List ℕ) (n : ℕ) → IsElementFault body (Short n) → ElementCauses body (ElementShort n)
short_refused body n is = inl (n, is, refl)

pub odd_refused : (body : List ℕ) (n : ℕ) → IsElementFault body (Odd n) → ElementCauses body (ElementOdd n)
odd_refused body n is = inr (not_short, inl (n, is, refl))
  where
    not_short : IsFree (λ e. (m : ℕ) × IsElementFault body (Short m) × (e ≡ ElementShort m))
    not_short e (m, (same, less), same') = let here = is.0 in let long = is.1 in omega (arith, same, less, here, long)

pub letters_refused : (body : List ℕ) → IsElementFault body NotLetters → ElementCauses body ElementNotLetters
letters_refused body is = inr (not_short, inr (not_odd, (is, refl)))
  where
    not_short : IsFree (λ e. (m : ℕ) × IsElementFault body (Short m) × (e ≡ ElementShort m))
    not_short e (m, (same, less), same') = let long = is.0 in omega (arith, same, less, long)

    not_odd : IsFree (λ e. (m : ℕ) × IsElementFault body (Odd m) × (e ≡ ElementOdd m))
    not_odd e (m, (same, long, odd), same') = none_and_one (length body % 2) is.1 (ap (λ k. k % 2) (sym same) ∙ odd)

-- ---- the hint

pub hint_heard : (db : List Domain) (J : Journal) (r : ℕ) (body : List ℕ) (radio : Radio) (e : Element) (a : Alpha2) (deaf : Bool) (hint : Hint) → KeepsRadio db J r radio
    → IsElement body e → a ≡ e.alpha2 → deaf ≡ (radio.chans.profile.deaf || radio.chans.profile.self_managed) → hint ≡ ElementHint r a deaf → HasHint J r body a hint
hint_heard db J r body radio e a deaf hint keeps is code deaf_is same =
    let heeds : deaf ≡ ((abilities_of J r).deaf || is_self_managed J r) = deaf_is ∙ ap (λ (p : Abilities). p.deaf || p.self_managed) (abilities_kept db J r radio keeps) in
    record {
      free = free-before _ _ (free-where _ _ (λ gone. none-some radio.chans.profile (sym gone ∙ keeps.profile))) (free_of_faults body e is);
      element = e;
      is_element = is;
      hint_is = same ∙ ap₂ (ElementHint r) code heeds;
      code = sym (ap hinted_code same);
      fits = subst (λ h. FitsItsRadio J (Treated h)) (sym same) (ap is_some keeps.profile, heeds);
    }

-- what comes of the hint comes of the element
pub heard_so : (db : List Domain) (J : Journal) (r : ℕ) (body : List ℕ) (a : Alpha2) (hint : Hint) (new : Core) (row row' : List (Option Seen))
    (result : Result (Treatment × List Effect) Declined) → HasHint J r body a hint
    → MatchResult result (λ p. TakesHint db J hint p.0 new row row' p.1) (IsReason (HintCauses db J (Treated hint)))
    → MatchResult result (λ p. HearsElement db J r body p.0 new row row' p.1) (IsReason (BarsElement db J r body))
heard_so db J r body a hint new row row' (RustOk p) has takes = record { code = a; hint = hint; has = has; takes = takes }
heard_so db J r body a hint new row row' (Err (ByRefusal e)) has cause = inr (record { code = a; hint = hint; has = has; cause = cause })
heard_so db J r body a hint new row row' (Err OutOfMemory) has none = tt

-- ---- steps

bad_is_no_failure : (J : Journal) (r : ℕ) (body : List ℕ) (e : Refusal) → (LacksRadio J r before ElementCauses body) e → is_failure e ≡ false
bad_is_no_failure J r body e (inl gone) = ap is_failure gone.1
bad_is_no_failure J r body e (inr (f1, inl short)) = ap is_failure short.2
bad_is_no_failure J r body e (inr (f1, inr (f2, inl odd))) = ap is_failure odd.2
bad_is_no_failure J r body e (inr (f1, inr (f2, inr (f3, letters)))) = ap is_failure letters.1

heard : (db : List Domain) (J : Journal) (r : ℕ) (body : List ℕ) (a : Alpha2) (hint : Hint) (reply : Reply) (facts : List Fact) (has : HasHint J r body a hint)
    → Hints db J (Treated hint) reply facts → Hints db J (element_hint J r (has.element).alpha2) reply facts
heard db J r body a hint reply facts has is = subst (λ h. Hints db J (Treated h) reply facts) has.hint_is is

pub element_refused : (db : List Domain) (J : Journal) (r : ℕ) (body : List ℕ) (e : Refusal) (old new : Core) (row row' : List (Option Seen)) → StandsFor db old J
    → BarsElement db J r body e → new ≡ old → row' ≡ row → OneStep db J (HeardElement r body) old new row row' (Plain (Refused e) [])
element_refused db J r body e old new row row' s (inl bad) same same' =
    step_of_refusal db J (HeardElement r body) e old new row row' (bad_is_no_failure J r body e bad) tt ([], inl (e, bad, refl, refl), refl) s same same' (λ r was. refl)
element_refused db J r body e old new row row' s (inr bars) same same' =
    step_of_refusal db J (HeardElement r body) e old new row row' (hint_is_no_failure db J (Treated bars.hint) e bars.cause) tt
    ([], inr (bars.has.free, (bars.has.element, bars.has.is_element, heard db J r body bars.code bars.hint (Plain (Refused e) []) [] bars.has (inl (e, bars.cause, refl, refl)))), refl)
    s same same' (λ r was. refl)

pub element_taken : (db : List Domain) (J : Journal) (r : ℕ) (body : List ℕ) (t : Treatment) (effects : List Effect) (old new : Core) (row row' : List (Option Seen)) → StandsFor db old J
    → HearsElement db J r body t new row row' effects → OneStep db J (HeardElement r body) old new row row' (Plain (HintTaken (ByTable t)) effects)
element_taken db J r body t effects old new row row' s hears =
    let takes = hears.takes in
    swept_step db J (HeardElement r body) (hinted (Treated hears.hint)) (ifaces_of J) (HintTaken (ByTable t)) effects old new row row' s tt refl refl tt refl (λ r was. refl) (λ i. refl)
    (λ swept are. inr (
      hears.has.free,
      (
        hears.has.element,
        hears.has.is_element,
        heard db J r body hears.code hears.hint (Plain (HintTaken (ByTable t)) (effects_of J swept)) (hinted (Treated hears.hint) ∷ swept) hears.has
            (inr (takes.free, (swept, are, ap (λ u. Plain (HintTaken (ByTable u)) (effects_of J swept)) takes.treatment_is, refl))),
      ),
    )) takes.sweep
