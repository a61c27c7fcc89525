-- A driver's hint, to one step.
use Rattle.std.proofs.Common.{◌≡◌, ℕ, cond, true, false, List, [], ◌∷◌, Option, IsSome, is_some, refl, sym, subst, ap, ◌∙◌, inl, inr}
use Rattle.std.proofs.lemmas.Bool.{false≢true}
use Rattle.rule_tables.specs.declared.code.Alpha2.{Alpha2}
use Rattle.rule_tables.specs.declared.domain.Domain.{Domain}
use Rattle.radio_drv.specs.Seen.{Seen}
use Rattle.reg_hints.specs.Table.{Hinted, Own, Treated}
use Rattle.reg_hints.specs.declared.hint.Hint.TheVariants.{Driver}
use Rattle.reg_hints.specs.declared.hint.Treatment.{Treatment}
use Rattle.reg_journal.specs.Applicable.{is_self_managed}
use Rattle.reg_journal.specs.Causes.{IsFree, ◌before◌}
use Rattle.reg_journal.specs.Effects.{effects_of}
use Rattle.reg_journal.specs.Facts.{Journal, hinted}
use Rattle.reg_journal.specs.Present.{ifaces_of, profile_of}
use Rattle.reg_journal.specs.Refusals.{HintCauses, LacksRadio}
use Rattle.reg_journal.specs.Replies.{Replies, answer_of, driver_hint}
use Rattle.reg_journal.specs.declared.effects.Effect.{Effect}
use Rattle.reg_journal.specs.declared.refusal.Refusal.{Refusal}
use Rattle.reg_journal.specs.declared.reply.Answer.TheVariants.{Hint as HintTaken, Refused}
use Rattle.reg_journal.specs.declared.reply.HintAnswer.{HintAnswer}
use Rattle.reg_journal.specs.declared.reply.HintAnswer.TheVariants.{Treated as ByTable, Own as ByItself}
use Rattle.reg_journal.specs.declared.reply.Reply.TheVariants.{Plain}
use Rattle.reg_journal.specs.declared.request.Request.TheVariants.{DriverHint}
use Rattle.reg_journal.proofs.Granting.{free-where}
use Rattle.reg_core.specs.Kept.{StandsFor}
use Rattle.reg_core.specs.Stepping.{OneStep, is_failure}
use Rattle.reg_core.specs.inner.Deciding.{IsReason}
use Rattle.reg_core.specs.inner.DriverHints.{HearsDriver, TakesOwn}
use Rattle.reg_core.specs.inner.HintsTaken.{TakesHint}
use Rattle.reg_core.specs.inner.Sweeping.{IsSweepOf}
use Rattle.reg_core.specs.declared.core_state.Core.{Core}
use Rattle.reg_core.specs.declared.declined.Declined.{Declined}
use Rattle.reg_core.specs.declared.declined.Declined.TheVariants.{Refused as ByRefusal, OutOfMemory}
use Rattle.reg_core.proofs.OneSteps.{hint_is_no_failure, step_of_refusal}
use Rattle.reg_core.proofs.SweptSteps.{swept_step}

-- ---- whose hint it is

pub own_hint : (J : Journal) (r : ℕ) (a : Alpha2) → is_self_managed J r ≡ true → driver_hint J r a ≡ Own r a
own_hint J r a own = ap (λ b. cond b (Own r a) (Treated (Driver r a))) own

pub shared_hint : (J : Journal) (r : ℕ) (a : Alpha2) → is_self_managed J r ≡ false → driver_hint J r a ≡ Treated (Driver r a)
shared_hint J r a shared = ap (λ b. cond b (Own r a) (Treated (Driver r a))) shared

there_is : (J : Journal) (r : ℕ) → IsSome (profile_of J r) → IsFree (LacksRadio J r)
there_is J r there = free-where _ _ (λ gone. false≢true (sym (ap is_some gone) ∙ there))

pub hears_own : (db : List Domain) (J : Journal) (r : ℕ) (a : Alpha2) (new : Core) (row row' : List (Option Seen)) (effects : List Effect) → IsSome (profile_of J r)
    → is_self_managed J r ≡ true → TakesOwn db J r a new row row' effects → HearsDriver db J r a ByItself new row row' effects
hears_own db J r a new row row' effects there own takes =
    let is = own_hint J r a own in
    record {
      there = there_is J r there;
      free = subst (λ h. IsFree (HintCauses db J h)) (sym is) takes.free;
      answer_is = sym (ap (answer_of J) is);
      sweep = subst (λ h. IsSweepOf db (hinted h ∷ J) (ifaces_of J) new row row' effects) (sym is) takes.sweep;
    }

pub hears_shared : (db : List Domain) (J : Journal) (r : ℕ) (a : Alpha2) (t : Treatment) (new : Core) (row row' : List (Option Seen)) (effects : List Effect) → IsSome (profile_of J r)
    → is_self_managed J r ≡ false → TakesHint db J (Driver r a) t new row row' effects → HearsDriver db J r a (ByTable t) new row row' effects
hears_shared db J r a t new row row' effects there shared takes =
    let is = shared_hint J r a shared in
    record {
      there = there_is J r there;
      free = subst (λ h. IsFree (HintCauses db J h)) (sym is) takes.free;
      answer_is = ap ByTable takes.treatment_is ∙ sym (ap (answer_of J) is);
      sweep = subst (λ h. IsSweepOf db (hinted h ∷ J) (ifaces_of J) new row row' effects) (sym is) takes.sweep;
    }

pub driver_barred : (db : List Domain) (J : Journal) (r : ℕ) (a : Alpha2) (hint : Hinted) (d : Declined) → IsSome (profile_of J r) → driver_hint J r a ≡ hint
    → IsReason (HintCauses db J hint) d → IsReason (LacksRadio J r before HintCauses db J (driver_hint J r a)) d
driver_barred db J r a hint (ByRefusal e) there is cause = inr (there_is J r there, subst (λ h. HintCauses db J h e) (sym is) cause)
driver_barred db J r a hint OutOfMemory there is none = tt

-- ---- steps

pub driver_taken : (db : List Domain) (J : Journal) (r : ℕ) (a : Alpha2) (answer : HintAnswer) (effects : List Effect) (old new : Core) (row row' : List (Option Seen)) → StandsFor db old J
    → HearsDriver db J r a answer new row row' effects → OneStep db J (DriverHint r a) old new row row' (Plain (HintTaken answer) effects)
driver_taken db J r a answer effects old new row row' s hears =
    swept_step db J (DriverHint r a) (hinted (driver_hint J r a)) (ifaces_of J) (HintTaken answer) effects old new row row' s tt refl refl tt refl (λ q was. refl) (λ i. refl)
    (λ swept are. inr (hears.there, inr (hears.free, (swept, are, ap (λ u. Plain (HintTaken u) (effects_of J swept)) hears.answer_is, refl)))) hears.sweep

pub driver_refused : (db : List Domain) (J : Journal) (r : ℕ) (a : Alpha2) (e : Refusal) (old new : Core) (row row' : List (Option Seen)) → StandsFor db old J
    → (LacksRadio J r before HintCauses db J (driver_hint J r a)) e → new ≡ old → row' ≡ row → OneStep db J (DriverHint r a) old new row row' (Plain (Refused e) [])
driver_refused db J r a e old new row row' s cause same same' =
    step_of_refusal db J (DriverHint r a) e old new row row' (none cause) tt ([], replies cause, refl) s same same' (λ q was. refl)
  where
    none : (LacksRadio J r before HintCauses db J (driver_hint J r a)) e → is_failure e ≡ false
    none (inl gone) = ap is_failure gone.1
    none (inr (f1, bars)) = hint_is_no_failure db J (driver_hint J r a) e bars

    replies : (LacksRadio J r before HintCauses db J (driver_hint J r a)) e → Replies db J (DriverHint r a) false (Plain (Refused e) []) []
    replies (inl gone) = inl (e, gone, refl, refl)
    replies (inr (f1, bars)) = inr (f1, inl (e, bars, refl, refl))
