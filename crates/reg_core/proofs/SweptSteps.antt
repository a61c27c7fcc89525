-- From a sweep to one step.
use Rattle.std.proofs.Common.{◌≡◌, ℕ, Bool, true, false, List, [], ◌∷◌, Contains, Option, Some, None, MatchBool, get_or, refl, sym, ap, subst, ◌∙◌, inl, inr}
use Rattle.std.proofs.lemmas.Option.{none-some}
use Rattle.rule_tables.specs.declared.domain.Domain.{Domain}
use Rattle.chan_def.specs.declared.definition.ChanDef.{ChanDef}
use Rattle.radio_drv.specs.Seen.{Seen}
use Rattle.reg_journal.specs.Applicable.{region_of}
use Rattle.reg_journal.proofs.EachRegular.{IsSound}
use Rattle.reg_journal.specs.Causes.{IsFree}
use Rattle.reg_journal.specs.Due.{EachMayFollow}
use Rattle.reg_journal.specs.Effects.{effects_of}
use Rattle.reg_journal.specs.Facts.{Fact, Journal, after, hinted, indoor_is, radar_met}
use Rattle.reg_journal.specs.Present.{Check, Iface, Operation, check_of, ifaces_of, ifaces_on, indexed, operation_of}
use Rattle.reg_journal.specs.Refusals.{RadarCauses}
use Rattle.reg_journal.specs.Replies.{Replies}
use Rattle.reg_journal.specs.Settled.{IsCheckPermitted}
use Rattle.reg_journal.specs.Sweep.{AreSwept, RegionChangedInCheck}
use Rattle.reg_journal.specs.declared.effects.Effect.{Effect}
use Rattle.reg_journal.specs.declared.refusal.Refusal.{Refusal}
use Rattle.reg_journal.specs.declared.reply.Answer.{Answer}
use Rattle.reg_journal.specs.declared.reply.Answer.TheVariants.{Hint as HintTaken, Ok, Refused}
use Rattle.reg_journal.specs.declared.reply.HintAnswer.TheVariants.{Treated as ByTable}
use Rattle.rule_tables.specs.declared.code.Alpha2.{Alpha2}
use Rattle.reg_hints.specs.Table.{Treated}
use Rattle.reg_hints.specs.declared.hint.Hint.TheVariants.{User}
use Rattle.reg_hints.specs.declared.hint.Treatment.{Treatment}
use Rattle.reg_core.specs.inner.HintsTaken.{TakesHint}
use Rattle.reg_journal.specs.declared.reply.Reply.TheVariants.{Plain}
use Rattle.reg_journal.specs.declared.request.Request.{Request}
use Rattle.reg_journal.specs.declared.request.Request.TheVariants.{Indoor, Radar, UserHint}
use Rattle.reg_journal.proofs.Judged.{settled_check}
use Rattle.reg_journal.proofs.Lasting.{region_changed_before}
use Rattle.reg_journal.proofs.Operations.{BeginsCheck, check_ran, no_check_beside}
use Rattle.reg_core.specs.Kept.{StandsFor}
use Rattle.reg_core.specs.Stepping.{IsStartGranted, OneStep, is_failed_answer, is_failure, is_refusal}
use Rattle.core_parts.specs.Changes.{effect_in, facts_of}
use Rattle.reg_core.specs.inner.Sweeping.{AreMoved, IsSweepOf}
use Rattle.core_parts.specs.declared.change.Change.{Change}
use Rattle.reg_core.specs.declared.core_state.Core.{Core}
use Rattle.reg_books.proofs.AirEntries.{leaves_air}
use Rattle.core_parts.proofs.Continuing.{continues_all, continues_left, continues_twice, keep_up_of}
use Rattle.reg_books.proofs.KeepUp.{BeginsNothing}
use Rattle.reg_core.proofs.OneSteps.{step_done, step_of_refusal}
use Rattle.reg_core.proofs.SweepLists.{due_before, effects_alike, housed_of, swept_of}

-- ---- regions

-- where the fact leaves the regions, no check's region changed
pub none_moved : (db : List Domain) (J : Journal) (f : Fact) (core : Core) (moved : List Bool) → StandsFor db core J → EachMayFollow db (f ∷ J)
    → ((r : ℕ) → region_of db (f ∷ J) r ≡ region_of db J r) → ((i : ℕ) → BeginsCheck f i → ⊥) → ifaces_of (f ∷ J) ≡ ifaces_of J
    → ((i : ℕ) → operation_of (f ∷ J) i ≡ operation_of J i) → ((r : ℕ) → get_or moved r false ≡ false) → AreMoved db (f ∷ J) moved
none_moved db J f core moved s due region begins same operations none x k there here =
    subst (λ b. MatchBool b (RegionChangedInCheck db (f ∷ J) x) (RegionChangedInCheck db (f ∷ J) x → ⊥)) (sym (none x.radio)) (λ changed.
    let was = check_ran db f J x.index k due (begins x.index) here in
    let listed = subst (λ xs. Contains xs x) same there in
    (settled_check db J x k (idle (operation_of J x.index) refl was) was (s.settled x listed)).same_region (region_changed_before db f J x (region x.radio) changed))
  where
    idle : (o : Option Operation) → operation_of J x.index ≡ o → check_of J x.index ≡ Some k → operation_of J x.index ≡ None
    idle None is was = is
    idle (Some o) is was = absurd (none-some k (sym (no_check_beside db J x.index o s.keeps.due is) ∙ was))

-- ---- steps

pub swept_step : (db : List Domain) (J : Journal) (q : Request) (f : Fact) (xs : List Iface) (answer : Answer) (effects : List Effect) (old new : Core) (row row' : List (Option Seen))
    → StandsFor db old J → IsSound q → is_failed_answer answer ≡ false → is_refusal (Plain answer effects) ≡ false → IsStartGranted db J q (Plain answer effects) → leaves_air f ≡ true
    → BeginsNothing J q (Plain answer effects) → ((i : ℕ) → indexed J i ≡ indexed (f ∷ J) i)
    → ((swept : List Fact) → AreSwept db (f ∷ J) xs swept → Replies db J q false (Plain answer (effects_of J swept)) (f ∷ swept))
    → IsSweepOf db (f ∷ J) xs new row row' effects → OneStep db J q old new row row' (Plain answer effects)
swept_step db J q f xs answer effects old new row row' s askable none accepted granted leaves begins same replies sweep =
    let facts = facts_of sweep.changes in
    let due = due_before db facts (f ∷ J) sweep.keeps.due in
    let alike : effects ≡ effects_of J facts = sweep.effects_are ∙ effects_alike db J (f ∷ J) sweep.changes due same (housed_of db (f ∷ J) xs sweep.changes sweep.judged) in
    let is = subst (λ es. Replies db J q false (Plain answer es) (f ∷ facts)) (sym alike) (replies facts (swept_of db (f ∷ J) xs sweep.changes sweep.judged)) in
    step_done db J q answer effects (f ∷ facts) old new row row' s askable none accepted granted is sweep.keeps
    (keep_up_of J (after facts (f ∷ J)) q (Plain answer effects) row row' begins
    (continues_twice J (f ∷ J) (after facts (f ∷ J)) row row row' (continues_left db J f row due leaves)
    (continues_all db (f ∷ J) sweep.changes row row' due sweep.can sweep.told)))

pub indoor_taken : (db : List Domain) (J : Journal) (on : Bool) (effects : List Effect) (old new : Core) (row row' : List (Option Seen)) → StandsFor db old J
    → IsSweepOf db (indoor_is on ∷ J) (ifaces_of J) new row row' effects → OneStep db J (Indoor on) old new row row' (Plain Ok effects)
indoor_taken db J on effects old new row row' s sweep =
    swept_step db J (Indoor on) (indoor_is on) (ifaces_of J) Ok effects old new row row' s tt refl refl tt refl (λ r before. refl) (λ i. refl) (λ swept are. (swept, are, refl, refl)) sweep

pub radar_taken : (db : List Domain) (J : Journal) (r : ℕ) (c : ChanDef) (effects : List Effect) (old new : Core) (row row' : List (Option Seen)) → StandsFor db old J
    → IsFree (RadarCauses J r c) → IsSweepOf db (radar_met r c ∷ J) (ifaces_on J r) new row row' effects → OneStep db J (Radar r c) old new row row' (Plain Ok effects)
radar_taken db J r c effects old new row row' s free sweep =
    swept_step db J (Radar r c) (radar_met r c) (ifaces_on J r) Ok effects old new row row' s tt refl refl tt refl (λ r before. refl) (λ i. refl)
    (λ swept are. inr (free, (swept, are, refl, refl))) sweep

pub radar_refused : (db : List Domain) (J : Journal) (r : ℕ) (c : ChanDef) (e : Refusal) (old new : Core) (row row' : List (Option Seen)) → StandsFor db old J → RadarCauses J r c e
    → new ≡ old → row' ≡ row → OneStep db J (Radar r c) old new row row' (Plain (Refused e) [])
radar_refused db J r c e old new row row' s cause same same' =
    step_of_refusal db J (Radar r c) e old new row row' (none cause) tt ([], inl (e, cause, refl, refl), refl) s same same' (λ r before. refl)
  where
    none : RadarCauses J r c e → is_failure e ≡ false
    none (inl gone) = ap is_failure gone.1
    none (inr (f1, bad)) = ap is_failure bad.1

pub user_hint_taken : (db : List Domain) (J : Journal) (a : Alpha2) (t : Treatment) (effects : List Effect) (old new : Core) (row row' : List (Option Seen)) → StandsFor db old J
    → TakesHint db J (User a) t new row row' effects → OneStep db J (UserHint a) old new row row' (Plain (HintTaken (ByTable t)) effects)
user_hint_taken db J a t effects old new row row' s takes =
    swept_step db J (UserHint a) (hinted (Treated (User a))) (ifaces_of J) (HintTaken (ByTable t)) effects old new row row' s tt refl refl tt refl (λ r before. refl) (λ i. refl)
    (λ swept are. inr (takes.free, (swept, are, ap (λ u. Plain (HintTaken (ByTable u)) (effects_of J swept)) takes.treatment_is, refl))) takes.sweep
