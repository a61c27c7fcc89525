-- From what goes to one step.
use Rattle.std.proofs.Common.{◌≡◌, ℕ, ◌<◌, ◌≤◌, true, List, [], ◌∷◌, ◌++◌, Contains, length, set, Option, Some, None, IsSome, IsSomeAnd, append-nil, if◌then◌else◌, arith, refl, sym, ap, subst, ◌∙◌, inl, inr, eq-eqb, ne_eqb}
use Rattle.std.specs.List.{filter_map, flat_map}
use Rattle.std.specs.Option.{option_map}
use Rattle.std.proofs.lemmas.Bool.{cases_eq}
use Rattle.std.proofs.lemmas.List.{get_or-set_other, get_or-set_same, length-set}
use Rattle.std.proofs.lemmas.List.Elements.{filter_map-append}
use Rattle.std.proofs.lemmas.Option.{none-some}
use Rattle.freq_range.proofs.Members.{Contains-nothing}
use Rattle.rule_tables.specs.declared.domain.Domain.{Domain}
use Rattle.radio_drv.specs.Seen.{Seen}
use Rattle.reg_journal.specs.Causes.{IsFree}
use Rattle.reg_journal.specs.Due.{EachMayFollow}
use Rattle.reg_journal.specs.Effects.{effect_of, effects_of}
use Rattle.reg_journal.specs.Facts.{Fact, Journal, after, radio_removed}
use Rattle.reg_journal.specs.OnAir.{on_air_of}
use Rattle.reg_journal.specs.Present.{Iface, ifaces_of, ifaces_on, is_removed, named, profile_of}
use Rattle.reg_journal.specs.Refusals.{LacksIface, LacksRadio}
use Rattle.reg_journal.specs.Replies.{facts_of_end, facts_of_removal}
use Rattle.reg_journal.specs.declared.effects.Effect.{Effect}
use Rattle.reg_journal.specs.declared.refusal.Refusal.{Refusal}
use Rattle.reg_journal.specs.declared.reply.Answer.TheVariants.{Ok, Refused}
use Rattle.reg_journal.specs.declared.reply.Reply.TheVariants.{Plain}
use Rattle.reg_journal.specs.declared.request.Request.TheVariants.{IfaceDel, RadioDel}
use Rattle.reg_journal.proofs.EachRegular.{at_named, there}
use Rattle.reg_journal.proofs.Ending.{goes_removal}
use Rattle.reg_journal.proofs.Granting.{free-where}
use Rattle.reg_journal.proofs.Indexes.{ifaces_on_apart}
use Rattle.reg_journal.proofs.Regular.{goes_ended}
use Rattle.reg_books.specs.DriverRows.{IsDriven, driver_at}
use Rattle.reg_core.specs.Kept.{Keeps, StandsFor}
use Rattle.reg_core.specs.Stepping.{OneStep, is_failure}
use Rattle.core_parts.specs.Changes.{AreEachTold, CanAllCome, IsTold, effect_in, facts_of}
use Rattle.reg_core.specs.inner.Removals.{AreEnds, IsEndOf, RadioGoes}
use Rattle.core_parts.specs.declared.change.Change.{Change}
use Rattle.core_parts.specs.declared.change.Change.TheVariants.{Stopped, Powered, Dropped, Ended}
use Rattle.reg_core.specs.declared.core_state.Core.{Core}
use Rattle.reg_journal.proofs.Radios.{profile_used}
use Rattle.core_parts.proofs.Continuing.{Continues, continues_all, continues_twice, keep_up_of, still}
use Rattle.reg_books.proofs.Driven.{place_left}
use Rattle.reg_books.proofs.Following.{as_many}
use Rattle.reg_books.proofs.KeepUp.{KeepUp}
use Rattle.reg_journal.proofs.Listed.{named_listed}
use Rattle.reg_core.proofs.NextJournals.{goes_where_stands}
use Rattle.reg_core.proofs.OneSteps.{step_done, step_of_refusal}
use Rattle.reg_core.proofs.Removed.{ends_facts, ends_housed}
use Rattle.reg_core.proofs.SweepLists.{can_come, effects_alike}

-- ---- interfaces

-- the facts of one interface's end
ends_facts_one : (J : Journal) (x : Iface) (cs : List Change) → AreEnds J (x ∷ []) cs → facts_of cs ≡ facts_of_end J x
ends_facts_one J x cs ends = ends_facts J (x ∷ []) cs ends ∙ append-nil (facts_of_end J x)

-- what comes as the interface of the name ends may come
pub end_can_come : (db : List Domain) (J : Journal) (core : Core) (x : Iface) (cs : List Change) → StandsFor db core J → Contains (ifaces_of J) x → AreEnds J (x ∷ []) cs → CanAllCome db J cs
end_can_come db J core x cs s there ends =
    can_come db J cs
    (subst (λ facts. EachMayFollow db (after facts J)) (sym (ends_facts_one J x cs ends)) (goes_ended db J x (goes_where_stands db J core s) there).due)
    (ends_housed J (x ∷ []) cs ((λ y none same. Contains-nothing y none), tt) ends)

pub iface_gone : (db : List Domain) (J : Journal) (name : List ℕ) (effects : List Effect) (old new : Core) (row row' : List (Option Seen)) → StandsFor db old J
    → IsSomeAnd (named J name) (λ x. IsEndOf db J (x ∷ []) new row row' effects) → OneStep db J (IfaceDel name) old new row row' (Plain Ok effects)
iface_gone db J name effects old new row row' s found =
    let (x, is, end) = at_named J name (λ x. IsEndOf db J (x ∷ []) new row row' effects) found in
    let can = end_can_come db J old x end.changes s (named_listed J name x is) end.ends in
    let housed = ends_housed J (x ∷ []) end.changes ((λ y none same. Contains-nothing y none), tt) end.ends in
    let facts : facts_of end.changes ≡ facts_of_end J x = ends_facts_one J x end.changes end.ends in
    let told : effects ≡ effects_of J (facts_of end.changes) = end.effects_are ∙ effects_alike db J J end.changes s.keeps.due (λ i. refl) housed in
    step_done db J (IfaceDel name) Ok effects (facts_of end.changes) old new row row' s tt refl refl tt
    (inr (free-where _ _ (λ none. none-some x (sym none ∙ is)), rw is (ap (λ es. Plain Ok es) (told ∙ ap (effects_of J) facts), facts))) end.keeps
    (keep_up_of J (after (facts_of end.changes) J) (IfaceDel name) (Plain Ok effects) row row' (λ r before. refl)
    (continues_all db J end.changes row row' s.keeps.due can end.told))

pub iface_stays : (db : List Domain) (J : Journal) (name : List ℕ) (e : Refusal) (old new : Core) (row row' : List (Option Seen)) → StandsFor db old J → LacksIface J name e
    → new ≡ old → row' ≡ row → OneStep db J (IfaceDel name) old new row row' (Plain (Refused e) [])
iface_stays db J name e old new row row' s cause same same' =
    step_of_refusal db J (IfaceDel name) e old new row row' (ap is_failure cause.1) tt ([], inl (e, cause, refl, refl), refl) s same same' (λ r before. refl)

-- ---- the driver of a radio that goes

removed_there : (J : Journal) (r : ℕ) → IsSome (profile_of J r) → is_removed (radio_removed r ∷ J) r ≡ true
removed_there J r there = rw (eq-eqb r r refl, profile_used J r there) refl

removed_other : (J : Journal) (r q : ℕ) → (q ≡ r → ⊥) → is_removed (radio_removed r ∷ J) q ≡ is_removed J q
removed_other J r q other = rw (ne_eqb q r other) refl

-- its place is empty, and the other drivers stay
pub continues_removed : (db : List Domain) (J : Journal) (r : ℕ) (row row' : List (Option Seen)) → EachMayFollow db (radio_removed r ∷ J) → length row ≡ 8 → r < 8
    → row' ≡ set row r None → Continues J (radio_removed r ∷ J) row row'
continues_removed db J r row row' due eight below is = record {
  follows = λ follows. record {
    eight = long;
    each = λ q within. elim (cases_eq q r) [
      | inl same ↦ subst (λ n. option_map (λ (s : Seen). s.air) (driver_at row' n) ≡ (if is_removed (radio_removed r ∷ J) n then None else Some (on_air_of J n))) (sym same)
          (rw (removed_there J r due.0.0, gone) refl)
      | inr other ↦ rw (removed_other J r q other, stays q other) (follows.each q within)
    ];
  };
  driven = λ driven. record {
    eight = long;
    each = λ q within. elim (cases_eq q r) [
      | inl same ↦ subst (λ n. IsDriven (radio_removed r ∷ J) n (driver_at row' n)) (sym same) (subst (IsDriven (radio_removed r ∷ J) r) (sym gone) (removed_there J r due.0.0))
      | inr other ↦ subst (IsDriven (radio_removed r ∷ J) q) (sym (stays q other))
          (place_left db J (radio_removed r ∷ J) q (driver_at row q) due.1 due (removed_other J r q other) (λ i. refl) (driven.each q within))
    ];
  };
  on = λ q s' there. elim (cases_eq q r) [
    | inl same ↦ absurd (none-some s' (sym gone ∙ ap (driver_at row') (sym same) ∙ there))
    | inr other ↦ still (driver_at row q) s' (sym (stays q other) ∙ there)
  ];
}
  where
    long : length row' ≡ 8
    long = ap (λ (xs : List (Option Seen)). length xs) is ∙ length-set row r None ∙ eight

    gone : driver_at row' r ≡ None
    gone = ap (λ xs. driver_at xs r) is ∙ get_or-set_same row r None None (rw eight below)

    stays : (q : ℕ) → (q ≡ r → ⊥) → driver_at row' q ≡ driver_at row q
    stays q other = ap (λ xs. driver_at xs q) is ∙ get_or-set_other row r q None None other

-- ---- radios

after_last : (facts : List Fact) (f : Fact) (J : Journal) → after (facts ++ f ∷ []) J ≡ f ∷ after facts J
after_last [] f J = refl
after_last (g ∷ facts) f J = after_last facts f (g ∷ J)

-- what comes as the radio's interfaces end may come, and the radio may go after it
pub record MayGo (db : List Domain) (J : Journal) (r : ℕ) (cs : List Change) : Type 0 where
  pub can : CanAllCome db J cs
  pub due : EachMayFollow db (radio_removed r ∷ after (facts_of cs) J)

pub may_go : (db : List Domain) (J : Journal) (r : ℕ) (core : Core) (cs : List Change) → StandsFor db core J → IsSome (profile_of J r) → AreEnds J (ifaces_on J r) cs → MayGo db J r cs
may_go db J r core cs s there ends = record {
  can = can_come db J cs due.1 (ends_housed J (ifaces_on J r) cs (ifaces_on_apart db J r s.keeps.due) ends);
  due = due;
}
  where
    due : EachMayFollow db (radio_removed r ∷ after (facts_of cs) J)
    due = subst (λ facts. EachMayFollow db (radio_removed r ∷ after facts J)) (sym (ends_facts J (ifaces_on J r) cs ends))
        (subst (EachMayFollow db) (after_last (flat_map (facts_of_end J) (ifaces_on J r)) (radio_removed r) J) (goes_removal db J r (goes_where_stands db J core s) there).due)

pub radio_gone : (db : List Domain) (J : Journal) (r : ℕ) (effects : List Effect) (old new : Core) (row row' : List (Option Seen)) → r ≤ 7 → length row ≡ 8 → StandsFor db old J
    → RadioGoes db J r new row row' effects → OneStep db J (RadioDel r) old new row row' (Plain Ok effects)
radio_gone db J r effects old new row row' below eight s goes =
    let cs = goes.changes in
    let may = may_go db J r old cs s (there J r goes.free) goes.ends in
    let facts : facts_of cs ++ radio_removed r ∷ [] ≡ facts_of_removal J r = ap (λ fs. fs ++ radio_removed r ∷ []) (ends_facts J (ifaces_on J r) cs goes.ends) in
    let housed = ends_housed J (ifaces_on J r) cs (ifaces_on_apart db J r s.keeps.due) goes.ends in
    let told : effects ≡ effects_of J (facts_of cs ++ radio_removed r ∷ []) =
    goes.effects_are ∙ effects_alike db J J cs s.keeps.due (λ i. refl) housed ∙ sym (append-nil (effects_of J (facts_of cs))) ∙ sym (filter_map-append (effect_of J) (facts_of cs) (radio_removed r ∷ [])) in
    let next : after (facts_of cs ++ radio_removed r ∷ []) J ≡ radio_removed r ∷ after (facts_of cs) J = after_last (facts_of cs) (radio_removed r) J in
    let still_eight = told_eight cs row goes.between goes.told ∙ eight in
    step_done db J (RadioDel r) Ok effects (facts_of cs ++ radio_removed r ∷ []) old new row row' s tt refl refl tt
    (inr (goes.free, (ap (λ es. Plain Ok es) (told ∙ ap (effects_of J) facts), facts))) (subst (Keeps db new) (sym next) goes.keeps)
    (subst (λ K. KeepUp J K (RadioDel r) (Plain Ok effects) row row') (sym next)
    (keep_up_of J (radio_removed r ∷ after (facts_of cs) J) (RadioDel r) (Plain Ok effects) row row' (λ r before. refl)
    (continues_twice J (after (facts_of cs) J) (radio_removed r ∷ after (facts_of cs) J) row goes.between row' (continues_all db J cs row goes.between s.keeps.due may.can goes.told)
    (continues_removed db (after (facts_of cs) J) r goes.between row' may.due still_eight (omega (arith, below)) goes.dropped))))
  where
    one_eight : (c : Change) (row row' : List (Option Seen)) → IsTold c row row' → length row' ≡ length row
    one_eight (Stopped p) row row' told = as_many p.radio _ row row' told
    one_eight (Powered p power) row row' told = as_many p.radio _ row row' told
    one_eight (Dropped p) row row' told = as_many p.radio _ row row' told
    one_eight (Ended p) row row' told = ap (λ (xs : List (Option Seen)). length xs) told

    told_eight : (cs : List Change) (row row' : List (Option Seen)) → AreEachTold cs row row' → length row' ≡ length row
    told_eight [] row row' told = ap (λ (xs : List (Option Seen)). length xs) told
    told_eight (c ∷ cs) row row' (between, told, rest) = told_eight cs between row' rest ∙ one_eight c row between told

pub radio_stays : (db : List Domain) (J : Journal) (r : ℕ) (e : Refusal) (old new : Core) (row row' : List (Option Seen)) → StandsFor db old J → LacksRadio J r e
    → new ≡ old → row' ≡ row → OneStep db J (RadioDel r) old new row row' (Plain (Refused e) [])
radio_stays db J r e old new row row' s cause same same' =
    step_of_refusal db J (RadioDel r) e old new row row' (ap is_failure cause.1) tt ([], inl (e, cause, refl, refl), refl) s same same' (λ r before. refl)

-- ---- what the core did

pub ended_named : (db : List Domain) (J : Journal) (name : List ℕ) (cs taken told : List Change) (old new : Core) (row row' : List (Option Seen)) (effects : List Effect) → StandsFor db old J
    → IsSomeAnd (named J name) (λ x. AreEnds J (x ∷ []) cs) → taken ≡ cs → told ≡ cs → (Keeps db old J → CanAllCome db J taken → Keeps db new (after (facts_of taken) J)) → AreEachTold taken row row'
    → effects ≡ filter_map effect_in told → IsSomeAnd (named J name) (λ x. IsEndOf db J (x ∷ []) new row row' effects)
ended_named db J name cs taken told old new row row' effects s found is_taken is_told keeps tells are = by (named J name) refl found
  where
    by : (o : Option Iface) → named J name ≡ o → IsSomeAnd o (λ x. AreEnds J (x ∷ []) cs) → IsSomeAnd o (λ x. IsEndOf db J (x ∷ []) new row row' effects)
    by None is never = absurd never
    by (Some x) is ends = record {
      changes = cs;
      ends = ends;
      keeps = subst (λ ds. Keeps db new (after (facts_of ds) J)) is_taken (keeps s.keeps (subst (CanAllCome db J) (sym is_taken) (end_can_come db J old x cs s (named_listed J name x is) ends)));
      told = subst (λ ds. AreEachTold ds row row') is_taken tells;
      effects_are = are ∙ ap (filter_map effect_in) is_told;
    }

pub radio_goes : (db : List Domain) (J : Journal) (r : ℕ) (cs taken told : List Change) (old mid new : Core) (row between row' : List (Option Seen)) (effects : List Effect) → StandsFor db old J
    → IsFree (LacksRadio J r) × AreEnds J (ifaces_on J r) cs → taken ≡ cs → told ≡ cs → (Keeps db old J → CanAllCome db J taken → Keeps db mid (after (facts_of taken) J)) → AreEachTold taken row between
    → ((K : Journal) → Keeps db mid K → EachMayFollow db (radio_removed r ∷ K) → Keeps db new (radio_removed r ∷ K)) → row' ≡ set between r None
    → effects ≡ filter_map effect_in told → RadioGoes db J r new row row' effects
radio_goes db J r cs taken told old mid new row between row' effects s (free, ends) is_taken is_told keeps tells removed dropped are =
    let may = may_go db J r old cs s (there J r free) ends in
    record {
      free = free;
      changes = cs;
      ends = ends;
      keeps = removed (after (facts_of cs) J) (subst (λ ds. Keeps db mid (after (facts_of ds) J)) is_taken (keeps s.keeps (subst (CanAllCome db J) (sym is_taken) may.can))) may.due;
      between = between;
      told = subst (λ ds. AreEachTold ds row between) is_taken tells;
      dropped = dropped;
      effects_are = are ∙ ap (filter_map effect_in) is_told;
    }
