-- From a new type or a new power setting to one step.
use Rattle.std.proofs.Common.{◌≡◌, ◌≢◌, ◌⊎◌, ℕ, false, List, [], ◌∷◌, map, Contains, Option, Some, None, IsSomeAnd, MatchOption, is_some, arith, refl, sym, ap, subst, ◌∙◌, inl, inr}
use Rattle.std.specs.List.{filter_map}
use Rattle.std.specs.Option.{option_to_list}
use Rattle.std.proofs.lemmas.List.{get_or-map, length-map}
use Rattle.rule_tables.specs.declared.domain.Domain.{Domain}
use Rattle.chan_def.specs.declared.kind.Kind.{Kind}
use Rattle.chan_flags.specs.declared.verdict.PowerSetting.{PowerSetting}
use Rattle.radio_drv.specs.Seen.{Seen}
use Rattle.reg_journal.specs.Causes.{IsFree, Where}
use Rattle.reg_journal.specs.Due.{EachMayFollow, MayFollow}
use Rattle.reg_journal.specs.Effects.{effects_of}
use Rattle.reg_journal.specs.Facts.{Journal, after, powered, set_to, typed}
use Rattle.reg_journal.specs.Permits.{IsPowerOf, PassesLimit}
use Rattle.reg_journal.specs.Present.{Iface, Operation, ifaces_of, named, operation_of, with_setting}
use Rattle.reg_journal.specs.Refusals.{IsInUse, SetPowerCauses, SetTypeCauses}
use Rattle.reg_journal.specs.Replies.{SetsPower}
use Rattle.reg_journal.specs.declared.effects.Effect.{Effect}
use Rattle.reg_journal.specs.declared.refusal.Refusal.{Refusal}
use Rattle.reg_journal.specs.declared.refusal.Refusal.TheVariants.{Busy}
use Rattle.reg_journal.specs.declared.reply.Answer.TheVariants.{Ok, Refused}
use Rattle.reg_journal.specs.declared.reply.Reply.TheVariants.{Plain}
use Rattle.reg_journal.specs.declared.request.Request.TheVariants.{SetPower, SetType}
use Rattle.reg_journal.proofs.PowersGo.{setting_here}
use Rattle.reg_core.specs.Kept.{Keeps, StandsFor}
use Rattle.reg_core.specs.Stepping.{OneStep, is_failure}
use Rattle.core_parts.specs.Changes.{AreEachTold, CanAllCome, IsInterfaceOf, effect_in, facts_of}
use Rattle.reg_core.specs.inner.Settings.{MaySet, Retypes, SetsPowerOf}
use Rattle.core_parts.specs.declared.change.Change.{Change}
use Rattle.core_parts.specs.declared.change.Change.TheVariants.{Powered}
use Rattle.reg_core.specs.declared.core_state.Core.{Core}
use Rattle.core_parts.specs.declared.interface.Interface.{Interface}
use Rattle.core_parts.proofs.Continuing.{continues_all, continues_left, continues_twice, keep_up_of}
use Rattle.reg_journal.proofs.Listed.{indexed_listed, named_listed}
use Rattle.reg_core.proofs.OneSteps.{step_done, step_of_fact, step_of_refusal}
use Rattle.reg_core.proofs.SweepLists.{AreHoused, due_before, effects_alike}

-- ---- types

pub type_taken : (db : List Domain) (J : Journal) (name : List ℕ) (kind : Kind) (old new : Core) (row : List (Option Seen)) → StandsFor db old J → Retypes db J name kind new
    → OneStep db J (SetType name kind) old new row row (Plain Ok [])
type_taken db J name kind old new row s is =
    step_of_fact db J (SetType name kind) (typed is.iface.index kind) Ok old new row s tt refl refl tt (inr (is.free, rw is.is_named (refl, refl))) is.keeps refl (λ r before. refl)

pub type_refused : (db : List Domain) (J : Journal) (name : List ℕ) (kind : Kind) (e : Refusal) (old new : Core) (row : List (Option Seen)) → StandsFor db old J
    → SetTypeCauses J name e → new ≡ old → OneStep db J (SetType name kind) old new row row (Plain (Refused e) [])
type_refused db J name kind e old new row s cause same =
    step_of_refusal db J (SetType name kind) e old new row row (none cause) tt ([], inl (e, cause, refl, refl), refl) s same refl (λ r before. refl)
  where
    on_one : (o : Option Iface) → IsSomeAnd o (λ x. Where (IsInUse J x) Busy e) → is_failure e ≡ false
    on_one None never = absurd never
    on_one (Some x) busy = ap is_failure busy.1

    none : SetTypeCauses J name e → is_failure e ≡ false
    none (inl lacks) = ap is_failure lacks.1
    none (inr (f1, busy)) = on_one (named J name) busy

-- ---- power settings

-- with what becomes of the operation, if anything does
set_step : (db : List Domain) (J : Journal) (name : List ℕ) (setting : PowerSetting) (x : Iface) (cs : List Change) (effects : List Effect) (old new : Core) (row row' : List (Option Seen))
    → StandsFor db old J → named J name ≡ Some x → IsFree (SetPowerCauses db J name setting) → AreHoused J cs → CanAllCome db (set_to x.index setting ∷ J) cs
    → SetsPower db J setting x (Plain Ok (effects_of J (facts_of cs))) (set_to x.index setting ∷ facts_of cs) → Keeps db new (after (facts_of cs) (set_to x.index setting ∷ J))
    → AreEachTold cs row row' → effects ≡ filter_map effect_in cs → OneStep db J (SetPower name setting) old new row row' (Plain Ok effects)
set_step db J name setting x cs effects old new row row' s is free housed can sets keeps told are =
    let K : Journal = set_to x.index setting ∷ J in
    let due = due_before db (facts_of cs) K keeps.due in
    let alike : effects ≡ effects_of J (facts_of cs) = are ∙ effects_alike db J J cs s.keeps.due (λ i. refl) housed in
    subst (λ es. OneStep db J (SetPower name setting) old new row row' (Plain Ok es)) (sym alike)
    (step_done db J (SetPower name setting) Ok (effects_of J (facts_of cs)) (set_to x.index setting ∷ facts_of cs) old new row row' s tt refl refl tt (inr (free, rw is sets)) keeps
    (keep_up_of J (after (facts_of cs) K) (SetPower name setting) (Plain Ok (effects_of J (facts_of cs))) row row' (λ r before. refl)
    (continues_twice J K (after (facts_of cs) K) row row row' (continues_left db J (set_to x.index setting) row due refl) (continues_all db K cs row row' due can told))))

in_mapped : (g : Iface → Iface) (xs : List Iface) (x : Iface) → Contains xs x → Contains (map g xs) (g x)
in_mapped g xs x (k, within, here) = (k, (let len = length-map xs g in omega (arith, len, within)), get_or-map g xs k x (g x) within ∙ ap g here)

-- the interface is there with the setting too
with_setting_there : (J : Journal) (x : Iface) (setting : PowerSetting) (p : Interface) → IsInterfaceOf J x p → IsInterfaceOf (set_to x.index setting ∷ J) (record x { setting = setting }) p
with_setting_there J x setting p is = record {
  there = subst (Contains (map (with_setting x.index setting) (ifaces_of J))) (setting_here x.index setting x refl) (in_mapped (with_setting x.index setting) (ifaces_of J) x is.there);
  index = is.index;
  name = is.name;
  radio = is.radio;
  slot = is.slot;
  kind = is.kind;
}

-- the power of the operation, if there is one, is as before
set_quietly : (db : List Domain) (J : Journal) (name : List ℕ) (setting : PowerSetting) (x : Iface) (change : Option Change) (effects : List Effect) (old new : Core) (row row' : List (Option Seen))
    → StandsFor db old J → named J name ≡ Some x → IsFree (SetPowerCauses db J name setting) → change ≡ None
    → SetsPower db J setting x (Plain Ok []) (set_to x.index setting ∷ []) → Keeps db new (after (facts_of (option_to_list change)) (set_to x.index setting ∷ J))
    → AreEachTold (option_to_list change) row row' → effects ≡ filter_map effect_in (option_to_list change) → OneStep db J (SetPower name setting) old new row row' (Plain Ok effects)
set_quietly db J name setting x change effects old new row row' s is free none sets keeps told are =
    set_step db J name setting x [] effects old new row row' s is free tt tt sets
    (subst (λ c. Keeps db new (after (facts_of (option_to_list c)) (set_to x.index setting ∷ J))) none keeps)
    (subst (λ c. AreEachTold (option_to_list c) row row') none told)
    (are ∙ ap (λ c. filter_map effect_in (option_to_list c)) none)

-- the operation goes on with another power
set_anew : (db : List Domain) (J : Journal) (name : List ℕ) (setting : PowerSetting) (x : Iface) (change : Option Change) (p : Interface) (power : ℕ) (effects : List Effect) (old new : Core)
    (row row' : List (Option Seen))
    → StandsFor db old J → named J name ≡ Some x → IsFree (SetPowerCauses db J name setting) → IsInterfaceOf J x p → change ≡ Some (Powered p power) → MayFollow db J (powered p.index power)
    → SetsPower db J setting x (Plain Ok (effects_of J (powered p.index power ∷ []))) (set_to x.index setting ∷ powered p.index power ∷ [])
    → Keeps db new (after (facts_of (option_to_list change)) (set_to x.index setting ∷ J))
    → AreEachTold (option_to_list change) row row' → effects ≡ filter_map effect_in (option_to_list change) → OneStep db J (SetPower name setting) old new row row' (Plain Ok effects)
set_anew db J name setting x change p power effects old new row row' s is free its comes may sets keeps told are =
    set_step db J name setting x (Powered p power ∷ []) effects old new row row' s is free ((x, its), tt, tt)
    (may, (record x { setting = setting }, with_setting_there J x setting p its), tt) sets
    (subst (λ c. Keeps db new (after (facts_of (option_to_list c)) (set_to x.index setting ∷ J))) comes keeps)
    (subst (λ c. AreEachTold (option_to_list c) row row') comes told)
    (are ∙ ap (λ c. filter_map effect_in (option_to_list c)) comes)

pub power_set : (db : List Domain) (J : Journal) (name : List ℕ) (setting : PowerSetting) (effects : List Effect) (old new : Core) (row row' : List (Option Seen)) → StandsFor db old J
    → SetsPowerOf db J name setting new row row' effects → OneStep db J (SetPower name setting) old new row row' (Plain Ok effects)
power_set db J name setting effects old new row row' s set = by (operation_of J x.index) refl set.repowers
  where
    x : Iface
    x = set.iface

    by : (o : Option Operation) → operation_of J x.index ≡ o
        → MatchOption o (set.change ≡ None) (λ o. (power : ℕ) × IsPowerOf db J (with_setting x.index setting x) o.chan power
        × (((power ≡ o.power) × (set.change ≡ None))
        ⊎ ((power ≢ o.power) × ((p : Interface) × IsInterfaceOf J x p × (set.change ≡ Some (Powered p power)) × MayFollow db J (powered p.index power)))))
        → OneStep db J (SetPower name setting) old new row row' (Plain Ok effects)
    by None none quiet =
        set_quietly db J name setting x set.change effects old new row row' s set.is_named set.free quiet (rw none (refl, refl)) set.keeps set.told set.effects_are
    by (Some o) here (power, is_power, inl (same, quiet)) =
        set_quietly db J name setting x set.change effects old new row row' s set.is_named set.free quiet (rw here (power, is_power, inl (same, (refl, refl)))) set.keeps set.told set.effects_are
    by (Some o) here (power, is_power, inr (other, (p, its, comes, may))) =
        set_anew db J name setting x set.change p power effects old new row row' s set.is_named set.free its comes may
        (rw here (
          power,
          is_power,
          inr (
            other,
            (
              ap (λ i. Plain Ok (effects_of J (set_to x.index setting ∷ powered i power ∷ []))) its.index,
              ap (λ i. set_to x.index setting ∷ powered i power ∷ []) its.index,
            ),
          ),
        )) set.keeps set.told set.effects_are

pub power_refused : (db : List Domain) (J : Journal) (name : List ℕ) (setting : PowerSetting) (e : Refusal) (old new : Core) (row row' : List (Option Seen)) → StandsFor db old J
    → SetPowerCauses db J name setting e → new ≡ old → row' ≡ row → OneStep db J (SetPower name setting) old new row row' (Plain (Refused e) [])
power_refused db J name setting e old new row row' s cause same same' =
    step_of_refusal db J (SetPower name setting) e old new row row' (none cause) tt ([], inl (e, cause, refl, refl), refl) s same same' (λ r before. refl)
  where
    on_running : (x : Iface) (o : Option Operation) → IsSomeAnd o (λ o. PassesLimit db J x setting o.chan e) → is_failure e ≡ false
    on_running x None never = absurd never
    on_running x (Some o) (limit, is_limit, above, same) = ap is_failure same

    on_one : (o : Option Iface) → IsSomeAnd o (λ x. IsSomeAnd (operation_of J x.index) (λ o. PassesLimit db J x setting o.chan e)) → is_failure e ≡ false
    on_one None never = absurd never
    on_one (Some x) passes = on_running x (operation_of J x.index) passes

    none : SetPowerCauses db J name setting e → is_failure e ≡ false
    none (inl lacks) = ap is_failure lacks.1
    none (inr (f1, passes)) = on_one (named J name) passes

-- ---- what the core did

pub set_whole : (db : List Domain) (J : Journal) (name : List ℕ) (setting : PowerSetting) (i : ℕ) (change : Option Change) (cs taken told : List Change) (old mid new : Core) (row row' : List (Option Seen))
    (effects : List Effect) → StandsFor db old J → MaySet db J name setting i change
    → (Keeps db old J → EachMayFollow db (set_to i setting ∷ J) → Keeps db mid (set_to i setting ∷ J)) → cs ≡ option_to_list change → taken ≡ cs → told ≡ cs
    → ((K : Journal) → Keeps db mid K → CanAllCome db K taken → Keeps db new (after (facts_of taken) K)) → AreEachTold taken row row' → effects ≡ filter_map effect_in told
    → SetsPowerOf db J name setting new row row' effects
set_whole db J name setting i change cs taken told old mid new row row' effects s may set is_change is_taken is_told keeps tells are =
    let x = may.iface in
    let there = named_listed J name x may.is_named in
    let all : taken ≡ option_to_list change = is_taken ∙ is_change in
    let first : Keeps db mid (set_to x.index setting ∷ J) =
    subst (λ n. Keeps db mid (set_to n setting ∷ J)) may.index_is
    (set s.keeps (subst (λ n. EachMayFollow db (set_to n setting ∷ J)) (sym may.index_is) (ap is_some (indexed_listed db J x s.keeps.due there), s.keeps.due))) in
    record {
      iface = x;
      is_named = may.is_named;
      free = may.free;
      change = change;
      repowers = may.repowers;
      keeps = subst (λ ds. Keeps db new (after (facts_of ds) (set_to x.index setting ∷ J))) all
          (keeps (set_to x.index setting ∷ J) first (subst (CanAllCome db (set_to x.index setting ∷ J)) (sym all) (can_repower (operation_of J x.index) may.repowers)));
      told = subst (λ ds. AreEachTold ds row row') all tells;
      effects_are = are ∙ ap (filter_map effect_in) (is_told ∙ is_change);
    }
  where
    can_repower : (o : Option Operation)
        → MatchOption o (change ≡ None) (λ o. (power : ℕ) × IsPowerOf db J (with_setting may.iface.index setting may.iface) o.chan power
        × (((power ≡ o.power) × (change ≡ None))
        ⊎ ((power ≢ o.power) × ((p : Interface) × IsInterfaceOf J may.iface p × (change ≡ Some (Powered p power)) × MayFollow db J (powered p.index power)))))
        → CanAllCome db (set_to may.iface.index setting ∷ J) (option_to_list change)
    can_repower None none = subst (λ c. CanAllCome db (set_to may.iface.index setting ∷ J) (option_to_list c)) (sym none) tt
    can_repower (Some o) (power, is_power, inl (same, none)) = subst (λ c. CanAllCome db (set_to may.iface.index setting ∷ J) (option_to_list c)) (sym none) tt
    can_repower (Some o) (power, is_power, inr (other, (p, its, comes, fits))) =
        subst (λ c. CanAllCome db (set_to may.iface.index setting ∷ J) (option_to_list c)) (sym comes)
        (fits, (record may.iface { setting = setting }, with_setting_there J may.iface setting p its), tt)
