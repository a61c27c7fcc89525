-- What is kept and what may come after a new type or a new power setting.
use Rattle.std.proofs.Common.{◌≡◌, ◌≢◌, ◌⊎◌, ℕ, ◌^◌, ◌<◌, List, ◌∷◌, map, Option, Some, None, IsSome, IsSomeAnd, is_some, refl, sym, ap, subst, ◌∙◌, inl, inr, eq-eqb, ne_eqb}
use Rattle.std.proofs.lemmas.Bool.{cases_eq}
use Rattle.rule_tables.specs.declared.domain.Domain.{Domain}
use Rattle.chan_def.specs.declared.definition.ChanDef.{ChanDef}
use Rattle.chan_def.specs.declared.kind.Kind.{Kind}
use Rattle.chan_flags.specs.declared.verdict.PowerSetting.{PowerSetting}
use Rattle.reg_journal.specs.Causes.{◌before◌, IsFree}
use Rattle.reg_journal.specs.Due.{EachMayFollow, MayFollow}
use Rattle.reg_journal.specs.Facts.{Journal, powered, set_to, typed}
use Rattle.reg_journal.specs.Granted.{IsPermitted}
use Rattle.reg_journal.specs.Permits.{EndsOperation, IsPowerOf, LacksCheck, PassesLimit, RadarForbids, RadioForbids, RulesForbid}
use Rattle.reg_journal.specs.Present.{Iface, Operation, ifaces_of, named, operation_of, with_kind, with_setting}
use Rattle.reg_journal.specs.Refusals.{IsInUse, LacksIface, SetPowerCauses, SetTypeCauses}
use Rattle.reg_journal.specs.declared.refusal.Refusal.{Refusal}
use Rattle.reg_journal.specs.declared.refusal.Refusal.TheVariants.{Busy}
use Rattle.reg_journal.proofs.Granting.{free-before, free-where, free_of_permitted, power_of_permitted}
use Rattle.reg_journal.proofs.Judged.{settled_operation}
use Rattle.reg_journal.proofs.Permitting.{free-first, free-next}
use Rattle.reg_journal.proofs.PowersGo.{setting_here}
use Rattle.reg_journal.proofs.Regular.{is_none}
use Rattle.reg_journal.proofs.Swept.{permitted_power_fits}
use Rattle.reg_core.specs.Kept.{Keeps, StandsFor}
use Rattle.core_parts.specs.Interfaces.{with_interface_kind, with_interface_setting}
use Rattle.core_parts.specs.Kept.{interfaces_of, kept, kept_operation}
use Rattle.core_parts.specs.Changes.{IsInterfaceOf}
use Rattle.core_parts.specs.Repowering.{repowered}
use Rattle.reg_core.specs.inner.Settings.{MaySet, Retypes}
use Rattle.core_parts.specs.declared.change.Change.TheVariants.{Powered}
use Rattle.reg_core.specs.declared.core_state.Core.{Core}
use Rattle.core_parts.specs.declared.interface.Interface.{Interface}
use Rattle.core_parts.specs.declared.interface.Running.{Running}
use Rattle.reg_core.proofs.KeptChanges.{interface_of_kept, keeps_after}
use Rattle.core_parts.proofs.KeptInterfaces.{map-listed, map-map}
use Rattle.reg_journal.proofs.Listed.{indexed_listed, named_listed}
use Rattle.reg_core.proofs.SweepJudged.{no_operation_read}
use Rattle.core_parts.proofs.Unchanged.{KeepsRadios-spared}

-- ---- types

interfaces_of-typed : (J : Journal) (i : ℕ) (kind : Kind) → map (with_interface_kind i kind) (interfaces_of J) ≡ interfaces_of (typed i kind ∷ J)
interfaces_of-typed J i kind =
    map-map _ (kept J) (ifaces_of J) ∙ map-listed _ _ (ifaces_of J) (λ x has. one x) ∙ sym (map-map (kept (typed i kind ∷ J)) (with_kind i kind) (ifaces_of J))
  where
    one : (x : Iface) → with_interface_kind i kind (kept J x) ≡ kept (typed i kind ∷ J) (with_kind i kind x)
    one x = elim (cases_eq x.index i) [ inl same ↦ rw (eq-eqb x.index i same) refl | inr other ↦ rw (ne_eqb x.index i other) refl ]

pub keeps_after_typing : (db : List Domain) (J : Journal) (i : ℕ) (kind : Kind) (core : Core) (interfaces : List Interface) → Keeps db core J → EachMayFollow db (typed i kind ∷ J)
    → interfaces ≡ map (with_interface_kind i kind) core.interfaces → Keeps db (record core { interfaces = interfaces }) (typed i kind ∷ J)
keeps_after_typing db J i kind core interfaces s due changed =
    keeps_after db J (typed i kind) core interfaces core.radios tt s due (KeepsRadios-spared db J (typed i kind) core.radios (λ r. tt) s.radios)
    (changed ∙ ap (map (with_interface_kind i kind)) s.interfaces ∙ interfaces_of-typed J i kind)

-- why the interface of the name keeps its type
pub type_unnamed : (J : Journal) (name : List ℕ) (e : Refusal) → LacksIface J name e → SetTypeCauses J name e
type_unnamed J name e lacks = inl lacks

pub type_barred : (J : Journal) (name : List ℕ) (x : Iface) → named J name ≡ Some x → IsInUse J x → SetTypeCauses J name Busy
type_barred J name x is used = inr (free-where _ _ (λ none. absurd (cc (is, none))), rw is (used, refl))

type_free : (J : Journal) (name : List ℕ) (x : Iface) → named J name ≡ Some x → (IsInUse J x → ⊥) → IsFree (SetTypeCauses J name)
type_free J name x is rests = free-before _ _ (free-where _ _ (λ none. absurd (cc (is, none)))) (λ e cause. free-where _ _ rests e (rw is at cause))

pub retyped : (db : List Domain) (J : Journal) (name : List ℕ) (kind : Kind) (i : ℕ) (old new : Core) → Keeps db old J → IsSomeAnd (named J name) (λ x. (i ≡ x.index) × (IsInUse J x → ⊥))
    → (Keeps db old J → EachMayFollow db (typed i kind ∷ J) → Keeps db new (typed i kind ∷ J)) → Retypes db J name kind new
retyped db J name kind i old new s found changed = by (named J name) refl found
  where
    by : (o : Option Iface) → named J name ≡ o → IsSomeAnd o (λ x. (i ≡ x.index) × (IsInUse J x → ⊥)) → Retypes db J name kind new
    by None is never = absurd never
    by (Some x) is (same, rests) = record {
      iface = x;
      is_named = is;
      free = type_free J name x is rests;
      keeps = subst (λ n. Keeps db new (typed n kind ∷ J)) same (changed s (subst (λ n. EachMayFollow db (typed n kind ∷ J)) (sym same) (
        (ap is_some (indexed_listed db J x s.due (named_listed J name x is)), is_none _ (λ operates. rests (inl operates)), is_none _ (λ checks. rests (inr checks))),
        s.due,
      )));
    }

-- ---- power settings

interfaces_of-set : (J : Journal) (i : ℕ) (setting : PowerSetting) → map (with_interface_setting i setting) (interfaces_of J) ≡ interfaces_of (set_to i setting ∷ J)
interfaces_of-set J i setting =
    map-map _ (kept J) (ifaces_of J) ∙ map-listed _ _ (ifaces_of J) (λ x has. one x) ∙ sym (map-map (kept (set_to i setting ∷ J)) (with_setting i setting) (ifaces_of J))
  where
    one : (x : Iface) → with_interface_setting i setting (kept J x) ≡ kept (set_to i setting ∷ J) (with_setting i setting x)
    one x = elim (cases_eq x.index i) [ inl same ↦ rw (eq-eqb x.index i same) refl | inr other ↦ rw (ne_eqb x.index i other) refl ]

pub keeps_after_setting : (db : List Domain) (J : Journal) (i : ℕ) (setting : PowerSetting) (core : Core) (interfaces : List Interface) → Keeps db core J
    → EachMayFollow db (set_to i setting ∷ J) → interfaces ≡ map (with_interface_setting i setting) core.interfaces
    → Keeps db (record core { interfaces = interfaces }) (set_to i setting ∷ J)
keeps_after_setting db J i setting core interfaces s due changed =
    keeps_after db J (set_to i setting) core interfaces core.radios tt s due (KeepsRadios-spared db J (set_to i setting) core.radios (λ r. tt) s.radios)
    (changed ∙ ap (map (with_interface_setting i setting)) s.interfaces ∙ interfaces_of-set J i setting)

-- the limit doesn't depend on the setting
passed_with : (db : List Domain) (J : Journal) (x : Iface) (setting : PowerSetting) (c : ChanDef) (e : Refusal) → PassesLimit db J (record x { setting = setting }) setting c e
    → PassesLimit db J x setting c e
passed_with db J x setting c e (limit, is, above, same) = (limit, record { radio = is.radio; rules = is.rules; least = is.least }, above, same)

passes_with : (db : List Domain) (J : Journal) (x : Iface) (setting : PowerSetting) (c : ChanDef) (e : Refusal) → PassesLimit db J x setting c e
    → PassesLimit db J (record x { setting = setting }) setting c e
passes_with db J x setting c e (limit, is, above, same) = (limit, record { radio = is.radio; rules = is.rules; least = is.least }, above, same)

after_limit : (db : List Domain) (J : Journal) (x : Iface) (c : ChanDef) → IsFree (EndsOperation db J x c) → IsFree (RadarForbids db J x c before LacksCheck db J x c)
after_limit db J x c free =
    free-next (PassesLimit db J x x.setting c) _ (free-next (RulesForbid db J x c) _ (free-next (RadioForbids db J x c) _ free))

-- what ends a permitted operation with another setting is the limit
limit_passed : (db : List Domain) (J : Journal) (x : Iface) (setting : PowerSetting) (c : ChanDef) (e : Refusal) → IsFree (EndsOperation db J x c)
    → EndsOperation db J (record x { setting = setting }) c e → PassesLimit db J x setting c e
limit_passed db J x setting c e free (inl radio) = absurd (free-first (RadioForbids db J x c) _ free e radio)
limit_passed db J x setting c e free (inr (f1, inl rules)) =
    absurd (free-first (RulesForbid db J x c) _ (free-next (RadioForbids db J x c) _ free) e rules)
limit_passed db J x setting c e free (inr (f1, inr (f2, inl passes))) = passed_with db J x setting c e passes
limit_passed db J x setting c e free (inr (f1, inr (f2, inr (f3, inl radar)))) =
    absurd (free-first (RadarForbids db J x c) _ (after_limit db J x c free) e radar)
limit_passed db J x setting c e free (inr (f1, inr (f2, inr (f3, inr (f4, unchecked))))) =
    absurd (free-next (RadarForbids db J x c) _ (after_limit db J x c free) e unchecked)

-- why the setting is refused
pub setting_unnamed : (db : List Domain) (J : Journal) (name : List ℕ) (setting : PowerSetting) (e : Refusal) → LacksIface J name e → SetPowerCauses db J name setting e
setting_unnamed db J name setting e lacks = inl lacks

setting_barred : (db : List Domain) (J : Journal) (name : List ℕ) (setting : PowerSetting) (x : Iface) (o : Operation) (e : Refusal) → named J name ≡ Some x → operation_of J x.index ≡ Some o
    → PassesLimit db J x setting o.chan e → SetPowerCauses db J name setting e
setting_barred db J name setting x o e is here passes = inr (free-where _ _ (λ none. absurd (cc (is, none))), rw is (rw here passes))

-- an operation that goes on is ended by the limit alone
pub barred_by_limit : (db : List Domain) (J : Journal) (core : Core) (name : List ℕ) (setting : PowerSetting) (x : Iface) (o : Operation) (e : Refusal) → StandsFor db core J → named J name ≡ Some x
    → operation_of J x.index ≡ Some o → EndsOperation db J (record x { setting = setting }) o.chan e → SetPowerCauses db J name setting e
barred_by_limit db J core name setting x o e s is here ends =
    setting_barred db J name setting x o e is here
    (limit_passed db J x setting o.chan e (free_of_permitted db J x o.chan o.power (settled_operation db J x o here (s.settled x (named_listed J name x is)))) ends)

-- where it is permitted with the setting, nothing speaks against it
setting_free : (db : List Domain) (J : Journal) (name : List ℕ) (setting : PowerSetting) (x : Iface) (o : Operation) → named J name ≡ Some x → operation_of J x.index ≡ Some o
    → IsFree (PassesLimit db J x setting o.chan) → IsFree (SetPowerCauses db J name setting)
setting_free db J name setting x o is here free =
    free-before _ _ (free-where _ _ (λ none. absurd (cc (is, none)))) (λ e cause. let on = rw is at cause in free e (rw here at on))

-- and where nothing operates
setting_free_at_rest : (db : List Domain) (J : Journal) (name : List ℕ) (setting : PowerSetting) (x : Iface) → named J name ≡ Some x → operation_of J x.index ≡ None
    → IsFree (SetPowerCauses db J name setting)
setting_free_at_rest db J name setting x is none =
    free-before _ _ (free-where _ _ (λ missing. absurd (cc (is, missing)))) (λ e cause. let on = rw is at cause in let never = rw none at on in absurd never)

pub may_set_at_rest : (db : List Domain) (J : Journal) (name : List ℕ) (setting : PowerSetting) (x : Iface) (p : Interface) → named J name ≡ Some x → p ≡ kept J x → p.operation ≡ None
    → MaySet db J name setting p.index None
may_set_at_rest db J name setting x p is kept_is has =
    let none = no_operation_read J x p kept_is has in
    record {
      iface = x;
      is_named = is;
      index_is = ap (λ (q : Interface). q.index) kept_is;
      free = setting_free_at_rest db J name setting x is none;
      repowers = rw none refl;
    }

pub may_set : (db : List Domain) (J : Journal) (name : List ℕ) (setting : PowerSetting) (x : Iface) (p : Interface) (running : Running) (o : Operation) (power : ℕ) → named J name ≡ Some x
    → EachMayFollow db J → p ≡ kept J x → operation_of J x.index ≡ Some o → running ≡ kept_operation o → IsPermitted db J (record x { setting = setting }) o.chan power
    → MaySet db J name setting p.index (repowered p running power)
may_set db J name setting x p running o power is due kept_is here same may = record {
  iface = x;
  is_named = is;
  index_is = ap (λ (q : Interface). q.index) kept_is;
  free = setting_free db J name setting x o is here within;
  repowers = rw here (
    power,
    subst (λ y. IsPowerOf db J y o.chan power) (sym (setting_here x.index setting x refl)) (power_of_permitted db J (record x { setting = setting }) o.chan power may),
    change,
  );
}
  where
    y : Iface
    y = record x { setting = setting }

    within : IsFree (PassesLimit db J x setting o.chan)
    within e passes =
        free-first (PassesLimit db J y setting o.chan) _ (free-next (RulesForbid db J y o.chan) _ (free-next (RadioForbids db J y o.chan) _ (free_of_permitted db J y o.chan power may))) e
        (passes_with db J x setting o.chan e passes)

    small : power < 2 ^ 16
    small = permitted_power_fits db J (record x { setting = setting }) o.chan power due may

    its_power : running.power_mbm ≡ o.power
    its_power = ap (λ (r : Running). r.power_mbm) same

    change : ((power ≡ o.power) × (repowered p running power ≡ None))
        ⊎ ((power ≢ o.power) × ((q : Interface) × IsInterfaceOf J x q × (repowered p running power ≡ Some (Powered q power)) × MayFollow db J (powered q.index power)))
    change = elim (cases_eq running.power_mbm power) [
      | inl equal ↦ inl (sym equal ∙ its_power, rw (eq-eqb running.power_mbm power equal) refl)
      | inr other ↦ inr (
        (λ equal. other (its_power ∙ sym equal)),
        (
          p,
          interface_of_kept J x p (named_listed J name x is) kept_is,
          rw (ne_eqb running.power_mbm power other) refl,
          (subst (λ n. IsSome (operation_of J n)) (sym (ap (λ (q : Interface). q.index) kept_is)) (ap is_some here), small),
        ),
      )
    ]
