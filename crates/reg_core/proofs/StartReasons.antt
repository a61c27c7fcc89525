-- Why an operation doesn't start or stop, in order.
use Rattle.std.proofs.Common.{◌≡◌, ◌≢◌, ◌↔◌, ◌⊎◌, ℕ, Bool, true, false, List, Option, Some, None, IsSome, IsSomeAnd, IsTrue, Contains, is_some, refl, sym, ap, subst, ◌∙◌, inl, inr}
use Rattle.std.proofs.lemmas.Bool.{false≢true}
use Rattle.rule_tables.specs.declared.domain.Domain.{Domain}
use Rattle.chan_def.specs.Covered.{IsValidDef}
use Rattle.chan_def.specs.declared.definition.ChanDef.{ChanDef}
use Rattle.chan_def.specs.declared.kind.Kind.{Kind}
use Rattle.chan_def.specs.declared.kind.Kind.TheVariants.{Monitor}
use Rattle.reg_journal.specs.Causes.{IsFree, ◌before◌, Where, AtLowest}
use Rattle.reg_journal.specs.Facts.{Journal}
use Rattle.reg_journal.specs.Due.{EachMayFollow, MayStart}
use Rattle.reg_journal.specs.Granted.{IsStartable}
use Rattle.reg_journal.specs.Permits.{BarsOperation}
use Rattle.reg_journal.specs.Present.{Check, Iface, Operation, check_of, ifaces_of, named, operation_of}
use Rattle.reg_journal.specs.Refusals.{FailsDriver, InUseFor, InvalidChannel, StartCauses, StopCauses}
use Rattle.reg_journal.specs.declared.refusal.Refusal.{Refusal}
use Rattle.reg_journal.specs.declared.refusal.Refusal.TheVariants.{BadChannel, Busy, DriverFailed, NoInterface, NotRunning, WrongType}
use Rattle.reg_journal.proofs.Regular.{is_none}
use Rattle.reg_journal.proofs.Starting.{tells_kind}
use Rattle.reg_journal.proofs.Granting.{free-before, free-where, free_of_granted}
use Rattle.std.specs.Option.{option_map}
use Rattle.std.proofs.lemmas.Option.{none-some}
use Rattle.core_parts.specs.Kept.{kept, kept_operation}
use Rattle.core_parts.specs.Contexts.{checked_channel}
use Rattle.reg_core.specs.inner.Starting.{HasStart}
use Rattle.reg_core.specs.Stepping.{is_failure}
use Rattle.core_parts.specs.declared.interface.Interface.{Interface}
use Rattle.reg_journal.proofs.Listed.{indexed_listed}

-- ---- starts

-- what speaks against the start of an interface that is there
abbrev pub BarsStart : List Domain → Journal → Kind → ChanDef → Bool → Iface → Refusal → Type 0
BarsStart db J kind c failed x =
    Where (x.kind ≢ kind) WrongType before Where (InUseFor J x kind) Busy before InvalidChannel c before BarsOperation db J x c before FailsDriver failed

pub start_unnamed : (db : List Domain) (J : Journal) (name : List ℕ) (kind : Kind) (c : ChanDef) (failed : Bool) → named J name ≡ None
    → StartCauses db J name kind c failed (NoInterface name)
start_unnamed db J name kind c failed none = inl (none, refl)

pub start_barred : (db : List Domain) (J : Journal) (name : List ℕ) (kind : Kind) (c : ChanDef) (failed : Bool) (x : Iface) (e : Refusal) → named J name ≡ Some x
    → BarsStart db J kind c failed x e → StartCauses db J name kind c failed e
start_barred db J name kind c failed x e is cause = inr (free-where _ _ (λ none. absurd (cc (is, none))), rw is cause)

pub start_of_wrong_kind : (db : List Domain) (J : Journal) (kind : Kind) (c : ChanDef) (failed : Bool) (x : Iface) → x.kind ≢ kind → BarsStart db J kind c failed x WrongType
start_of_wrong_kind db J kind c failed x other = inl (other, refl)

pub start_while_busy : (db : List Domain) (J : Journal) (kind : Kind) (c : ChanDef) (failed : Bool) (x : Iface) → x.kind ≡ kind → InUseFor J x kind → BarsStart db J kind c failed x Busy
start_while_busy db J kind c failed x same used = inr (free-where _ _ (λ other. other same), inl (used, refl))

-- ---- an interface that is free for a start

pub start_on_bad_channel : (db : List Domain) (J : Journal) (kind : Kind) (c : ChanDef) (failed : Bool) (x : Iface) → IsStartable J x kind → (IsValidDef c → ⊥)
    → BarsStart db J kind c failed x BadChannel
start_on_bad_channel db J kind c failed x may invalid =
    inr (free-where _ _ (λ other. other may.of_kind), inr (free-where _ _ may.free, inl (invalid, refl)))

pub start_where_barred : (db : List Domain) (J : Journal) (kind : Kind) (c : ChanDef) (failed : Bool) (x : Iface) (e : Refusal) → IsStartable J x kind → IsValidDef c
    → BarsOperation db J x c e → BarsStart db J kind c failed x e
start_where_barred db J kind c failed x e may valid bars =
    inr (free-where _ _ (λ other. other may.of_kind), inr (free-where _ _ may.free, inr (free-where _ _ (λ invalid. invalid valid), inl bars)))

-- what is in use is told by its check, and else by its operation
pub used_by_check : (J : Journal) (x : Iface) (kind : Kind) (c : ChanDef) → Some c ≡ checked_channel J x → IsTrue true ↔ InUseFor J x kind
used_by_check J x kind c is = (λ t. inl (by (check_of J x.index) is), λ used. refl)
  where
    by : (o : Option Check) → Some c ≡ option_map (λ (k : Check). k.chan) o → IsSome o
    by None none = absurd (none-some c (sym none))
    by (Some k) some = refl

pub used_by_operation : (J : Journal) (x : Iface) (kind : Kind) (p : Interface) (b : Bool) → p ≡ kept J x → None ≡ checked_channel J x
    → (IsTrue b ↔ (IsSome p.operation × (kind ≢ Monitor))) → IsTrue b ↔ InUseFor J x kind
used_by_operation J x kind p b is none told = (λ t. inr (kept_some (told.0 t).0, (told.0 t).1), λ used. told.1 (by used))
  where
    same : p.operation ≡ option_map kept_operation (operation_of J x.index)
    same = ap (λ (q : Interface). q.operation) is

    some_of : (o : Option Operation) → IsSome (option_map kept_operation o) → IsSome o
    some_of None is = is
    some_of (Some o) is = refl

    some_to : (o : Option Operation) → IsSome o → IsSome (option_map kept_operation o)
    some_to None is = is
    some_to (Some o) is = refl

    kept_some : IsSome p.operation → IsSome (operation_of J x.index)
    kept_some has = some_of (operation_of J x.index) (subst (λ o. IsSome o) same has)

    no_check : (o : Option Check) → None ≡ option_map (λ (k : Check). k.chan) o → IsSome o → ⊥
    no_check None none has = false≢true has
    no_check (Some k) some has = none-some k.chan some

    by : InUseFor J x kind → IsSome p.operation × (kind ≢ Monitor)
    by (inl checks) = absurd (no_check (check_of J x.index) none checks)
    by (inr (operates, other)) = (subst (λ o. IsSome o) (sym same) (some_to (operation_of J x.index) operates), other)

-- no check runs on it, and an operation that it has is a monitor's
pub may_start : (db : List Domain) (J : Journal) (x : Iface) (kind : Kind) → EachMayFollow db J → Contains (ifaces_of J) x → IsStartable J x kind → MayStart J x.index
may_start db J x kind due there may = (
  is_none (check_of J x.index) (λ some. may.free (inl some)),
  subst (λ o. IsSomeAnd o (λ y. (operation_of J x.index ≡ None) ⊎ (y.kind ≡ Monitor))) (sym (indexed_listed db J x due there)) (replaces (operation_of J x.index) refl),
)
  where
    replaces : (o : Option Operation) → operation_of J x.index ≡ o → (operation_of J x.index ≡ None) ⊎ (x.kind ≡ Monitor)
    replaces None none = inl none
    replaces (Some o) some = elim (tells_kind kind Monitor) [
      | inl monitor ↦ inr (may.of_kind ∙ monitor)
      | inr other ↦ absurd (may.free (inr (ap is_some some, other)))
    ]

-- ---- a start that is granted

pub start_free : (db : List Domain) (J : Journal) (name : List ℕ) (kind : Kind) (c : ChanDef) (interface : Interface) (power : ℕ) → HasStart db J name kind c interface power
    → IsFree (StartCauses db J name kind c false)
start_free db J name kind c interface power has =
    free-before _ _ (free-where _ _ (λ none. let is = has.is_named in absurd (cc (is, none))))
    (λ e cause. free-before _ _ (free-where _ _ (λ other. other has.startable.of_kind))
    (free-before _ _ (free-where _ _ has.startable.free)
    (free-before _ _ (free-where _ _ (λ invalid. invalid (has.granted).valid))
    (free-before _ _ (free_of_granted db J has.iface c power has.granted)
    (free-where _ _ (λ failed. absurd (false≢true failed)))))) e (rw has.is_named at cause))

pub start_fails : (db : List Domain) (J : Journal) (name : List ℕ) (kind : Kind) (c : ChanDef) (interface : Interface) (power : ℕ) → HasStart db J name kind c interface power
    → StartCauses db J name kind c true DriverFailed
start_fails db J name kind c interface power has =
    start_barred db J name kind c true has.iface DriverFailed has.is_named
    (inr (
      free-where _ _ (λ other. other has.startable.of_kind),
      inr (
        free-where _ _ has.startable.free,
        inr (free-where _ _ (λ invalid. invalid (has.granted).valid), inr (free_of_granted db J has.iface c power has.granted, (refl, refl))),
      ),
    ))

-- ---- no refusal but the last tells of a driver

pub lowest_is_no_failure : (bars : ℕ → Type 0) (c : ChanDef) (refusal : ℕ → Refusal) (e : Refusal) → ((s : ℕ) → is_failure (refusal s) ≡ false) → AtLowest bars c refusal e
    → is_failure e ≡ false
lowest_is_no_failure bars c refusal e none (s, first, same) = ap is_failure same ∙ none s

bar_is_no_failure : (db : List Domain) (J : Journal) (x : Iface) (c : ChanDef) (e : Refusal) → BarsOperation db J x c e → is_failure e ≡ false
bar_is_no_failure db J x c e (inl (inl cause)) = lowest_is_no_failure _ c _ e (λ s. refl) cause
bar_is_no_failure db J x c e (inl (inr (f1, cause))) = ap is_failure cause.1
bar_is_no_failure db J x c e (inr (f1, inl cause)) = ap is_failure cause.1
bar_is_no_failure db J x c e (inr (f1, inr (f2, inl (inl cause)))) = lowest_is_no_failure _ c _ e (λ s. refl) cause
bar_is_no_failure db J x c e (inr (f1, inr (f2, inl (inr (g1, inl cause))))) = lowest_is_no_failure _ c _ e (λ s. refl) cause
bar_is_no_failure db J x c e (inr (f1, inr (f2, inl (inr (g1, inr (g2, inl cause)))))) = lowest_is_no_failure _ c _ e (λ s. refl) cause
bar_is_no_failure db J x c e (inr (f1, inr (f2, inl (inr (g1, inr (g2, inr (g3, inl cause))))))) = lowest_is_no_failure _ c _ e (λ s. refl) cause
bar_is_no_failure db J x c e (inr (f1, inr (f2, inl (inr (g1, inr (g2, inr (g3, inr (g4, cause)))))))) = lowest_is_no_failure _ c _ e (λ s. refl) cause
bar_is_no_failure db J x c e (inr (f1, inr (f2, inr (f3, inl cause)))) = ap is_failure cause.3
bar_is_no_failure db J x c e (inr (f1, inr (f2, inr (f3, inr (f4, inl (inl cause)))))) = ap is_failure cause.1
bar_is_no_failure db J x c e (inr (f1, inr (f2, inr (f3, inr (f4, inl (inr (g, cause))))))) = lowest_is_no_failure _ c _ e (λ s. refl) cause
bar_is_no_failure db J x c e (inr (f1, inr (f2, inr (f3, inr (f4, inr (f5, cause)))))) = lowest_is_no_failure _ c _ e (λ s. refl) cause

on_named_is_no_failure : (db : List Domain) (J : Journal) (kind : Kind) (c : ChanDef) (x : Iface) (e : Refusal) → BarsStart db J kind c false x e → is_failure e ≡ false
on_named_is_no_failure db J kind c x e (inl cause) = ap is_failure cause.1
on_named_is_no_failure db J kind c x e (inr (f1, inl cause)) = ap is_failure cause.1
on_named_is_no_failure db J kind c x e (inr (f1, inr (f2, inl cause))) = ap is_failure cause.1
on_named_is_no_failure db J kind c x e (inr (f1, inr (f2, inr (f3, inl cause)))) = bar_is_no_failure db J x c e cause
on_named_is_no_failure db J kind c x e (inr (f1, inr (f2, inr (f3, inr (f4, cause))))) = absurd (false≢true cause.0)

pub start_is_no_failure : (db : List Domain) (J : Journal) (name : List ℕ) (kind : Kind) (c : ChanDef) (e : Refusal) → StartCauses db J name kind c false e → is_failure e ≡ false
start_is_no_failure db J name kind c e (inl cause) = ap is_failure cause.1
start_is_no_failure db J name kind c e (inr (f1, cause)) = by (named J name) cause
  where
    by : (o : Option Iface) → IsSomeAnd o (λ x. BarsStart db J kind c false x e) → is_failure e ≡ false
    by None cause = absurd cause
    by (Some x) cause = on_named_is_no_failure db J kind c x e cause

-- ---- stops

pub stop_barred : (J : Journal) (name : List ℕ) (kind : Kind) (x : Iface) (e : Refusal) → named J name ≡ Some x
    → (Where (x.kind ≢ kind) WrongType before Where (operation_of J x.index ≡ None) NotRunning) e → StopCauses J name kind e
stop_barred J name kind x e is cause = inr (free-where _ _ (λ none. absurd (cc (is, none))), rw is cause)

pub stop_free : (J : Journal) (name : List ℕ) (kind : Kind) (x : Iface) (o : Operation) → named J name ≡ Some x → x.kind ≡ kind → operation_of J x.index ≡ Some o
    → IsFree (StopCauses J name kind)
stop_free J name kind x o is same operates =
    free-before _ _ (free-where _ _ (λ none. absurd (cc (is, none))))
    (λ e cause. free-before _ _ (free-where _ _ (λ other. other same)) (free-where _ _ (λ none. absurd (cc (none, operates)))) e (rw is at cause))

pub stop_is_no_failure : (J : Journal) (name : List ℕ) (kind : Kind) (e : Refusal) → StopCauses J name kind e → is_failure e ≡ false
stop_is_no_failure J name kind e (inl cause) = ap is_failure cause.1
stop_is_no_failure J name kind e (inr (f1, cause)) = by (named J name) cause
  where
    by : (o : Option Iface) → IsSomeAnd o (λ x. (Where (x.kind ≢ kind) WrongType before Where (operation_of J x.index ≡ None) NotRunning) e) → is_failure e ≡ false
    by None cause = absurd cause
    by (Some x) (inl cause) = ap is_failure cause.1
    by (Some x) (inr (f2, cause)) = ap is_failure cause.1
