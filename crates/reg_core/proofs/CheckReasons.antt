-- Why a check doesn't begin, in order.
use Rattle.std.proofs.Common.{◌≡◌, ℕ, Bool, true, false, List, ◌∷◌, Option, Some, None, IsSome, IsSomeAnd, IsTrue, Contains, is_some, refl, sym, ap, subst, ◌∙◌, inl, inr}
use Rattle.std.proofs.lemmas.Bool.{false≢true}
use Rattle.rule_tables.specs.declared.domain.Domain.{Domain}
use Rattle.chan_def.specs.Covered.{IsValidDef}
use Rattle.chan_def.specs.Kinds.{initiates}
use Rattle.chan_def.specs.declared.definition.ChanDef.{ChanDef}
use Rattle.radio_drv.specs.Seen.{Seen}
use Rattle.reg_journal.specs.Causes.{◌before◌, AtLowest, IsFree, Where}
use Rattle.reg_journal.specs.Due.{EachMayFollow}
use Rattle.reg_journal.specs.Facts.{Journal, check_begun}
use Rattle.reg_journal.specs.Permits.{BarsCheck, HasNothingToCheck, IsLengthOf}
use Rattle.reg_journal.specs.Present.{Iface, check_of, ifaces_of, indexed, named, operation_of, profile_of}
use Rattle.reg_journal.specs.Refusals.{CheckCauses, FailsDriver, InvalidChannel, IsInUse}
use Rattle.reg_journal.specs.declared.refusal.Refusal.{Refusal}
use Rattle.reg_journal.specs.declared.refusal.Refusal.TheVariants.{BadChannel, Busy, DriverFailed, NoInterface, NothingToCheck, WrongType}
use Rattle.reg_journal.proofs.EachRegular.{CheckCausesOn}
use Rattle.reg_journal.proofs.Granting.{free-before, free-where}
use Rattle.reg_journal.proofs.Permitting.{free-first, free-next}
use Rattle.reg_journal.proofs.Ranges.{length_fits}
use Rattle.reg_journal.proofs.Regular.{is_none}
use Rattle.reg_core.proofs.NextJournals.{plain_where_due}
use Rattle.reg_books.specs.DriverRows.{AreDriven, driver_at}
use Rattle.reg_core.specs.Kept.{Keeps, StandsFor}
use Rattle.reg_core.specs.Stepping.{is_failure}
use Rattle.reg_books.specs.Told.{DriverFails, DriverHears, OneGoes}
use Rattle.core_parts.specs.Changes.{IsInterfaceOf}
use Rattle.reg_core.specs.inner.Checking.{CheckBegins, HasCheckable, HasRestingIface}
use Rattle.core_parts.specs.Judging.{BarsBeginning, IsJudged}
use Rattle.core_parts.specs.declared.radio.Radio.{Radio}
use Rattle.reg_core.specs.inner.Starting.{Falls}
use Rattle.reg_core.specs.declared.core_state.Core.{Core}
use Rattle.core_parts.specs.declared.interface.Interface.{Interface}
use Rattle.reg_core.proofs.KeptChanges.{interface_of_kept}
use Rattle.reg_journal.proofs.Listed.{indexed_listed, named_listed}
use Rattle.reg_core.proofs.StartReasons.{lowest_is_no_failure}

pub check_barred : (db : List Domain) (J : Journal) (name : List ℕ) (c : ChanDef) (failed : Bool) (x : Iface) (e : Refusal) → named J name ≡ Some x
    → CheckCausesOn db J c failed x e → CheckCauses db J name c failed e
check_barred db J name c failed x e is cause = inr (free-where _ _ (λ none. absurd (cc (is, none))), rw is cause)

pub check_of_wrong_kind : (db : List Domain) (J : Journal) (c : ChanDef) (failed : Bool) (x : Iface) → initiates x.kind ≡ false → CheckCausesOn db J c failed x WrongType
check_of_wrong_kind db J c failed x never = inl (λ sends. false≢true (sym never ∙ sends), refl)

pub check_while_busy : (db : List Domain) (J : Journal) (c : ChanDef) (failed : Bool) (x : Iface) → IsTrue (initiates x.kind) → IsInUse J x → CheckCausesOn db J c failed x Busy
check_while_busy db J c failed x sends used = inr (free-where _ _ (λ never. never sends), inl (used, refl))

pub check_on_bad_channel : (db : List Domain) (J : Journal) (c : ChanDef) (failed : Bool) (x : Iface) → IsTrue (initiates x.kind) → (IsInUse J x → ⊥) → (IsValidDef c → ⊥)
    → CheckCausesOn db J c failed x BadChannel
check_on_bad_channel db J c failed x sends rests invalid = inr (free-where _ _ (λ never. never sends), inr (free-where _ _ rests, inl (invalid, refl)))

pub check_where_barred : (db : List Domain) (J : Journal) (c : ChanDef) (failed : Bool) (x : Iface) (e : Refusal) → IsTrue (initiates x.kind) → (IsInUse J x → ⊥) → IsValidDef c
    → BarsBeginning db J x c e → CheckCausesOn db J c failed x e
check_where_barred db J c failed x e sends rests valid (inl bars) =
    inr (free-where _ _ (λ never. never sends), inr (free-where _ _ rests, inr (free-where _ _ (λ invalid. invalid valid), inl bars)))
check_where_barred db J c failed x e sends rests valid (inr (free, nothing)) =
    inr (free-where _ _ (λ never. never sends), inr (free-where _ _ rests, inr (free-where _ _ (λ invalid. invalid valid), inr (free, inl nothing))))

-- ---- a check that may begin

pub check_free : (db : List Domain) (J : Journal) (name : List ℕ) (c : ChanDef) (p : Interface) (ms : ℕ) → HasCheckable db J name c p ms → IsFree (CheckCauses db J name c false)
check_free db J name c p ms has =
    free-before _ _ (free-where _ _ (λ none. let is = has.is_named in absurd (cc (is, none))))
    (λ e cause. free-before _ _ (free-where _ _ (λ never. never has.sends))
    (free-before _ _ (free-where _ _ has.rests)
    (free-before _ _ (free-where _ _ (λ invalid. invalid has.valid))
    (free-before _ _ (free-first (BarsCheck db J has.iface c) _ has.free)
    (free-before _ _ (free-next (BarsCheck db J has.iface c) _ has.free)
    (free-where _ _ (λ failed. absurd (false≢true failed))))))) e (rw has.is_named at cause))

pub check_fails : (db : List Domain) (J : Journal) (name : List ℕ) (c : ChanDef) (p : Interface) (ms : ℕ) → HasCheckable db J name c p ms → CheckCauses db J name c true DriverFailed
check_fails db J name c p ms has =
    check_barred db J name c true has.iface DriverFailed has.is_named
    (inr (
      free-where _ _ (λ never. never has.sends),
      inr (
        free-where _ _ has.rests,
        inr (
          free-where _ _ (λ invalid. invalid has.valid),
          inr (free-first (BarsCheck db J has.iface c) _ has.free, inr (free-next (BarsCheck db J has.iface c) _ has.free, (refl, refl))),
        ),
      ),
    ))

-- ---- no refusal but the last tells of a driver

bar_is_no_failure : (db : List Domain) (J : Journal) (x : Iface) (c : ChanDef) (e : Refusal) → BarsCheck db J x c e → is_failure e ≡ false
bar_is_no_failure db J x c e (inl (inl cause)) = lowest_is_no_failure _ c _ e (λ s. refl) cause
bar_is_no_failure db J x c e (inl (inr (f1, cause))) = ap is_failure cause.1
bar_is_no_failure db J x c e (inr (f1, inl cause)) = ap is_failure cause.1
bar_is_no_failure db J x c e (inr (f1, inr (f2, inl (inl cause)))) = lowest_is_no_failure _ c _ e (λ s. refl) cause
bar_is_no_failure db J x c e (inr (f1, inr (f2, inl (inr (g1, inl cause))))) = lowest_is_no_failure _ c _ e (λ s. refl) cause
bar_is_no_failure db J x c e (inr (f1, inr (f2, inl (inr (g1, inr (g2, inl cause)))))) = lowest_is_no_failure _ c _ e (λ s. refl) cause
bar_is_no_failure db J x c e (inr (f1, inr (f2, inl (inr (g1, inr (g2, inr (g3, inl cause))))))) = lowest_is_no_failure _ c _ e (λ s. refl) cause
bar_is_no_failure db J x c e (inr (f1, inr (f2, inl (inr (g1, inr (g2, inr (g3, inr (g4, cause)))))))) = lowest_is_no_failure _ c _ e (λ s. refl) cause
bar_is_no_failure db J x c e (inr (f1, inr (f2, inr (f3, inl cause)))) = ap is_failure cause.1
bar_is_no_failure db J x c e (inr (f1, inr (f2, inr (f3, inr (g, cause))))) = lowest_is_no_failure _ c _ e (λ s. refl) cause

on_named_is_no_failure : (db : List Domain) (J : Journal) (c : ChanDef) (x : Iface) (e : Refusal) → CheckCausesOn db J c false x e → is_failure e ≡ false
on_named_is_no_failure db J c x e (inl cause) = ap is_failure cause.1
on_named_is_no_failure db J c x e (inr (f1, inl cause)) = ap is_failure cause.1
on_named_is_no_failure db J c x e (inr (f1, inr (f2, inl cause))) = ap is_failure cause.1
on_named_is_no_failure db J c x e (inr (f1, inr (f2, inr (f3, inl cause)))) = bar_is_no_failure db J x c e cause
on_named_is_no_failure db J c x e (inr (f1, inr (f2, inr (f3, inr (f4, inl cause))))) = ap is_failure cause.1
on_named_is_no_failure db J c x e (inr (f1, inr (f2, inr (f3, inr (f4, inr (f5, cause)))))) = absurd (false≢true cause.0)

pub check_is_no_failure : (db : List Domain) (J : Journal) (name : List ℕ) (c : ChanDef) (e : Refusal) → CheckCauses db J name c false e → is_failure e ≡ false
check_is_no_failure db J name c e (inl cause) = ap is_failure cause.1
check_is_no_failure db J name c e (inr (f1, cause)) = by (named J name) cause
  where
    by : (o : Option Iface) → IsSomeAnd o (λ x. CheckCausesOn db J c false x e) → is_failure e ≡ false
    by None cause = absurd cause
    by (Some x) cause = on_named_is_no_failure db J c x e cause

-- ---- what comes of it

pub begins_done : (db : List Domain) (J : Journal) (name : List ℕ) (c : ChanDef) (p : Interface) (ms : ℕ) (old new : Core) (row row' : List (Option Seen)) → StandsFor db old J
    → HasCheckable db J name c p ms
    → ((x : Iface) → Keeps db old J → IsInterfaceOf J x p → EachMayFollow db (check_begun p.index c ms ∷ J) → Keeps db new (check_begun p.index c ms ∷ J))
    → OneGoes p.radio (DriverHears (record { iface = p.index; chan = c; length_ms = ms })) row row' → CheckBegins db J name c ms new row row'
begins_done db J name c p ms old new row row' s has kept told =
    let x = has.iface in
    let there = named_listed J name x has.is_named in
    let is = interface_of_kept J x p there has.interface_is in
    let found = indexed_listed db J x s.keeps.due there in
    let due : EachMayFollow db (check_begun x.index c ms ∷ J) = (
      (
        (ap is_some found, is_none (operation_of J x.index) (λ some. has.rests (inl some)), is_none (check_of J x.index) (λ some. has.rests (inr some))),
        subst (λ o. IsSomeAnd o (λ y. IsTrue (initiates y.kind))) (sym found) has.sends,
        has.valid,
        length_fits db J x c ms s.is_db (plain_where_due db J s.keeps.due) has.length_is,
      ),
      s.keeps.due,
    ) in
    record {
      iface = x;
      is_named = has.is_named;
      free = check_free db J name c p ms has;
      length_is = has.length_is;
      keeps = subst (λ i. Keeps db new (check_begun i c ms ∷ J)) is.index (kept x s.keeps is (subst (λ i. EachMayFollow db (check_begun i c ms ∷ J)) (sym is.index) due));
      told = subst (λ (q : Interface). OneGoes q.radio (DriverHears (record { iface = q.index; chan = c; length_ms = ms })) row row') has.interface_is told;
    }

pub check_falls : (db : List Domain) (J : Journal) (name : List ℕ) (c : ChanDef) (p : Interface) (ms : ℕ) (core : Core) (row row' : List (Option Seen)) → HasCheckable db J name c p ms
    → OneGoes p.radio DriverFails row row' → Falls J name (CheckCauses db J name c) core core row row'
check_falls db J name c p ms core row row' has told = record {
  iface = has.iface;
  is_named = has.is_named;
  cause = check_fails db J name c p ms has;
  unchanged = refl;
  told = subst (λ (q : Interface). OneGoes q.radio DriverFails row row') has.interface_is told;
}

-- ---- what is kept of the interface

pub judged_at_check : (db : List Domain) (J : Journal) (name : List ℕ) (p : Interface) (radio : Radio) (core : Core) (interfaces : List Interface) → Keeps db core J
    → (rests : HasRestingIface db J name p radio) → interfaces ≡ core.interfaces → IsJudged db J rests.iface p interfaces radio core.indoor
judged_at_check db J name p radio core interfaces s rests same = record {
  among = record {
    due = s.due;
    there = named_listed J name rests.iface rests.is_named;
    interface_is = rests.interface_is;
    interfaces_are = same ∙ s.interfaces;
    radio_is = rests.radio_is;
  };
  indoor_is = s.indoor;
}

pub has_checkable : (db : List Domain) (J : Journal) (name : List ℕ) (c : ChanDef) (p : Interface) (radio : Radio) (ms : ℕ) → (rests : HasRestingIface db J name p radio) → IsValidDef c
    → IsFree (BarsBeginning db J rests.iface c) → IsLengthOf db J rests.iface c ms → HasCheckable db J name c p ms
has_checkable db J name c p radio ms rests valid free length_is = record {
  iface = rests.iface;
  is_named = rests.is_named;
  interface_is = rests.interface_is;
  sends = rests.sends;
  rests = rests.rests;
  valid = valid;
  free = free;
  length_is = length_is;
}
