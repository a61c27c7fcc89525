-- A start is answered with a power exactly where it is granted with it.
use Rattle.std.proofs.Common.{◌≡◌, ◌≢◌, ℕ, zero, suc, Bool, false, List, [], ◌∷◌, Option, Some, None, IsSomeAnd, refl, sym, subst, ◌∙◌, inl, inr}
use Rattle.std.proofs.lemmas.Bool.{cases_eq, false≢true}
use Rattle.std.proofs.lemmas.Option.{none-some}
use Rattle.freq_range.proofs.Deciding.{Tells, tells_through}
use Rattle.rule_tables.specs.declared.domain.Domain.{Domain}
use Rattle.chan_def.specs.declared.definition.ChanDef.{ChanDef}
use Rattle.chan_def.specs.declared.kind.Kind.{Kind}
use Rattle.chan_def.specs.declared.kind.Kind.TheVariants.{Station, Ap, Ibss, Mesh, Monitor}
use Rattle.reg_journal.specs.Causes.{IsFree, ◌before◌, Where}
use Rattle.reg_journal.specs.Facts.{Fact, Journal, started}
use Rattle.reg_journal.specs.Granted.{IsGranted, IsStartable}
use Rattle.reg_journal.specs.Permits.{BarsOperation, IsPowerOf}
use Rattle.reg_journal.specs.Present.{Iface, named}
use Rattle.reg_journal.specs.Refusals.{FailsDriver, InUseFor, InvalidChannel, LacksIface, StartCauses}
use Rattle.reg_journal.specs.Replies.{Gives, OnNamed, Replies}
use Rattle.reg_journal.specs.declared.effects.Effect.{Effect}
use Rattle.reg_journal.specs.declared.refusal.Refusal.{Refusal}
use Rattle.reg_journal.specs.declared.refusal.Refusal.TheVariants.{Busy, WrongType}
use Rattle.reg_journal.specs.declared.reply.Answer.TheVariants.{Started, Refused}
use Rattle.reg_journal.specs.declared.reply.Reply.TheVariants.{Plain}
use Rattle.reg_journal.specs.declared.request.Request.TheVariants.{Start}
use Rattle.reg_journal.proofs.Granting.{free-before, free-where, free_of_granted, power_of_granted}
use Rattle.reg_journal.proofs.Permitting.{free-first, free-next, granted_of_free, never_where, told_valid}

-- ---- kinds

kind_number : Kind → ℕ
kind_number Station = 0
kind_number Ap = 1
kind_number Ibss = 2
kind_number Mesh = 3
kind_number Monitor = 4

kind_numbered : ℕ → Kind
kind_numbered zero = Station
kind_numbered (suc zero) = Ap
kind_numbered (suc (suc zero)) = Ibss
kind_numbered (suc (suc (suc zero))) = Mesh
kind_numbered (suc (suc (suc (suc n)))) = Monitor

pub tells_kind : Tells Kind
unfolding kind_number kind_numbered
tells_kind = tells_through {A = Kind} {B = ℕ} kind_number kind_numbered back cases_eq
  where
    back : (kind : Kind) → kind_numbered (kind_number kind) ≡ kind
    back Station = refl
    back Ap = refl
    back Ibss = refl
    back Mesh = refl
    back Monitor = refl

-- ---- the causes of one interface

-- what speaks against a start on the interface
abbrev pub StartCausesOn : List Domain → Journal → Kind → ChanDef → Bool → Iface → Refusal → Type 0
StartCausesOn db J kind c failed x =
    Where (x.kind ≢ kind) WrongType
    before Where (InUseFor J x kind) Busy
    before InvalidChannel c
    before BarsOperation db J x c
    before FailsDriver failed

pub start_free : (db : List Domain) (J : Journal) (kind : Kind) (c : ChanDef) (failed : Bool) (x : Iface) (power : ℕ) → IsFree (StartCausesOn db J kind c failed x)
    → IsPowerOf db J x c power → IsStartable J x kind × IsGranted db J x c power
start_free db J kind c failed x power free is =
    let busy = free-next (Where (x.kind ≢ kind) WrongType) _ free in
    let bad = free-next (Where (InUseFor J x kind) Busy) _ busy in
    let bars = free-next (InvalidChannel c) _ bad in (
      record {
        of_kind = elim (tells_kind x.kind kind) [ inl same ↦ same | inr other ↦ absurd (never_where _ _ (free-first (Where (x.kind ≢ kind) WrongType) _ free) other) ];
        free = never_where _ _ (free-first (Where (InUseFor J x kind) Busy) _ busy);
      },
      granted_of_free db J x c power
          (elim (told_valid c) [ inl valid ↦ valid | inr never ↦ absurd (never_where _ _ (free-first (InvalidChannel c) _ bad) never) ])
          (free-first (BarsOperation db J x c) _ bars) is,
    )

granted_free : (db : List Domain) (J : Journal) (kind : Kind) (c : ChanDef) (x : Iface) (power : ℕ) → IsStartable J x kind → IsGranted db J x c power
    → IsFree (StartCausesOn db J kind c false x)
granted_free db J kind c x power may is =
    free-before _ _ (free-where _ _ (λ other. other may.of_kind))
    (free-before _ _ (free-where _ _ may.free)
    (free-before _ _ (free-where _ _ (λ never. never is.valid))
    (free-before _ _ (free_of_granted db J x c power is)
    (free-where _ _ false≢true))))

-- ---- the law

same_power : (power other : ℕ) (effects : List Effect) → Plain (Started power) effects ≡ Plain (Started other) [] → power ≡ other
same_power power other effects e = cc

no_refusal : (power : ℕ) (e : Refusal) (effects : List Effect) → Plain (Started power) effects ≡ Plain (Refused e) [] → ⊥
no_refusal power e effects same = cc

pub granted_of_started : (db : List Domain) (J : Journal) (name : List ℕ) (kind : Kind) (c : ChanDef) (failed : Bool) (power : ℕ) (effects : List Effect) (facts : List Fact)
    → Replies db J (Start name kind c) failed (Plain (Started power) effects) facts → IsSomeAnd (named J name) (λ x. IsStartable J x kind × IsGranted db J x c power)
granted_of_started db J name kind c failed power effects facts (inl (e, cause, reply, none)) = absurd (no_refusal power e effects reply)
granted_of_started db J name kind c failed power effects facts (inr (free, granted)) =
    by (named J name) (free-next (LacksIface J name) _ free) granted
  where
    by : (o : Option Iface) → IsFree (λ e. IsSomeAnd o (λ x. StartCausesOn db J kind c failed x e))
        → IsSomeAnd o (λ x. (power' : ℕ) × IsPowerOf db J x c power' × Gives (Started power') (started x.index c power' ∷ []) (Plain (Started power) effects) facts)
        → IsSomeAnd o (λ x. IsStartable J x kind × IsGranted db J x c power)
    by None free granted = granted
    by (Some x) free (other, is, (reply, gives)) = start_free db J kind c failed x power free (subst (IsPowerOf db J x c) (sym (same_power power other effects reply)) is)

pub started_of_granted : (db : List Domain) (J : Journal) (name : List ℕ) (kind : Kind) (c : ChanDef) (power : ℕ) (x : Iface) → named J name ≡ Some x
    → IsStartable J x kind → IsGranted db J x c power → Replies db J (Start name kind c) false (Plain (Started power) []) (started x.index c power ∷ [])
started_of_granted db J name kind c power x found may is = inr (free, on)
  where
    on : OnNamed J name (λ y reply facts. (power' : ℕ) × IsPowerOf db J y c power' × Gives (Started power') (started y.index c power' ∷ []) reply facts)
        (Plain (Started power) []) (started x.index c power ∷ [])
    on = subst (λ o. IsSomeAnd o (λ y. (power' : ℕ) × IsPowerOf db J y c power' × Gives (Started power') (started y.index c power' ∷ []) (Plain (Started power) []) (started x.index c power ∷ [])))
        (sym found) (power, power_of_granted db J x c power is, (refl, refl))

    free : IsFree (StartCauses db J name kind c false)
    free = free-before (LacksIface J name) _ (free-where _ _ (λ none. none-some x (sym none ∙ found)))
        (subst (λ o. IsFree (λ e. IsSomeAnd o (λ y. StartCausesOn db J kind c false y e))) (sym found) (granted_free db J kind c x power may is))
