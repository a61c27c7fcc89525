-- The calls of newer facts, over the older ones.
use Rattle.std.proofs.Common.{◌≡◌, ℕ, Bool, true, if◌then◌else◌, List, [], ◌∷◌, ◌++◌, Option, Some, None, refl, sym, ap, subst, ◌∙◌, inl, inr, append_assoc, append-nil}
use Rattle.std.proofs.lemmas.Bool.{cond_both}
use Rattle.rule_tables.specs.declared.domain.Domain.{Domain}
use Rattle.dfs_states.specs.Calls.{Call, RegionChanged}
use Rattle.reg_journal.specs.Facts.{Fact, Journal}
use Rattle.rule_tables.specs.Regions.{is_same_region}
use Rattle.reg_journal.specs.Applicable.{region_of}
use Rattle.reg_books.specs.Calls.{checks_last_on, region_call, call_of, pushed, calls_of}
use Rattle.reg_journal.proofs.Splits.{split_cases, not_split}

-- the calls that newer facts are for the radio's book, after the older ones
abbrev pub calls_over : List Domain → Journal → Journal → ℕ → List Call
calls_over db [] base r = []
calls_over db (f ∷ newer) base r = pushed (call_of db f (newer ++ base) r) (calls_over db newer base r)

-- what holds after a call that is told in one case alone
pub where_pushed : (P : List Call → Type 0) (test : Bool) (call : Call) (calls : List Call) → (test ≡ true → P (call ∷ calls)) → P calls
    → P (pushed (if test then Some call else None) calls)
where_pushed P test call calls told same = cond_both test (Some call) None (λ c. P (pushed c calls)) told (λ is. same)

-- and after a fact that may change the region
pub region_pushed : (P : List Call → Type 0) (db : List Domain) (f : Fact) (J : Journal) (r : ℕ) (calls : List Call) → P (RegionChanged (checks_last_on db (f ∷ J) r) ∷ calls) → P calls
    → P (pushed (region_call db f J r) calls)
region_pushed P db f J r calls changed same =
    cond_both (is_same_region (region_of db (f ∷ J) r) (region_of db J r)) None (Some (RegionChanged (checks_last_on db (f ∷ J) r))) (λ c. P (pushed c calls)) (λ is. same) (λ is. changed)

-- a call pushed on a list is pushed on its front part
pushed-append : (call : Option Call) (calls more : List Call) → pushed call (calls ++ more) ≡ pushed call calls ++ more
pushed-append None calls more = refl
pushed-append (Some call) calls more = refl

-- over nothing the calls are all of them
over-nil : (db : List Domain) (J : Journal) (r : ℕ) → calls_over db J [] r ≡ calls_of db J r
over-nil db [] r = refl
over-nil db (f ∷ J) r = rw (append-nil J, over-nil db J r)

-- the calls of newer facts, split where the facts are
over-append : (db : List Domain) (newer between base : Journal) (r : ℕ)
    → calls_over db (newer ++ between) base r ≡ calls_over db newer (between ++ base) r ++ calls_over db between base r
over-append db [] between base r = refl
over-append db (f ∷ newer) between base r =
    rw (append_assoc newer between base, over-append db newer between base r)
    (pushed-append (call_of db f (newer ++ (between ++ base)) r) (calls_over db newer (between ++ base) r) (calls_over db between base r))

-- the calls of a journal, split where its facts are
pub calls-append : (db : List Domain) (newer base : Journal) (r : ℕ) → calls_of db (newer ++ base) r ≡ calls_over db newer base r ++ calls_of db base r
calls-append db [] base r = refl
calls-append db (f ∷ newer) base r =
    rw (calls-append db newer base r) (pushed-append (call_of db f (newer ++ base) r) (calls_over db newer base r) (calls_of db base r))

-- ---- a split of the facts splits the calls

-- a split of the newer facts is one of all
pub whole_at : (facts newer between base : Journal) (f : Fact) → facts ≡ newer ++ f ∷ between → facts ++ base ≡ newer ++ (f ∷ (between ++ base))
whole_at facts newer between base f at = ap (λ xs. xs ++ base) at ∙ append_assoc newer (f ∷ between) base

-- among the newer ones
pub over_at : (db : List Domain) (facts newer between base : Journal) (f : Fact) (r : ℕ) (call : Call) → facts ≡ newer ++ f ∷ between
    → call_of db f (between ++ base) r ≡ Some call
    → calls_over db facts base r ≡ calls_over db newer (f ∷ (between ++ base)) r ++ call ∷ calls_over db between base r
over_at db facts newer between base f r call at is = rw (at, over-append db newer (f ∷ between) base r, is)

-- and among all
pub calls_at : (db : List Domain) (J newer older : Journal) (f : Fact) (r : ℕ) (call : Call) → J ≡ newer ++ f ∷ older → call_of db f older r ≡ Some call
    → calls_of db J r ≡ calls_over db newer (f ∷ older) r ++ call ∷ calls_of db older r
calls_at db J newer older f r call at is = rw (at, calls-append db newer (f ∷ older) r, is)

-- ---- a split of the calls comes from a split of the facts

-- the call comes from one of the newer facts, and those after and before it come from the facts after and before
pub record IsOver (db : List Domain) (facts base : Journal) (r : ℕ) (calls : List Call) (call : Call) (older : List Call) : Type 0 where
  pub newer : Journal
  pub fact : Fact
  pub between : Journal
  pub at : facts ≡ newer ++ fact ∷ between
  pub is : call_of db fact (between ++ base) r ≡ Some call
  pub after : calls ≡ calls_over db newer (fact ∷ (between ++ base)) r
  pub before : older ≡ calls_over db between base r

-- each split of their calls is such a one
pub from_over : (db : List Domain) (facts base : Journal) (r : ℕ) (calls : List Call) (call : Call) (older : List Call)
    → calls_over db facts base r ≡ calls ++ call ∷ older → IsOver db facts base r calls call older
from_over db [] base r calls call older split = absurd (not_split calls older call split)
from_over db (f ∷ facts) base r calls call older split = by (call_of db f (facts ++ base) r) refl (λ calls' split'. from_over db facts base r calls' call older split')
  where
    deeper : (own : Option Call) (calls' : List Call) → call_of db f (facts ++ base) r ≡ own → calls ≡ pushed own calls'
        → IsOver db facts base r calls' call older → IsOver db (f ∷ facts) base r calls call older
    deeper own calls' is push over = record {
      newer = f ∷ over.newer;
      fact = over.fact;
      between = over.between;
      at = ap (λ xs. f ∷ xs) over.at;
      is = over.is;
      after =
          let whole = whole_at facts over.newer over.between base over.fact over.at in
          let own' : call_of db f (over.newer ++ (over.fact ∷ (over.between ++ base))) r ≡ own = subst (λ xs. call_of db f xs r ≡ own) whole is in
          push ∙ rw (own', over.after);
      before = over.before;
    }

    by : (own : Option Call) → call_of db f (facts ++ base) r ≡ own
        → ((calls' : List Call) → calls_over db facts base r ≡ calls' ++ call ∷ older → IsOver db facts base r calls' call older)
        → IsOver db (f ∷ facts) base r calls call older
    by None none rest = deeper None calls none refl (rest calls (rw none at split))
    by (Some own) is rest =
        let split' : own ∷ calls_over db facts base r ≡ calls ++ call ∷ older = rw is at split in
        elim (split_cases own (calls_over db facts base r) calls older call split') [
          | inl newest ↦ record {
            newer = [];
            fact = f;
            between = facts;
            at = refl;
            is = is ∙ ap (λ c. Some c) newest.1;
            after = newest.0;
            before = sym newest.2;
          }
          | inr older' ↦ deeper (Some own) older'.0 is older'.1 (rest older'.0 older'.2)
        ]

-- the same of all facts
pub record IsOf (db : List Domain) (J : Journal) (r : ℕ) (calls : List Call) (call : Call) (before : List Call) : Type 0 where
  pub newer : Journal
  pub fact : Fact
  pub older : Journal
  pub at : J ≡ newer ++ fact ∷ older
  pub is : call_of db fact older r ≡ Some call
  pub after : calls ≡ calls_over db newer (fact ∷ older) r
  pub earlier : before ≡ calls_of db older r

pub from_calls : (db : List Domain) (J : Journal) (r : ℕ) (calls : List Call) (call : Call) (before : List Call) → calls_of db J r ≡ calls ++ call ∷ before
    → IsOf db J r calls call before
from_calls db J r calls call before split =
    let over = from_over db J [] r calls call before (over-nil db J r ∙ split) in
    record {
      newer = over.newer;
      fact = over.fact;
      older = over.between;
      at = over.at;
      is = subst (λ xs. call_of db over.fact xs r ≡ Some call) (append-nil over.between) over.is;
      after = over.after ∙ ap (λ xs. calls_over db over.newer (over.fact ∷ xs) r) (append-nil over.between);
      earlier = over.before ∙ over-nil db over.between r;
    }

-- each list of the oldest calls is that of the oldest facts
pub record AreOldest (db : List Domain) (J : Journal) (r : ℕ) (calls : List Call) : Type 0 where
  pub newer : Journal
  pub older : Journal
  pub at : J ≡ newer ++ older
  pub are : calls_of db older r ≡ calls

pub oldest_calls : (db : List Domain) (J : Journal) (r : ℕ) (newer older : List Call) → calls_of db J r ≡ newer ++ older → AreOldest db J r older
oldest_calls db [] r [] older at = record { newer = []; older = []; at = refl; are = at }
oldest_calls db [] r (c ∷ newer) older at = cc
oldest_calls db (f ∷ J) r newer older at = by (call_of db f J r) refl newer at (λ newer' at'. oldest_calls db J r newer' older at')
  where
    deeper : AreOldest db J r older → AreOldest db (f ∷ J) r older
    deeper are = record { newer = f ∷ are.newer; older = are.older; at = ap (λ xs. f ∷ xs) are.at; are = are.are }

    by : (own : Option Call) → call_of db f J r ≡ own → (newer : List Call) → calls_of db (f ∷ J) r ≡ newer ++ older
        → ((newer' : List Call) → calls_of db J r ≡ newer' ++ older → AreOldest db J r older) → AreOldest db (f ∷ J) r older
    by own is [] at rest = record { newer = []; older = f ∷ J; at = refl; are = at }
    by None none (c ∷ newer) at rest = deeper (rest (c ∷ newer) (rw none at at))
    by (Some own) is (c ∷ newer) at rest =
        let at' : own ∷ calls_of db J r ≡ c ∷ (newer ++ older) = rw is at at in
        deeper (rest newer cc)
