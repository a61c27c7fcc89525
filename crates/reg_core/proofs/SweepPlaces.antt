-- The interfaces that are kept, place by place, and what is known of each in a sweep.
use Rattle.std.proofs.Common.{◌≡◌, ℕ, ◌<◌, ◌≤◌, ◌+◌, Bool, false, List, ◌++◌, length, take, get_or, slice_get, Contains, Option, Some, None, MatchBool, is_some, arith, sym, ap, subst, ◌∙◌, inl, inr}
use Rattle.std.specs.Option.{option_to_list}
use Rattle.std.proofs.lemmas.Bool.{false≢true}
use Rattle.std.proofs.lemmas.List.{get_or-map, length-append, length-map, take_all}
use Rattle.std.proofs.lemmas.Option.{same_Some, slice_get_cases}
use Rattle.rule_tables.specs.declared.domain.Domain.{Domain}
use Rattle.reg_journal.specs.Facts.{Journal}
use Rattle.reg_journal.specs.Present.{Check, Iface, check_of, ifaces_of, profile_of}
use Rattle.reg_journal.specs.Sweep.{RegionChangedInCheck}
use Rattle.reg_journal.proofs.Few.{few_ifaces}
use Rattle.reg_core.specs.Kept.{Keeps}
use Rattle.core_parts.specs.Kept.{KeepsRadio, interfaces_of, kept}
use Rattle.core_parts.specs.Judging.{IsSwept}
use Rattle.reg_core.specs.inner.Sweeping.{AreEach, AreMoved, Judges, is_wanted, wanted}
use Rattle.core_parts.specs.declared.change.Change.{Change}
use Rattle.reg_core.specs.declared.core_state.Core.{Core}
use Rattle.core_parts.specs.declared.interface.Interface.{Interface}
use Rattle.core_parts.specs.declared.radio.Radio.{Radio}
use Rattle.reg_journal.proofs.Radios.{home_listed}
use Rattle.reg_journal.proofs.Operating.{home_there}
use Rattle.reg_core.proofs.SweepLists.{each-filter, each-more}

-- the interface at a place
pub record IsAtPlace (J : Journal) (k : ℕ) (p : Interface) : Type 0 where
  pub iface : Iface
  pub here : slice_get (ifaces_of J) k ≡ Some iface
  pub there : Contains (ifaces_of J) iface
  pub is : p ≡ kept J iface

pub at_place_in : (J : Journal) (k : ℕ) (p : Interface) (interfaces : List Interface) → interfaces ≡ interfaces_of J → k < length interfaces → p ≡ get_or interfaces k p → IsAtPlace J k p
at_place_in J k p interfaces are below at = elim (slice_get_cases (ifaces_of J) k).1 [
  | inl there ↦ record {
    iface = there.0;
    here = there.2;
    there = (k, there.1, there.3);
    is = at ∙ ap (λ ps. get_or ps k p) are ∙ get_or-map (kept J) (ifaces_of J) k there.0 p there.1 ∙ ap (kept J) there.3;
  }
  | inr past ↦
      let end = past.0 in
      let len = ap (λ (ps : List Interface). length ps) are ∙ length-map (ifaces_of J) (kept J) in
      absurd (omega (arith, end, below, len))
]

pub at_place : (db : List Domain) (J : Journal) (core : Core) (k : ℕ) (p : Interface) → Keeps db core J → k < length core.interfaces → p ≡ get_or core.interfaces k p → IsAtPlace J k p
at_place db J core k p s below at = at_place_in J k p core.interfaces s.interfaces below at

-- it is the one that the journal lists there
pub one_at_place : (J : Journal) (k : ℕ) (x y : Iface) → slice_get (ifaces_of J) k ≡ Some x → slice_get (ifaces_of J) k ≡ Some y → x ≡ y
one_at_place J k x y one other = same_Some x y (sym one ∙ other)

-- its radio is there
pub radio_kept : (db : List Domain) (J : Journal) (core : Core) (x : Iface) (p : Interface) → Keeps db core J → Contains (ifaces_of J) x → p ≡ kept J x → profile_of J p.radio ≡ None → ⊥
radio_kept db J core x p s there is none =
    let home = home_there db J x.index x.radio s.due (home_listed db J x s.due there) in
    let gone : profile_of J x.radio ≡ None = subst (λ (q : Interface). profile_of J q.radio ≡ None) is none in
    false≢true (sym (ap is_some gone) ∙ home)

pub swept_at : (db : List Domain) (J : Journal) (core : Core) (x : Iface) (p : Interface) (radio : Radio) → Keeps db core J → Contains (ifaces_of J) x → p ≡ kept J x
    → KeepsRadio db J p.radio radio → IsSwept db J x p radio core.indoor
swept_at db J core x p radio s there is kept_radio = record {
  due = s.due;
  there = there;
  interface_is = is;
  radio_is = subst (λ (q : Interface). KeepsRadio db J q.radio radio) is kept_radio;
  indoor_is = s.indoor;
}

-- whether its radio's region changed
pub moved_at : (db : List Domain) (J : Journal) (x : Iface) (p : Interface) (moved : List Bool) (flag : Bool) → AreMoved db J moved → Contains (ifaces_of J) x → p ≡ kept J x
    → flag ≡ get_or moved p.radio false
    → (k : Check) → check_of J x.index ≡ Some k → MatchBool flag (RegionChangedInCheck db J x) (RegionChangedInCheck db J x → ⊥)
moved_at db J x p moved flag are there is at k here =
    let told : get_or moved x.radio false ≡ flag = sym (at ∙ ap (λ (q : Interface). get_or moved q.radio false) is) in
    subst (λ b. MatchBool b (RegionChangedInCheck db J x) (RegionChangedInCheck db J x → ⊥)) told (are x k there here)

-- ---- all of them

abbrev pub JudgesWanted : List Domain → Journal → Option ℕ → Iface → Option Change → Type 0
JudgesWanted db J only x c = MatchBool (is_wanted only x) (Judges db J x c) (c ≡ None)

pub few_kept : (db : List Domain) (J : Journal) (core : Core) → Keeps db core J → length core.interfaces ≤ 64
few_kept db J core s =
    let len = ap (λ (ps : List Interface). length ps) s.interfaces ∙ length-map (ifaces_of J) (kept J) in
    let few = few_ifaces db J s.due in
    omega (arith, len, few)

pub as_many_kept : (db : List Domain) (J : Journal) (core : Core) → Keeps db core J → length core.interfaces ≡ length (ifaces_of J)
as_many_kept db J core s = ap (λ (ps : List Interface). length ps) s.interfaces ∙ length-map (ifaces_of J) (kept J)

pub judged_more : (db : List Domain) (J : Journal) (core : Core) (only : Option ℕ) (k : ℕ) (cs all : List Change) (c : Option Change) → Keeps db core J → k < length core.interfaces
    → AreEach (JudgesWanted db J only) (take k (ifaces_of J)) cs → ((x : Iface) → slice_get (ifaces_of J) k ≡ Some x → JudgesWanted db J only x c) → all ≡ cs ++ option_to_list c
    → AreEach (JudgesWanted db J only) (take (k + 1) (ifaces_of J)) all
judged_more db J core only k cs all c s below each is more =
    let len = as_many_kept db J core s in
    each-more (JudgesWanted db J only) (ifaces_of J) k cs all c (omega (arith, len, below)) each is more

pub judged_all : (db : List Domain) (J : Journal) (core : Core) (only : Option ℕ) (k : ℕ) (cs : List Change) → Keeps db core J → length core.interfaces ≤ k
    → AreEach (JudgesWanted db J only) (take k (ifaces_of J)) cs → AreEach (Judges db J) (wanted only (ifaces_of J)) cs
judged_all db J core only k cs s end each =
    let len = as_many_kept db J core s in
    each-filter (is_wanted only) (Judges db J) (ifaces_of J) cs
    (subst (λ xs. AreEach (JudgesWanted db J only) xs cs) (take_all k (ifaces_of J) (omega (arith, len, end))) each)

pub option_short : (o : Option Change) → length (option_to_list o) ≤ 1
option_short None = omega arith
option_short (Some c) = omega arith

pub few_more : (old new : List Change) (c : Option Change) (k : ℕ) → length old ≤ k → new ≡ old ++ option_to_list c → length new ≤ k + 1
few_more old new c k few more =
    let len = ap (λ (cs : List Change). length cs) more ∙ length-append old (option_to_list c) in
    let short = option_short c in
    omega (arith, few, len, short)
