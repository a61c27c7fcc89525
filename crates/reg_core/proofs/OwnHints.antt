-- A driver's hint on a radio that manages itself.
use Rattle.std.proofs.Common.{◌≡◌, ℕ, zero, suc, ◌+◌, ◌==◌, ◌<◌, ◌≤◌, Bool, false, not, List, [], ◌∷◌, map, get_or, Contains, None, IsSome, is_some, arith, sym, subst, ap, ◌∙◌, inl, inr, eq-eqb, eqb-true, ne_eqb}
use Rattle.std.proofs.lemmas.Bool.{cases_Bool, cases_eq, false≢true}
use Rattle.freq_range.proofs.Members.{Contains-cases, Contains-head, Contains-later, Contains-nothing}
use Rattle.rule_tables.specs.Regions.{is_same_region}
use Rattle.rule_tables.specs.declared.code.Alpha2.{Alpha2}
use Rattle.rule_tables.specs.declared.domain.Domain.{Domain}
use Rattle.rule_intersect.specs.Tables.{IsTableOf, Joined}
use Rattle.rule_intersect.specs.declared.fault.ResolveFault.{ResolveFault}
use Rattle.rule_intersect.specs.declared.fault.ResolveFault.TheVariants.{TooManyRows as RowsFault, OutOfMemory}
use Rattle.reg_hints.specs.Table.{Own}
use Rattle.reg_journal.specs.Applicable.{applies, find_domain, global_domains, region_of}
use Rattle.reg_journal.specs.Causes.{IsFree}
use Rattle.reg_journal.specs.Due.{EachMayFollow, FitsItsRadio}
use Rattle.reg_journal.specs.Facts.{Journal, hinted}
use Rattle.reg_journal.specs.Present.{profile_of, radios_of}
use Rattle.reg_journal.specs.Refusals.{HasTooManyRows, HintCauses, RowCauses, all_lists}
use Rattle.reg_journal.specs.declared.refusal.Refusal.TheVariants.{TooManyRows}
use Rattle.reg_journal.proofs.Granting.{free-before, free-where}
use Rattle.reg_core.specs.Kept.{Keeps, StandsFor}
use Rattle.core_parts.specs.Kept.{KeepsPlace, KeepsRadios}
use Rattle.reg_books.specs.Slots.{numbers}
use Rattle.core_parts.specs.Hinting.{IsRowsFault}
use Rattle.core_parts.specs.Making.{HasTable, IsMadeFault}
use Rattle.reg_core.specs.inner.Sweeping.{AreMoved}
use Rattle.reg_core.specs.declared.core_state.Core.{Core}
use Rattle.core_parts.specs.declared.radio.RadioPlace.{RadioPlace}
use Rattle.core_parts.specs.declared.radio.RadioPlace.TheVariants.{Free, Removed, There}
use Rattle.reg_books.proofs.CallOf.{same_region_self}
use Rattle.reg_core.proofs.HintMoves.{hinted_moves}
use Rattle.reg_core.proofs.KeptHinted.{hint_due}
use Rattle.reg_journal.proofs.Lasting.{Contains-kept}
use Rattle.reg_journal.proofs.Listed.{Contains-filter}
use Rattle.reg_books.proofs.Newcomers.{profile_of-unused}
use Rattle.reg_journal.proofs.Operating.{there_small}
use Rattle.core_parts.proofs.RowRefusals.{NoneTooLong, also_not_too_long, first_too_long, free_of_rows, later_too_long, none_too_long}
use Rattle.reg_books.proofs.Spared.{applies-spared, region_of-spared}

-- ---- lists of which one may be too long

-- where all others have tables, it tells how many rows it has
one_too_long : (lists : ℕ → List Domain) (rs : List ℕ) (r rows : ℕ) → Contains rs r → ((q : ℕ) → Contains rs q → (q == r) ≡ false → HasTable (lists q))
    → HasTooManyRows (lists r) rows → RowCauses (map lists rs) (TooManyRows rows)
one_too_long lists [] r rows has tables many = absurd (Contains-nothing r has)
one_too_long lists (q ∷ rs) r rows has tables many = elim (cases_Bool (q == r)) [
  | inl same ↦ subst (λ n. RowCauses (lists n ∷ map lists rs) (TooManyRows rows)) (sym (eqb-true q r same)) (first_too_long (lists r) (map lists rs) rows many)
  | inr other ↦
      let table = tables q (Contains-head q rs) other in
      let later : Contains rs r = elim (Contains-cases q rs r has) [ inl same ↦ absurd (false≢true (sym other ∙ eq-eqb q r same)) | inr later ↦ later ] in
      later_too_long (lists q) table.0 (map lists rs) (TooManyRows rows) table.1
      (one_too_long lists rs r rows later (λ p there. tables p (Contains-later q rs p there)) many)
]

-- where all have tables, none is too long
all_have_tables : (lists : ℕ → List Domain) (rs : List ℕ) → ((q : ℕ) → Contains rs q → HasTable (lists q)) → NoneTooLong (map lists rs)
all_have_tables lists [] tables = none_too_long
all_have_tables lists (q ∷ rs) tables =
    let table = tables q (Contains-head q rs) in
    also_not_too_long (lists q) table.0 (map lists rs) table.1 (all_have_tables lists rs (λ p there. tables p (Contains-later q rs p there)))

-- ---- the radios that are there

in_numbers : (count n r : ℕ) → n ≤ r → r < n + count → Contains (numbers n count) r
in_numbers zero n r from below = absurd (omega (arith, from, below))
in_numbers (suc count) n r from below = elim (cases_eq r n) [
  | inl same ↦ subst (λ m. Contains (n ∷ numbers (n + 1) count) m) (sym same) (Contains-head n (numbers (n + 1) count))
  | inr other ↦ Contains-later n (numbers (n + 1) count) r (in_numbers count (n + 1) r (omega (arith, from, other)) (omega (arith, below)))
]

radio_listed : (db : List Domain) (J : Journal) (r : ℕ) → EachMayFollow db J → IsSome (profile_of J r) → Contains (radios_of J) r
radio_listed db J r due there =
    let small = there_small db J r due there in
    Contains-kept (λ q. is_some (profile_of J q)) (numbers 0 8) r (in_numbers 8 0 r (omega arith) (omega (arith, small))) there

listed_there : (J : Journal) (q : ℕ) → Contains (radios_of J) q → IsSome (profile_of J q)
listed_there J q listed = (Contains-filter (λ r. is_some (profile_of J r)) (numbers 0 8) q listed).0

-- a radio that is there has a table
table_there : (db : List Domain) (J : Journal) (r : ℕ) (place : RadioPlace) → KeepsPlace db J r place → IsSome (profile_of J r) → HasTable (applies db J r)
table_there db J r Free kept there = absurd (false≢true (sym (ap is_some (profile_of-unused J r kept)) ∙ there))
table_there db J r Removed kept there = absurd (false≢true (sym (ap is_some kept.1) ∙ there))
table_there db J r (There radio) kept there = (radio.table, kept.1.table)

-- and keeps it over the hint of another radio's driver
table_beside : (db : List Domain) (J : Journal) (r : ℕ) (a : Alpha2) (core : Core) → Keeps db core J → (q : ℕ) → Contains (radios_of J) q → (q == r) ≡ false
    → HasTable (applies db (hinted (Own r a) ∷ J) q)
table_beside db J r a core s q listed other =
    let there = listed_there J q listed in
    subst HasTable (sym (applies-spared db J q (hinted (Own r a)) other))
    (table_there db J q (get_or core.radios q Free) (s.radios q (there_small db J q s.due there)) there)

-- ---- what speaks against the hint

pub own_rows : (db : List Domain) (J : Journal) (r : ℕ) (a : Alpha2) (core : Core) (fault : ResolveFault) → Keeps db core J → IsSome (profile_of J r)
    → IsMadeFault (applies db (hinted (Own r a) ∷ J) r) fault → IsRowsFault (all_lists db (hinted (Own r a) ∷ J)) fault
own_rows db J r a core (RowsFault after rows) s there is =
    later_too_long (global_domains db J) core.global (map (applies db (hinted (Own r a) ∷ J)) (radios_of J)) (TooManyRows rows) s.global
    (one_too_long (applies db (hinted (Own r a) ∷ J)) (radios_of J) r rows (radio_listed db J r s.due there) (table_beside db J r a core s) (after, is))
own_rows db J r a core OutOfMemory s there is = tt

pub own_free : (db : List Domain) (J : Journal) (r : ℕ) (a : Alpha2) (core : Core) (table : Joined) → Keeps db core J → (find_domain db a ≡ None → ⊥)
    → IsTableOf (applies db (hinted (Own r a) ∷ J) r) table → IsFree (HintCauses db J (Own r a))
own_free db J r a core table s known is =
    free-before _ _ (free-where _ _ known)
    (free-before _ _ (free-where _ _ (λ fifth. fifth))
    (free_of_rows (all_lists db (hinted (Own r a) ∷ J))
    (also_not_too_long (global_domains db J) core.global (map (applies db (hinted (Own r a) ∷ J)) (radios_of J)) s.global
    (all_have_tables (applies db (hinted (Own r a) ∷ J)) (radios_of J) (λ q listed. elim (cases_Bool (q == r)) [
      | inl same ↦ subst (λ n. HasTable (applies db (hinted (Own r a) ∷ J) n)) (sym (eqb-true q r same)) (table, is)
      | inr other ↦ table_beside db J r a core s q listed other
    ])))))

-- ---- what is kept

pub keeps_after_own : (db : List Domain) (J : Journal) (r : ℕ) (a : Alpha2) (core : Core) (radios : List RadioPlace) → Keeps db core J → FitsItsRadio J (Own r a)
    → IsFree (HintCauses db J (Own r a)) → KeepsRadios db (hinted (Own r a) ∷ J) radios → Keeps db (record core { radios = radios }) (hinted (Own r a) ∷ J)
keeps_after_own db J r a core radios s fits free kept = record {
  due = hint_due db J (Own r a) s.due fits free;
  domains = s.domains;
  clock = s.clock;
  indoor = s.indoor;
  hints = s.hints;
  made = s.made;
  global = s.global;
  radios = kept;
  interfaces = s.interfaces;
}

-- ---- regions

pub own_moves : (db : List Domain) (J : Journal) (r : ℕ) (a : Alpha2) (core : Core) (flags : List Bool) → StandsFor db core J → EachMayFollow db (hinted (Own r a) ∷ J)
    → get_or flags r false ≡ not (is_same_region (region_of db (hinted (Own r a) ∷ J) r) (region_of db J r)) → ((q : ℕ) → (q ≡ r → ⊥) → get_or flags q false ≡ false)
    → AreMoved db (hinted (Own r a) ∷ J) flags
own_moves db J r a core flags s due here others = hinted_moves db J (Own r a) core flags s due (λ q below there. elim (cases_eq q r) [
  | inl same ↦ subst (λ n. get_or flags n false ≡ not (is_same_region (region_of db (hinted (Own r a) ∷ J) n) (region_of db J n))) (sym same) here
  | inr other ↦ others q other ∙ sym (ap not (ap (λ x. is_same_region x (region_of db J q)) (region_of-spared db J q (hinted (Own r a)) (ne_eqb q r other)) ∙ same_region_self (region_of db J q)))
])
