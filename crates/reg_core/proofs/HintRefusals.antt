-- What speaks against a hint, by the lists that have tables after it.
use Rattle.std.proofs.Common.{◌≡◌, ℕ, suc, ◌+◌, ◌<◌, List, [], ◌∷◌, length, get_or, Option, Some, None, IsSome, arith, refl, sym, subst, ap, ap₂, ◌∙◌, inl, inr, add-zero, zero-add}
use Rattle.rule_tables.specs.declared.code.Alpha2.{Alpha2}
use Rattle.rule_tables.specs.declared.domain.Domain.{Domain}
use Rattle.rule_intersect.specs.Tables.{IsTableOf, Joined}
use Rattle.rule_intersect.specs.declared.fault.ResolveFault.{ResolveFault}
use Rattle.rule_intersect.specs.declared.fault.ResolveFault.TheVariants.{TooManyRows, OutOfMemory}
use Rattle.reg_hints.specs.Table.{Hinted, hinted_code, IsOneTooMany, State, Treated, after_hint}
use Rattle.reg_hints.specs.declared.hint.Hint.{Hint}
use Rattle.reg_journal.specs.Applicable.{AddsFifthCode, code_of_hint, find_domain, hints_of}
use Rattle.reg_journal.specs.Causes.{IsFree}
use Rattle.reg_journal.specs.Facts.{Journal, hinted}
use Rattle.reg_journal.specs.Refusals.{HintCauses, RowCauses, all_lists}
use Rattle.reg_journal.specs.declared.refusal.Refusal.TheVariants.{NoCountry, TooManyDomains}
use Rattle.reg_journal.proofs.Granting.{free-before, free-where}
use Rattle.reg_core.specs.inner.Deciding.{IsReason}
use Rattle.core_parts.specs.Hinting.{IsNewTable, IsRowsFault, lists_after}
use Rattle.core_parts.specs.Kept.{KeepsRadios}
use Rattle.reg_books.specs.Lists.{global_by}
use Rattle.reg_core.specs.inner.Outcomes.{AreHintTables}
use Rattle.reg_core.specs.declared.declined.Declined.{Declined}
use Rattle.reg_core.specs.declared.declined.Declined.TheVariants.{Refused, OutOfMemory as NoMemory}
use Rattle.reg_core.specs.declared.hint_outcomes.HintTables.{HintTables}
use Rattle.core_parts.specs.declared.radio.RadioPlace.{RadioPlace}
use Rattle.core_parts.specs.declared.radio.RadioPlace.TheVariants.{Free, Removed, There}
use Rattle.core_parts.proofs.AllLists.{lists_of_radios}
use Rattle.core_parts.proofs.RowRefusals.{NoneTooLong, also_not_too_long, free_of_rows, later_too_long, none_too_long}

-- ---- lists that have tables

with_tables : (db : List Domain) (hints : State) (hint : Hint) (places : List RadioPlace) (r : ℕ)
    → ((k : ℕ) → k < length places → (table : Option Joined) × IsNewTable db hints hint (r + k) (get_or places k Free) table) → NoneTooLong (lists_after db hints hint r places)
with_tables db hints hint [] r each = none_too_long
with_tables db hints hint (place ∷ places) r each =
    let here = each 0 (omega arith) in
    at_place place here.0 (subst (λ n. IsNewTable db hints hint n place here.0) (add-zero r) here.1)
    (with_tables db hints hint places (r + 1) (λ k below.
    let later = each (suc k) (omega (arith, below)) in
    (later.0, subst (λ n. IsNewTable db hints hint n (get_or places k Free) later.0) (moved k) later.1)))
  where
    moved : (k : ℕ) → r + suc k ≡ r + 1 + k
    moved k = omega arith

    at_place : (place : RadioPlace) (table : Option Joined) → IsNewTable db hints hint r place table → NoneTooLong (lists_after db hints hint (r + 1) places)
        → NoneTooLong (lists_after db hints hint r (place ∷ places))
    at_place Free table is rest = rest
    at_place Removed table is rest = rest
    at_place (There radio) None is rest = absurd is
    at_place (There radio) (Some table) is rest = also_not_too_long _ table _ is rest

free_of_all_rows : (db : List Domain) (hints : State) (hint : Hint) (places : List RadioPlace) (tables : HintTables) → AreHintTables db hints hint places tables
    → IsFree (RowCauses (global_by db hints ∷ lists_after db hints hint 0 places))
free_of_all_rows db hints hint places tables are =
    free_of_rows (global_by db hints ∷ lists_after db hints hint 0 places)
    (also_not_too_long (global_by db hints) tables.global (lists_after db hints hint 0 places) are.global (with_tables db hints hint places 0 each))
  where
    each : (k : ℕ) → k < length places → (table : Option Joined) × IsNewTable db hints hint (0 + k) (get_or places k Free) table
    each k below =
        (get_or tables.radios.items k None, subst (λ n. IsNewTable db hints hint n (get_or places k Free) (get_or tables.radios.items k None)) (sym (zero-add k)) (are.radios.each k below))

-- ---- a hint

-- the hint's code is known, it adds no fifth one, and all hints then have led to these
pub record MayLead (db : List Domain) (J : Journal) (hint : Hint) (led : State) : Type 0 where
  pub known : find_domain db (hinted_code hint) ≡ None → ⊥
  pub few : AddsFifthCode J (Treated hint) → ⊥
  pub led_is : led ≡ hints_of (hinted (Treated hint) ∷ J)

-- as it is seen from what is kept
pub may_lead : (db domains : List Domain) (J : Journal) (a : Alpha2) (hint : Hint) (hints led : State) → domains ≡ db → hints ≡ hints_of J → a ≡ hinted_code hint → (find_domain domains a ≡ None → ⊥)
    → (IsOneTooMany hints hint → ⊥) → led ≡ after_hint hint hints → MayLead db J hint led
may_lead db domains J a hint hints led db_is hints_are code known few led_is = record {
  known = subst (λ code. find_domain db code ≡ None → ⊥) code (subst (λ ds. find_domain ds a ≡ None → ⊥) db_is known);
  few = subst (λ s. IsOneTooMany s hint → ⊥) hints_are few;
  led_is = led_is ∙ ap (after_hint hint) hints_are;
}

-- the lists are those that the journal says the hint may change
lists_after_hint : (db : List Domain) (J : Journal) (hint : Hint) (led : State) (places : List RadioPlace) → length places ≡ 8 → KeepsRadios db J places
    → led ≡ hints_of (hinted (Treated hint) ∷ J) → global_by db led ∷ lists_after db led hint 0 places ≡ all_lists db (hinted (Treated hint) ∷ J)
lists_after_hint db J hint led places eight kept led_is =
    ap₂ (λ ds lists. ds ∷ lists) (ap (global_by db) led_is) (lists_of_radios db J hint led places eight kept (sym led_is))

-- where all lists have tables, nothing speaks against it
pub free_of_tables : (db : List Domain) (J : Journal) (hint : Hint) (led : State) (places : List RadioPlace) (tables : HintTables) → MayLead db J hint led
    → length places ≡ 8 → KeepsRadios db J places → AreHintTables db led hint places tables → IsFree (HintCauses db J (Treated hint))
free_of_tables db J hint led places tables may eight kept are =
    free-before _ _ (free-where _ _ may.known)
    (free-before _ _ (free-where _ _ may.few)
    (subst (λ lists. IsFree (RowCauses lists)) (lists_after_hint db J hint led places eight kept may.led_is) (free_of_all_rows db led hint places tables are)))

-- the rows alone speak against a hint for a known code that adds no fifth one
pub hint_barred : (db : List Domain) (J : Journal) (hint : Hinted) (d : Declined) → (find_domain db (code_of_hint hint) ≡ None → ⊥) → (AddsFifthCode J hint → ⊥)
    → IsReason (RowCauses (all_lists db (hinted hint ∷ J))) d → IsReason (HintCauses db J hint) d
hint_barred db J hint (Refused e) known few cause = inr (free-where _ _ known, inr (free-where _ _ few, cause))
hint_barred db J hint NoMemory known few reason = tt

-- and else the rows do
pub reason_of_rows : (db : List Domain) (J : Journal) (hint : Hint) (led : State) (places : List RadioPlace) (d : Declined) → MayLead db J hint led
    → length places ≡ 8 → KeepsRadios db J places → IsReason (RowCauses (global_by db led ∷ lists_after db led hint 0 places)) d
    → IsReason (HintCauses db J (Treated hint)) d
reason_of_rows db J hint led places d may eight kept reason =
    hint_barred db J (Treated hint) d may.known may.few
    (subst (λ lists. IsReason (RowCauses lists) d) (lists_after_hint db J hint led places eight kept may.led_is) reason)

-- ---- a hint that nothing speaks against

-- what isn't missing is there
pub some_unless_none : {X : Type 0} (o : Option X) → (o ≡ None → ⊥) → IsSome o
some_unless_none None there = absurd (there refl)
some_unless_none (Some x) there = refl

code_known : (db : List Domain) (J : Journal) (hint : Hinted) → IsFree (HintCauses db J hint) → find_domain db (code_of_hint hint) ≡ None → ⊥
code_known db J hint free none = free (NoCountry (code_of_hint hint)) (inl (none, refl))

pub known_domain : (db : List Domain) (J : Journal) (hint : Hinted) → IsFree (HintCauses db J hint) → IsSome (find_domain db (code_of_hint hint))
known_domain db J hint free = some_unless_none (find_domain db (code_of_hint hint)) (code_known db J hint free)

pub no_fifth_code : (db : List Domain) (J : Journal) (hint : Hinted) → IsFree (HintCauses db J hint) → AddsFifthCode J hint → ⊥
no_fifth_code db J hint free many = free TooManyDomains (inr (free-where _ _ (code_known db J hint free), inl (many, refl)))

-- ---- the global list before those of the radios

pub rows_after_global : (ds : List Domain) (table : Joined) (lists : List (List Domain)) (fault : ResolveFault) → IsTableOf ds table → IsRowsFault lists fault
    → IsRowsFault (ds ∷ lists) fault
rows_after_global ds table lists (TooManyRows after_hint rows) is cause = later_too_long ds table lists _ is cause
rows_after_global ds table lists OutOfMemory is cause = tt
