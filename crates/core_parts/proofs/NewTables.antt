-- New tables, one place after the other.
use Rattle.std.proofs.Common.{◌≡◌, ℕ, ◌+◌, ◌<◌, List, [], ◌∷◌, ◌++◌, length, drop, get_or, Option, Some, None, Result, Ok, Err, IfErr, arith, sym, subst, ap, ◌∙◌, inl, inr, drop-cons, add-one}
use Rattle.std.proofs.lemmas.Bool.{cases_lt}
use Rattle.std.proofs.lemmas.List.{get_or_append_left, get_or_default, get_or_push}
use Rattle.std.specs.Result.{IsErrAnd}
use Rattle.rule_tables.specs.declared.domain.Domain.{Domain}
use Rattle.rule_intersect.specs.Tables.{Joined}
use Rattle.rule_intersect.specs.declared.fault.ResolveFault.{ResolveFault}
use Rattle.rule_intersect.specs.declared.fault.ResolveFault.TheVariants.{TooManyRows, OutOfMemory}
use Rattle.reg_hints.specs.Table.{State}
use Rattle.reg_hints.specs.declared.hint.Hint.{Hint}
use Rattle.reg_journal.specs.Refusals.{RowCauses}
use Rattle.reg_journal.specs.declared.refusal.Refusal.{Refusal}
use Rattle.reg_journal.specs.declared.refusal.Refusal.TheVariants.{TooManyRows as RowsRefused}
use Rattle.core_parts.specs.Hinting.{AreNewTables, IsNewTable, IsNewTableFault, IsRowsFault, list_after, lists_after}
use Rattle.core_parts.specs.declared.radio.RadioPlace.{RadioPlace}
use Rattle.core_parts.specs.declared.radio.RadioPlace.TheVariants.{Free, Removed, There}
use Rattle.core_parts.proofs.Taken.{IsPopped}
use Rattle.core_parts.proofs.RowRefusals.{later_too_long, rows_of_fault}

-- ---- tables that are made

pub one_more_table : (db : List Domain) (hints : State) (hint : Hint) (places : List RadioPlace) (tables : List (Option Joined)) (k : ℕ) (place : RadioPlace) (table : Option Joined)
    → length tables ≡ k → k < length places → ((r : ℕ) → r < k → IsNewTable db hints hint r (get_or places r Free) (get_or tables r None))
    → place ≡ get_or places k place → IsNewTable db hints hint k place table
    → (r : ℕ) → r < k + 1 → IsNewTable db hints hint r (get_or places r Free) (get_or (tables ++ table ∷ []) r None)
one_more_table db hints hint places tables k place table count within each here is r below = elim (cases_lt r k) [
  | inl earlier ↦
      subst (λ t. IsNewTable db hints hint r (get_or places r Free) t) (sym (get_or_append_left tables (table ∷ []) None r (omega (arith, earlier, count)))) (each r earlier)
  | inr above ↦
      let same : k ≡ r = omega (arith, above, below) in
      subst (λ n. IsNewTable db hints hint n (get_or places n Free) (get_or (tables ++ table ∷ []) n None)) same
      (subst (λ t. IsNewTable db hints hint k (get_or places k Free) t) (sym (get_or_push tables table None k count))
      (subst (λ s. IsNewTable db hints hint k s table) (here ∙ get_or_default places k place Free within) is))
]

-- ---- lists that are too long

pub past_a_table : (db : List Domain) (hints : State) (hint : Hint) (r : ℕ) (place : RadioPlace) (places : List RadioPlace) (table : Option Joined) (e : Refusal)
    → IsNewTable db hints hint r place table → RowCauses (lists_after db hints hint (r + 1) places) e → RowCauses (lists_after db hints hint r (place ∷ places)) e
past_a_table db hints hint r Free places table e is rest = rest
past_a_table db hints hint r Removed places table e is rest = rest
past_a_table db hints hint r (There radio) places None e is rest = absurd is
past_a_table db hints hint r (There radio) places (Some table) e is rest =
    later_too_long (list_after db hints hint r radio) table (lists_after db hints hint (r + 1) places) e is rest

at_a_fault : (db : List Domain) (hints : State) (hint : Hint) (r : ℕ) (place : RadioPlace) (places : List RadioPlace) (fault : ResolveFault)
    → IsNewTableFault db hints hint r place fault → IsRowsFault (lists_after db hints hint r (place ∷ places)) fault
at_a_fault db hints hint r Free places fault is = absurd is
at_a_fault db hints hint r Removed places fault is = absurd is
at_a_fault db hints hint r (There radio) places fault is = rows_of_fault (list_after db hints hint r radio) (lists_after db hints hint (r + 1) places) fault is

split_at : (places : List RadioPlace) (k : ℕ) (place : RadioPlace) → k < length places → place ≡ get_or places k place → place ∷ drop (k + 1) places ≡ drop k places
split_at places k place within here =
    let split : drop k places ≡ get_or places k place ∷ drop (k + 1) places = rw (add-one, drop-cons places k place) in
    ap (λ s. s ∷ drop (k + 1) places) here ∙ sym split

pub rest_past : (db : List Domain) (hints : State) (hint : Hint) (places : List RadioPlace) (k : ℕ) (place : RadioPlace) (table : Option Joined) (e : Refusal) → k < length places
    → place ≡ get_or places k place → IsNewTable db hints hint k place table → RowCauses (lists_after db hints hint (k + 1) (drop (k + 1) places)) e
    → RowCauses (lists_after db hints hint k (drop k places)) e
rest_past db hints hint places k place table e within here is rest =
    subst (λ xs. RowCauses (lists_after db hints hint k xs) e) (split_at places k place within here)
    (past_a_table db hints hint k place (drop (k + 1) places) table e is rest)

pub rest_fault : (db : List Domain) (hints : State) (hint : Hint) (places : List RadioPlace) (k : ℕ) (place : RadioPlace) (fault : ResolveFault) → k < length places
    → ((e : Refusal) → RowCauses (lists_after db hints hint k (drop k places)) e → RowCauses (lists_after db hints hint 0 places) e)
    → place ≡ get_or places k place → IsNewTableFault db hints hint k place fault → IsRowsFault (lists_after db hints hint 0 places) fault
rest_fault db hints hint places k place (TooManyRows after rows) within rest here is =
    rest (RowsRefused rows)
    (subst (λ xs. RowCauses (lists_after db hints hint k xs) (RowsRefused rows)) (split_at places k place within here)
    (at_a_fault db hints hint k place (drop (k + 1) places) (TooManyRows after rows) is))
rest_fault db hints hint places k place OutOfMemory within rest here is = tt

pub refused : {T : Type 0} (lists : List (List Domain)) (r : Result T ResolveFault) (fault : ResolveFault) → IsErrAnd r (λ e. e ≡ fault) → IsRowsFault lists fault
    → IfErr r (IsRowsFault lists)
refused lists (Ok x) fault is rows = tt
refused lists (Err e) fault is rows = subst (IsRowsFault lists) (sym is) rows

-- ---- tables that are put in

-- the last of the tables that are left is that of its place, which is still as it was
pub table_at : (db : List Domain) (hints : State) (hint : Hint) (old now : List RadioPlace) (tables rest : List (Option Joined)) (table : Option Joined) (place : RadioPlace)
    → AreNewTables db hints hint old tables → IsPopped tables rest table → length now ≡ length old
    → get_or now (length rest) Free ≡ get_or old (length rest) Free → IsNewTable db hints hint (length rest) (get_or now (length rest) place) table
table_at db hints hint old now tables rest table place are last long same =
    let n = length rest in
    let within = last.within in
    let all = are.all in
    subst (λ s. IsNewTable db hints hint n s table) (sym same ∙ sym (get_or_default now n place Free (omega (arith, within, all, long))))
    (subst (λ t. IsNewTable db hints hint n (get_or old n Free) t) (sym (last.last None)) (are.each n (omega (arith, within, all))))
