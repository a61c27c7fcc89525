-- The first list with too many rows, among lists one after the other.
use Rattle.std.proofs.Common.{◌≡◌, ℕ, zero, suc, ◌<◌, List, [], ◌∷◌, arith, refl, subst}
use Rattle.std.proofs.lemmas.Option.{none-some}
use Rattle.rule_tables.specs.declared.domain.Domain.{Domain}
use Rattle.rule_intersect.specs.Tables.{Joined, IsTableOf}
use Rattle.rule_intersect.specs.declared.fault.ResolveFault.{ResolveFault}
use Rattle.rule_intersect.specs.declared.fault.ResolveFault.TheVariants.{TooManyRows as RowsFault, OutOfMemory}
use Rattle.rule_intersect.proofs.OneTable.{no_table_of_too_many}
use Rattle.reg_journal.specs.Causes.{IsFree}
use Rattle.reg_journal.specs.Refusals.{HasTooManyRows, IsTooLongAt, RowCauses}
use Rattle.reg_journal.specs.declared.refusal.Refusal.{Refusal}
use Rattle.reg_journal.specs.declared.refusal.Refusal.TheVariants.{TooManyRows}
use Rattle.core_parts.specs.Hinting.{IsRowsFault}
use Rattle.core_parts.specs.Making.{IsMadeFault}

pub first_too_long : (ds : List Domain) (lists : List (List Domain)) (rows : ℕ) → HasTooManyRows ds rows → RowCauses (ds ∷ lists) (TooManyRows rows)
first_too_long ds lists rows has =
    (0, record { here = (ds, refl, (rows, has)); none_before = λ j below long. omega (arith, below) }, ds, refl, rows, has, refl)

-- a list that has a table isn't
pub not_too_long : (ds : List Domain) (table : Joined) (lists : List (List Domain)) → IsTableOf ds table → IsTooLongAt (ds ∷ lists) 0 → ⊥
not_too_long ds table lists is (es, at, long) =
    let same : ds ≡ es = cc in
    no_table_of_too_many es table long.1.0 long.0 (subst (λ xs. IsTableOf xs table) same is) long.1.1

pub later_too_long : (ds : List Domain) (table : Joined) (lists : List (List Domain)) (e : Refusal) → IsTableOf ds table → RowCauses lists e → RowCauses (ds ∷ lists) e
later_too_long ds table lists e is (k, first, es, at, rows, has, same) =
    (suc k, record { here = first.here; none_before = none }, es, at, rows, has, same)
  where
    none : (j : ℕ) → j < suc k → IsTooLongAt (ds ∷ lists) j → ⊥
    none zero below long = not_too_long ds table lists is long
    none (suc j) below long = first.none_before j (omega (arith, below)) long

-- ---- none is too long

-- none of the lists has too many rows
abbrev pub NoneTooLong : List (List Domain) → Type 0
NoneTooLong lists = (k : ℕ) → IsTooLongAt lists k → ⊥

pub none_too_long : NoneTooLong []
none_too_long k (ds, at, long) = absurd (none-some ds at)

pub also_not_too_long : (ds : List Domain) (table : Joined) (lists : List (List Domain)) → IsTableOf ds table → NoneTooLong lists → NoneTooLong (ds ∷ lists)
also_not_too_long ds table lists is none zero long = not_too_long ds table lists is long
also_not_too_long ds table lists is none (suc k) long = none k long

pub free_of_rows : (lists : List (List Domain)) → NoneTooLong lists → IsFree (RowCauses lists)
free_of_rows lists none e cause = none cause.0 cause.1.here

-- ---- why a list has no table

pub rows_of_fault : (ds : List Domain) (lists : List (List Domain)) (fault : ResolveFault) → IsMadeFault ds fault → IsRowsFault (ds ∷ lists) fault
rows_of_fault ds lists (RowsFault after rows) is = first_too_long ds lists rows (after, is)
rows_of_fault ds lists OutOfMemory is = tt
