-- A list of domains has one table at most, and none where it has a fault.
use Rattle.std.proofs.Common.{◌≡◌, ℕ, ◌<◌, List, length, take, map, Contains, arith, sym, ap, ◌∙◌, subst, inl, inr}
use Rattle.std.proofs.lemmas.Bool.{cases_order}
use Rattle.std.proofs.lemmas.List.Elements.{All-contains}
use Rattle.rule_tables.specs.declared.domain.Domain.{Domain}
use Rattle.rule_intersect.specs.declared.row.Row.{Row}
use Rattle.rule_intersect.specs.Tables.{AreTuples, AreRows, Joined, IsTableOf, IsTooMany}
use Rattle.rule_intersect.specs.Tuples.{Choice, IsTuple, IsBefore, HasCommonRange, row_of}
use Rattle.rule_intersect.proofs.Longer.{IsBefore-asymmetric}
use Rattle.rule_intersect.proofs.Ordered.{one_order}

AreTuples-unique : (ds : List Domain) (ts us : List (List Choice)) → AreTuples ds ts → AreTuples ds us → ts ≡ us
AreTuples-unique ds ts us one other =
    one_order IsBefore IsBefore-asymmetric ts us one.in_order other.in_order (among ts us one other) (among us ts other one)
  where
    among : (xs ys : List (List Choice)) → AreTuples ds xs → AreTuples ds ys → (t : List Choice) → Contains xs t → Contains ys t
    among xs ys are_x are_y t has =
        let is = All-contains (λ t. IsTuple ds t × HasCommonRange t) xs t are_x.only has in
        are_y.all t is.0 is.1

pub AreRows-unique : (ds : List Domain) (rows others : List Row) → AreRows ds rows → AreRows ds others → rows ≡ others
AreRows-unique ds rows others one other =
    one.rows_of_tuples ∙ ap (λ ts. map row_of ts) (AreTuples-unique ds one.tuples other.tuples one.are_tuples other.are_tuples) ∙ sym other.rows_of_tuples

pub IsTableOf-unique : (ds : List Domain) (table other : Joined) → IsTableOf ds table → IsTableOf ds other → table ≡ other
IsTableOf-unique ds table other one two =
    same_table table.rows other.rows table.domains other.domains (AreRows-unique ds table.rows other.rows one.rows two.rows) (one.domains ∙ sym two.domains)
  where
    same_table : (xs ys : List Row) (m n : ℕ) → xs ≡ ys → m ≡ n → ◌≡◌ {A = Joined} (record { rows = xs; domains = m }) (record { rows = ys; domains = n })
    same_table xs ys m n p q = cc

pub no_table_of_too_many : (ds : List Domain) (table : Joined) (after n : ℕ) → IsTableOf ds table → IsTooMany ds after n → ⊥
no_table_of_too_many ds table after n is fault =
    let few = is.few after fault.some fault.within in
    let same = ap length (AreRows-unique (take after ds) few.1.0 fault.has.0 few.1.1 fault.has.1) in
    let many = fault.too_many in
    omega (arith, same, few.1.2, fault.has.2, few.2, many)

-- where two prefixes are the least, they and their rows are one
pub IsTooMany-unique : (ds : List Domain) (after m other n : ℕ) → IsTooMany ds after m → IsTooMany ds other n → (after ≡ other) × (m ≡ n)
IsTooMany-unique ds after m other n one two =
    let same = same_after in
    (same, one.has.2 ∙ ap length (AreRows-unique (take other ds) one.has.0 two.has.0 (subst (λ k. AreRows (take k ds) one.has.0) same one.has.1) two.has.1) ∙ sym two.has.2)
  where
    not_below : (a b k l : ℕ) → IsTooMany ds a k → IsTooMany ds b l → a < b → ⊥
    not_below a b k l first later less =
        let few = later.few_before a first.some less in
        let same = ap length (AreRows-unique (take a ds) few.1.0 first.has.0 few.1.1 first.has.1) in
        let many = first.too_many in
        omega (arith, same, few.1.2, first.has.2, few.2, many)

    same_after : after ≡ other
    same_after = elim (cases_order after other) [
      | inl same ↦ same
      | inr (inl less) ↦ absurd (not_below after other m n one two less)
      | inr (inr more) ↦ absurd (not_below other after n m two one more)
    ]
