-- The table of one domain, and that of a list with one more domain at its end.
use Rattle.std.proofs.Common.{◌≡◌, ℕ, zero, suc, ◌+◌, ◌<◌, ◌≤◌, List, [], ◌∷◌, ◌++◌, length, take, map, All, AllPairs, Contains, arith, refl, sym, ap, ◌∙◌, subst, inl, inr}
use Rattle.std.proofs.lemmas.Bool.{cases_lt}
use Rattle.std.proofs.lemmas.List.{length-append, take-append-le, take_all}
use Rattle.std.proofs.lemmas.List.Elements.{All-contains}
use Rattle.std.proofs.lemmas.Option.{slice_get_within, get_or_from_slice_get}
use Rattle.freq_range.specs.Valid.{IsValidRule}
use Rattle.freq_range.proofs.Members.{Contains-head, Contains-later, Contains-cases, Contains-nothing}
use Rattle.std.proofs.lemmas.List.Kept.{AllPairs-cons}
use Rattle.rule_tables.proofs.Ascending.{before_rest, pairs_rest}
use Rattle.rule_tables.specs.declared.domain.Domain.{Domain}
use Rattle.std.specs.Prelude.{Result, Ok, Err, MatchResult}
use Rattle.std.specs.Result.{IsErrAnd}
use Rattle.rule_intersect.specs.declared.fault.ResolveFault.{ResolveFault}
use Rattle.rule_intersect.specs.declared.fault.ResolveFault.TheVariants.{OutOfMemory}
use Rattle.rule_intersect.specs.declared.row.Row.{Row}
use Rattle.rule_intersect.specs.inner.Pairs.{met_all}
use Rattle.rule_intersect.specs.inner.Pairs.{join_all}
use Rattle.rule_intersect.specs.inner.Own.{AreChoices, AreOwnRows, row_alone}
use Rattle.rule_intersect.specs.Tables.{AreTuples, AreRows, HasRows, HasFewRows, Joined, IsTableOf, IsTooMany, IsResolveFault}
use Rattle.rule_intersect.specs.Tuples.{Choice, IsChoice, IsTuple, IsBefore, HasCommonRange, row_of}
use Rattle.rule_intersect.proofs.Counted.{met_all-length}
use Rattle.rule_intersect.proofs.Extended.{AreRows-more}
use Rattle.rule_intersect.proofs.OwnRows.{length-own, some_own_rows}
use Rattle.rule_intersect.proofs.Ordered.{All-from_members}

rows_alone : (cs : List Choice) → map row_of (map (λ c. c ∷ []) cs) ≡ map row_alone cs
rows_alone [] = refl
rows_alone (c ∷ cs) = ap (λ rows. row_alone c ∷ rows) (rows_alone cs)

has_alone : (cs : List Choice) (c : Choice) → Contains cs c → Contains (map (λ c. c ∷ []) cs) (c ∷ [])
has_alone [] c has = absurd (Contains-nothing c has)
has_alone (e ∷ cs) c has = elim (Contains-cases e cs c has) [
  | inl same ↦ subst (λ x. Contains (map (λ c. c ∷ []) (e ∷ cs)) (x ∷ [])) same (Contains-head (e ∷ []) (map (λ c. c ∷ []) cs))
  | inr later ↦ Contains-later (e ∷ []) (map (λ c. c ∷ []) cs) (c ∷ []) (has_alone cs c later)
]

from_alone : (cs t : List Choice) → Contains (map (λ c. c ∷ []) cs) t → (c : Choice) × Contains cs c × (c ∷ [] ≡ t)
from_alone [] t has = absurd (Contains-nothing t has)
from_alone (e ∷ cs) t has = elim (Contains-cases (e ∷ []) (map (λ c. c ∷ []) cs) t has) [
  | inl same ↦ (e, Contains-head e cs, same)
  | inr later ↦ behind (from_alone cs t later)
]
  where
    behind : (c : Choice) × Contains cs c × (c ∷ [] ≡ t) → (c : Choice) × Contains (e ∷ cs) c × (c ∷ [] ≡ t)
    behind (c, has_c, same) = (c, Contains-later e cs c has_c, same)

ordered_alone : (cs : List Choice) → AllPairs (λ c e. c.number < e.number) cs → AllPairs IsBefore (map (λ c. c ∷ []) cs)
ordered_alone [] up = λ i j d less in_range. absurd (omega arith)
ordered_alone (c ∷ cs) up =
    AllPairs-cons IsBefore (c ∷ []) (map (λ c. c ∷ []) cs) (All-from_members (IsBefore (c ∷ [])) (map (λ c. c ∷ []) cs) first)
    (ordered_alone cs (pairs_rest (λ a b. a.number < b.number) c cs up))
  where
    first : (t : List Choice) → Contains (map (λ c. c ∷ []) cs) t → IsBefore (c ∷ []) t
    first t has =
        let one = from_alone cs t has in
        subst (λ x. IsBefore (c ∷ []) x) one.2 (inl (before_rest (λ a b. a.number < b.number) c cs one.0 up one.1))

tuples_alone : (d : Domain) (cs : List Choice) → All IsValidRule d.rules → AreChoices d.rules (length d.rules) cs → AreTuples (d ∷ []) (map (λ c. c ∷ []) cs)
tuples_alone d cs valid choices = record {
  all = λ t is common. whole t is;
  only = All-from_members (λ t. IsTuple (d ∷ []) t × HasCommonRange t) (map (λ c. c ∷ []) cs) only_these;
  in_order = ordered_alone cs choices.in_order;
}
  where
    whole : (t : List Choice) → IsTuple (d ∷ []) t → Contains (map (λ c. c ∷ []) cs) t
    whole [] is = absurd is
    whole (c ∷ []) is = has_alone cs c (choices.all c is.0 (slice_get_within d.rules c.number c.rule is.0.rule))
    whole (c ∷ e ∷ t) is = absurd is.1

    ranged : (c : Choice) → IsChoice d.rules c → HasCommonRange (c ∷ [])
    ranged c is =
        let in_range = slice_get_within d.rules c.number c.rule is.rule in
        let is_valid : IsValidRule c.rule = subst IsValidRule (get_or_from_slice_get d.rules c.number c.rule c.rule is.rule) (valid c.number c.rule in_range) in
        let order = is_valid.in_order in
        omega arith

    only_these : (t : List Choice) → Contains (map (λ c. c ∷ []) cs) t → IsTuple (d ∷ []) t × HasCommonRange t
    only_these t has =
        let one = from_alone cs t has in
        let choice = (All-contains (λ c. IsChoice d.rules c × (c.number < length d.rules)) cs one.0 choices.only one.1).0 in
        subst (λ x. IsTuple (d ∷ []) x × HasCommonRange x) one.2 ((choice, tt), ranged one.0 choice)

rows_alone_are : (d : Domain) (rows : List Row) → All IsValidRule d.rules → AreOwnRows d.rules (length d.rules) rows → AreRows (d ∷ []) rows
rows_alone_are d rows valid (cs, choices, same) = record {
  tuples = map (λ c. c ∷ []) cs;
  are_tuples = tuples_alone d cs valid choices;
  rows_of_tuples = same ∙ sym (rows_alone cs);
}

few_alone : (d : Domain) (rows : List Row) → All IsValidRule d.rules → length d.rules ≤ 128 → AreOwnRows d.rules (length d.rules) rows → HasFewRows (d ∷ [])
few_alone d rows valid few own =
    let len = length-own d.rules rows own in
    (length rows, (rows, rows_alone_are d rows valid own, refl), omega (arith, len))

pub HasFewRows-first : (d : Domain) → All IsValidRule d.rules → length d.rules ≤ 128 → HasFewRows (d ∷ [])
HasFewRows-first d valid few = let own = some_own_rows d.rules in few_alone d own.0 valid few own.1

pub IsTableOf-first : (d : Domain) (rows : List Row) → All IsValidRule d.rules → length d.rules ≤ 128 → AreOwnRows d.rules (length d.rules) rows
    → IsTableOf (d ∷ []) (record { rows = rows; domains = 1 })
IsTableOf-first d rows valid few own = record {
  some = omega arith;
  domains = refl;
  rows = rows_alone_are d rows valid own;
  few = λ n above within. prefix n above within;
}
  where
    prefix : (n : ℕ) → 0 < n → n ≤ 1 → HasFewRows (take n (d ∷ []))
    prefix zero above within = absurd (omega arith)
    prefix (suc zero) above within = few_alone d rows valid few own
    prefix (suc (suc n)) above within = absurd (omega arith)

-- the prefixes of the longer list
take_longer : (ds : List Domain) (d : Domain) (n : ℕ) → length ds < n → n ≤ length (ds ++ d ∷ []) → take n (ds ++ d ∷ []) ≡ ds ++ d ∷ []
take_longer ds d n above within = take_all n (ds ++ d ∷ []) (let len = length-append ds (d ∷ []) in omega (arith, len))

few_longer : (ds : List Domain) (d : Domain) → ((n : ℕ) → 0 < n → n ≤ length ds → HasFewRows (take n ds))
    → (n : ℕ) → 0 < n → n ≤ length ds → HasFewRows (take n (ds ++ d ∷ []))
few_longer ds d few n above within = subst HasFewRows (sym (take-append-le n ds (d ∷ []) within)) (few n above within)

-- so many pairs of a row and a rule meet, so many rows has the longer list
HasRows-next : (ds : List Domain) (d : Domain) (table : Joined) → IsTableOf ds table → HasRows (ds ++ d ∷ []) (met_all table.rows d.rules)
HasRows-next ds d table is =
    let own = some_own_rows d.rules in
    (join_all table.rows own.0, AreRows-more ds d table.rows own.0 is.some is.rows own.1, met_all-length d.rules table.rows own.0 own.1)

pub HasFewRows-next : (ds : List Domain) (d : Domain) (table : Joined) (count : ℕ) → IsTableOf ds table
    → count ≡ met_all table.rows d.rules → count ≤ 1024 → HasFewRows (ds ++ d ∷ [])
HasFewRows-next ds d table count is counted few = (met_all table.rows d.rules, HasRows-next ds d table is, omega arith)

pub IsTableOf-next : (ds : List Domain) (d : Domain) (table : Joined) (own rows : List Row) (n count : ℕ) → IsTableOf ds table
    → count ≡ met_all table.rows d.rules → count ≤ 1024 → AreOwnRows d.rules (length d.rules) own → rows ≡ join_all table.rows own → n ≡ table.domains + 1
    → IsTableOf (ds ++ d ∷ []) (record { rows = rows; domains = n })
IsTableOf-next ds d table own rows n count is counted few alone joined one_more = record {
  some = let len = length-append ds (d ∷ []) in omega (arith, len);
  domains = let len = length-append ds (d ∷ []) in let same = is.domains in omega (arith, len, same);
  rows = subst (AreRows (ds ++ d ∷ [])) (sym joined) (AreRows-more ds d table.rows own is.some is.rows alone);
  few = λ m above within. elim (cases_lt (length ds) m) [
    | inl longer ↦ subst HasFewRows (sym (take_longer ds d m longer within)) (HasFewRows-next ds d table count is counted few)
    | inr shorter ↦ few_longer ds d is.few m above shorter
  ];
}

pub IsTooMany-next : (ds : List Domain) (d : Domain) (table : Joined) (n count : ℕ) → IsTableOf ds table
    → count ≡ met_all table.rows d.rules → 1024 < count → n ≡ table.domains + 1 → IsTooMany (ds ++ d ∷ []) n count
IsTooMany-next ds d table n count is counted many one_more =
    let len = length-append ds (d ∷ []) in
    let same = is.domains in
    record {
      some = omega arith;
      within = omega (arith, len, same);
      has = subst (λ xs. HasRows xs count) (sym (take_longer ds d n (omega (arith, same)) (omega (arith, len, same))))
          (subst (HasRows (ds ++ d ∷ [])) (sym counted) (HasRows-next ds d table is));
      too_many = many;
      few_before = λ m above below. few_longer ds d is.few m above (omega (arith, same));
    }

-- out of memory is a fault of a list with few rows
pub fault_of_memory : {T : Type 0} (r : Result T ResolveFault) (P : T → Type 0) (ds : List Domain) → IsErrAnd r (λ e. e ≡ OutOfMemory) → HasFewRows ds
    → MatchResult r P (IsResolveFault ds)
fault_of_memory (Ok x) P ds is few = absurd is
fault_of_memory (Err e) P ds is few = subst (IsResolveFault ds) (sym is) few
