-- Each list of domains has a table or too many rows.
use Rattle.std.proofs.Common.{ℕ, ◌+◌, ◌<◌, ◌≤◌, ◌⊎◌, List, [], ◌∷◌, ◌++◌, length, All, arith, refl, sym, subst, inl, inr, append_assoc}
use Rattle.std.proofs.lemmas.Bool.{cases_lt}
use Rattle.std.proofs.lemmas.List.{length-append, take-append-le, append-nil}
use Rattle.std.proofs.lemmas.List.Elements.{All-head}
use Rattle.freq_range.specs.Valid.{IsValidRule}
use Rattle.rule_tables.specs.declared.domain.Domain.{Domain}
use Rattle.rule_intersect.specs.inner.Pairs.{met_all}
use Rattle.rule_intersect.specs.inner.Pairs.{join_all}
use Rattle.rule_intersect.specs.Tables.{HasRows, HasFewRows, Joined, IsTableOf, IsTooMany}
use Rattle.rule_intersect.proofs.OwnRows.{some_own_rows}
use Rattle.rule_intersect.proofs.Resolved.{IsTableOf-first, IsTableOf-next, IsTooMany-next}

IsTooMany-front : (xs ys : List Domain) (after n : ℕ) → IsTooMany xs after n → IsTooMany (xs ++ ys) after n
IsTooMany-front xs ys after n fault =
    let len = length-append xs ys in
    let within = fault.within in
    record {
      some = fault.some;
      within = omega (arith, len, within);
      has = subst (λ ds. HasRows ds n) (sym (take-append-le after xs ys within)) fault.has;
      too_many = fault.too_many;
      few_before = λ m above below. subst HasFewRows (sym (take-append-le m xs ys (omega (arith, within)))) (fault.few_before m above below);
    }

-- the front has a table, and the rest follows
resolved : (front rest : List Domain) (table : Joined) → IsTableOf front table
    → ((t : Joined) × IsTableOf (front ++ rest) t) ⊎ ((after : ℕ) × (n : ℕ) × IsTooMany (front ++ rest) after n)
resolved front [] table is = inl (table, subst (λ ds. IsTableOf ds table) (sym (append-nil front)) is)
resolved front (d ∷ rest) table is = elim (cases_lt 1024 (met_all table.rows d.rules)) [
  | inl many ↦
      let fault = IsTooMany-next front d table (table.domains + 1) (met_all table.rows d.rules) is refl many refl in
      inr (
        table.domains + 1,
        met_all table.rows d.rules,
        subst (λ ds. IsTooMany ds (table.domains + 1) (met_all table.rows d.rules)) (append_assoc front (d ∷ []) rest)
            (IsTooMany-front (front ++ d ∷ []) rest (table.domains + 1) (met_all table.rows d.rules) fault),
      )
  | inr few ↦
      let own = some_own_rows d.rules in
      let longer : Joined = record { rows = join_all table.rows own.0; domains = table.domains + 1 } in
      let is_longer = IsTableOf-next front d table own.0 (join_all table.rows own.0) (table.domains + 1) (met_all table.rows d.rules) is refl few own.1 refl refl in
      moved (resolved (front ++ d ∷ []) rest longer is_longer)
]
  where
    moved : ((t : Joined) × IsTableOf ((front ++ d ∷ []) ++ rest) t) ⊎ ((after : ℕ) × (n : ℕ) × IsTooMany ((front ++ d ∷ []) ++ rest) after n)
        → ((t : Joined) × IsTableOf (front ++ (d ∷ rest)) t) ⊎ ((after : ℕ) × (n : ℕ) × IsTooMany (front ++ (d ∷ rest)) after n)
    moved answer = subst (λ ds. ((t : Joined) × IsTableOf ds t) ⊎ ((after : ℕ) × (n : ℕ) × IsTooMany ds after n)) (append_assoc front (d ∷ []) rest) answer

pub table_or_too_many : (ds : List Domain) → 0 < length ds → All (λ d. All IsValidRule d.rules) ds → All (λ d. length d.rules ≤ 128) ds
    → ((t : Joined) × IsTableOf ds t) ⊎ ((after : ℕ) × (n : ℕ) × IsTooMany ds after n)
table_or_too_many [] some valid few = absurd (omega arith)
table_or_too_many (d ∷ ds) some valid few =
    let valid_first = All-head (λ d. All IsValidRule d.rules) d ds valid in
    let few_first = All-head (λ d. length d.rules ≤ 128) d ds few in
    let own = some_own_rows d.rules in
    resolved (d ∷ []) ds (record { rows = own.0; domains = 1 }) (IsTableOf-first d own.0 valid_first few_first own.1)
