-- An interface with an operation is there, and has no running check.
use Rattle.std.proofs.Common.{◌≡◌, ℕ, ◌+◌, List, [], ◌∷◌, Option, Some, None, IsSome, IsSomeAnd, refl, sym, subst, ap, ◌∙◌, inl, inr, eq-eqb, ne_eqb}
use Rattle.std.proofs.lemmas.Bool.{cases_eq, false≢true}
use Rattle.std.proofs.lemmas.Option.{none-some}
use Rattle.rule_tables.specs.declared.domain.Domain.{Domain}
use Rattle.chan_def.specs.declared.definition.ChanDef.{ChanDef}
use Rattle.reg_journal.specs.Due.{EachMayFollow}
use Rattle.reg_journal.specs.Facts.{Fact, Journal, ended, started, stopped, powered, check_begun}
use Rattle.reg_journal.specs.Present.{Check, Operation, check_of, indexed, made_of, operation_of}
use Rattle.reg_journal.proofs.Homes.{home_of, home_stays, none_next}
use Rattle.reg_journal.proofs.LastCheck.{check_before, check_home, home_indexed}
use Rattle.reg_journal.proofs.Splits.{check_cases, none_began}

-- ---- operations

-- what isn't none
pub some_value : {X : Type 0} (o : Option X) → IsSome o → (x : X) × (o ≡ Some x)
some_value None is = absurd (false≢true is)
some_value (Some x) is = (x, refl)

-- what has a property is there
pub some_of_property : {X : Type 0} (o : Option X) (P : X → Type 0) → IsSomeAnd o P → IsSome o
some_of_property None P is = absurd is
some_of_property (Some x) P is = refl

-- an interface with an operation is there
pub operation_home : (db : List Domain) (J : Journal) (i : ℕ) (o : Operation) → EachMayFollow db J → operation_of J i ≡ Some o → (r : ℕ) × (home_of J i ≡ Some r)
operation_home db [] i o due is = absurd (none-some o is)
operation_home db (started j chan power ∷ J) i o due is = elim (cases_eq i j) [
  | inl same ↦ home_indexed J i (subst (λ n. IsSome (indexed J n)) (sym same) (some_of_property (indexed J j) _ due.0.0.1))
  | inr other ↦ operation_home db J i o due.1 (rw (ne_eqb i j other) at is)
]
operation_home db (stopped j ∷ J) i o due is = elim (cases_eq i j) [
  | inl same ↦ absurd (none-some o (rw (eq-eqb i j same) at is))
  | inr other ↦ operation_home db J i o due.1 (rw (ne_eqb i j other) at is)
]
operation_home db (powered j power ∷ J) i o due is = elim (cases_eq i j) [
  | inl same ↦ let was = some_value (operation_of J j) due.0.0 in operation_home db J i was.0 due.1 (ap (operation_of J) same ∙ was.1)
  | inr other ↦ operation_home db J i o due.1 (rw (ne_eqb i j other) at is)
]
operation_home db (ended j ∷ J) i o due is =
    let was = operation_home db J i o due.1 is in
    let resting : operation_of J j ≡ None = due.0.1 in
    (was.0, home_stays (ended j) J i was.0 (λ same. let index : j ≡ i = cc in none-some o (sym (subst (λ n. operation_of J n ≡ None) index resting) ∙ is)) was.1)
operation_home db (f ∷ J) i o due is =
    let was = operation_home db J i o due.1 is in
    (was.0, home_stays f J i was.0 (λ same. cc) was.1)

-- ---- checks beside them

-- the fact begins a check on the interface
abbrev pub BeginsCheck : Fact → ℕ → Type 0
BeginsCheck f i = (chan : ChanDef) × (length : ℕ) × (f ≡ check_begun i chan length)

-- a running check ran before a fact that begins none
pub check_ran : (db : List Domain) (f : Fact) (J : Journal) (i : ℕ) (k : Check) → EachMayFollow db (f ∷ J) → (BeginsCheck f i → ⊥) → check_of (f ∷ J) i ≡ Some k
    → check_of J i ≡ Some k
check_ran db f J i k due other is = elim (check_before db (f ∷ []) J i k due is) [
  | inl has ↦ elim (check_cases f [] i has) [
    | inl newest ↦ absurd (other newest)
    | inr older ↦ absurd (none_began i older)
  ]
  | inr was ↦ was
]

-- so where none ran before it, none runs after it
pub no_check_after : (db : List Domain) (f : Fact) (J : Journal) (i : ℕ) → EachMayFollow db (f ∷ J) → (BeginsCheck f i → ⊥) → check_of J i ≡ None
    → check_of (f ∷ J) i ≡ None
no_check_after db f J i due other none = by (check_of (f ∷ J) i) refl
  where
    by : (o : Option Check) → check_of (f ∷ J) i ≡ o → check_of (f ∷ J) i ≡ None
    by None is = is
    by (Some k) is = absurd (none-some k (sym none ∙ check_ran db f J i k due other is))

-- no check runs beside an operation
pub no_check_beside : (db : List Domain) (J : Journal) (i : ℕ) (o : Operation) → EachMayFollow db J → operation_of J i ≡ Some o → check_of J i ≡ None
no_check_beside db [] i o due is = refl
no_check_beside db (started j chan power ∷ J) i o due is = elim (cases_eq i j) [
  | inl same ↦ ap (check_of J) same ∙ due.0.0.0
  | inr other ↦ no_check_beside db J i o due.1 (rw (ne_eqb i j other) at is)
]
no_check_beside db (stopped j ∷ J) i o due is = elim (cases_eq i j) [
  | inl same ↦ absurd (none-some o (rw (eq-eqb i j same) at is))
  | inr other ↦ no_check_beside db J i o due.1 (rw (ne_eqb i j other) at is)
]
no_check_beside db (powered j power ∷ J) i o due is = elim (cases_eq i j) [
  | inl same ↦ let was = some_value (operation_of J j) due.0.0 in no_check_beside db J i was.0 due.1 (ap (operation_of J) same ∙ was.1)
  | inr other ↦ no_check_beside db J i o due.1 (rw (ne_eqb i j other) at is)
]
no_check_beside db (check_begun j chan length ∷ J) i o due is = elim (cases_eq i j) [
  | inl same ↦ absurd (none-some o (sym (ap (operation_of J) same ∙ due.0.0.1) ∙ is))
  | inr other ↦
      no_check_after db (check_begun j chan length) J i due (λ (c, n, begins). let index : j ≡ i = cc in other (sym index))
      (no_check_beside db J i o due.1 is)
]
no_check_beside db (f ∷ J) i o due is = no_check_after db f J i due (λ (c, n, begins). cc) (no_check_beside db J i o due.1 is)

-- ---- indexes that are still to come

pub no_operation_next : (db : List Domain) (J : Journal) (i : ℕ) → EachMayFollow db J → i ≡ made_of J + 1 → operation_of J i ≡ None
no_operation_next db J i due next = by (operation_of J i) refl
  where
    by : (o : Option Operation) → operation_of J i ≡ o → operation_of J i ≡ None
    by None is = is
    by (Some o) is = let home = operation_home db J i o due is in absurd (none_next db J i home.0 due next home.1)

pub no_check_next : (db : List Domain) (J : Journal) (i : ℕ) → EachMayFollow db J → i ≡ made_of J + 1 → check_of J i ≡ None
no_check_next db J i due next = by (check_of J i) refl
  where
    by : (o : Option Check) → check_of J i ≡ o → check_of J i ≡ None
    by None is = is
    by (Some k) is = let home = check_home db J i k due is in absurd (none_next db J i home.0 due next home.1)
