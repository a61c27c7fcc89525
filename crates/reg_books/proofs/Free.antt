-- The least slot that isn't taken.
use Rattle.std.proofs.Common.{◌≡◌, ℕ, zero, suc, ◌==◌, ◌<◌, ◌≤◌, not, List, [], ◌∷◌, length, filter, find, Some, unwrap_or, arith, refl, sym, subst, ◌∙◌, ◌⊎◌, inl, inr, nat_lt, eq-eqb, ne_eqb, ltb-true, Bool, true, false}
use Rattle.std.specs.List.{list_any, list_all}
use Rattle.std.proofs.lemmas.Bool.{cases_eq, cases_Bool, and_parts, agree_below_at}
use Rattle.reg_books.specs.Slots.{free_slot}

-- the slot is one of these
abbrev pub is_taken : List ℕ → ℕ → Bool
is_taken slots n = list_any (λ m. m == n) slots

-- the others
abbrev others : List ℕ → ℕ → List ℕ
others slots n = filter (λ m. not (m == n)) slots

-- leaving a number out makes no list longer
length-others_le : (slots : List ℕ) (n : ℕ) → length (others slots n) ≤ length slots
length-others_le [] n = omega arith
length-others_le (m ∷ slots) n =
    let below = length-others_le slots n in
    elim (cases_eq m n) [
      | inl same ↦ rw (eq-eqb m n same) (omega arith)
      | inr other ↦ rw (ne_eqb m n other) (omega arith)
    ]

-- without one that is taken there are fewer
length-others : (slots : List ℕ) (n : ℕ) → is_taken slots n ≡ true → length (others slots n) < length slots
length-others [] n is = absurd cc
length-others (m ∷ slots) n is = elim (cases_eq m n) [
  | inl same ↦ let below = length-others_le slots n in rw (eq-eqb m n same) (omega arith)
  | inr other ↦
      let below = length-others slots n (rw (ne_eqb m n other) at is) in
      rw (ne_eqb m n other) (omega arith)
]

-- the others stay taken
taken-others : (slots : List ℕ) (n k : ℕ) → (k ≡ n → ⊥) → is_taken slots k ≡ true → is_taken (others slots n) k ≡ true
taken-others [] n k apart is = is
taken-others (m ∷ slots) n k apart is = elim (cases_eq m k) [
  | inl same ↦ rw (ne_eqb m n (λ e. apart (sym same ∙ e)), eq-eqb m k same)
  | inr other ↦
      let rest = taken-others slots n k apart (rw (ne_eqb m k other) at is) in
      elim (cases_eq m n) [
        | inl same ↦ rw (eq-eqb m n same) rest
        | inr free ↦ rw (ne_eqb m n free, ne_eqb m k other) rest
      ]
]

-- a list that has each number below n has as many
pub long_where_all : (n : ℕ) (slots : List ℕ) → ((k : ℕ) → k < n → is_taken slots k ≡ true) → n ≤ length slots
long_where_all zero slots all = omega arith
long_where_all (suc n) slots all =
    let fewer = length-others slots n (all n (omega arith)) in
    let enough = long_where_all n (others slots n) (λ k below. taken-others slots n k (λ same. absurd (omega arith)) (all k (omega arith))) in
    omega arith

-- all of these numbers are taken, or the first one that isn't is found
find_free : (slots ns : List ℕ) → ((k : ℕ) → is_taken ns k ≡ true → is_taken slots k ≡ true)
    ⊎ ((n : ℕ) × (find (λ n. not (is_taken slots n)) ns ≡ Some n) × (is_taken slots n ≡ false))
find_free slots [] = inl (λ k listed. absurd cc)
find_free slots (n ∷ ns) = elim (cases_Bool (is_taken slots n)) [
  | inl taken ↦ elim (find_free slots ns) [
    | inl all ↦ inl (λ k listed. elim (cases_eq n k) [
      | inl same ↦ subst (λ m. is_taken slots m ≡ true) same taken
      | inr other ↦ all k (rw (ne_eqb n k other) at listed)
    ])
    | inr first ↦ inr (first.0, rw taken first.1, first.2)
  ]
  | inr free ↦ inr (n, rw free, free)
]

-- the slots of a book
abbrev eight : List ℕ
eight = 0 ∷ 1 ∷ 2 ∷ 3 ∷ 4 ∷ 5 ∷ 6 ∷ 7 ∷ []

-- where fewer than eight are taken, the free slot isn't one of them
pub free_slot-apart : (slots : List ℕ) → length slots < 8 → is_taken slots (free_slot slots) ≡ false
free_slot-apart slots few = elim (find_free slots eight) [
  | inl all ↦
      let long = long_where_all 8 slots (λ k below. all k (agree_below_at (is_taken eight) (λ n. true) 8 k refl below)) in
      absurd (omega arith)
  | inr free ↦ rw free.1 free.2
]

-- what is found among small numbers is small
find_small : (test : ℕ → Bool) (ns : List ℕ) → list_all (λ n. nat_lt n 8) ns ≡ true → unwrap_or (find test ns) 0 < 8
find_small test [] small = omega arith
find_small test (n ∷ ns) small =
    let parts = and_parts (nat_lt n 8) (list_all (λ n. nat_lt n 8) ns) small in
    elim (cases_Bool (test n)) [
      | inl passes ↦ rw passes (ltb-true n 8 parts.0)
      | inr fails ↦ rw fails (find_small test ns parts.1)
    ]

-- a free slot is one of eight
pub free_slot-small : (slots : List ℕ) → free_slot slots < 8
free_slot-small slots = find_small (λ n. not (is_taken slots n)) eight refl
