-- A list in order stays so where one more is put in at its place.
use Rattle.std.proofs.Common.{◌≡◌, ℕ, ◌+◌, ◌-◌, ◌<◌, ◌≤◌, List, length, get_or, insert, All, AllPairs, Contains, arith, sym, ◌∙◌, subst, inl, inr}
use Rattle.std.proofs.lemmas.Bool.{cases_lt, cases_order}
use Rattle.std.proofs.lemmas.List.Edits.{length-insert, get_or-insert_below, get_or-insert_at, get_or-insert_above}

-- a place of the new list is one of the old list, or that of the new element
pub at_insert : {X : Type 0} (P : X → Type 0) (xs : List X) (i : ℕ) (y : X) (k : ℕ) (d : X) → i ≤ length xs
    → (k < i → P (get_or xs k d)) → (k ≡ i → P y) → (i < k → P (get_or xs (k - 1) d)) → P (get_or (insert xs i y) k d)
at_insert P xs i y k d within below here above = elim (cases_order k i) [
  | inl same ↦ rw same (rw (get_or-insert_at xs i y d within) (here same))
  | inr (inl lower) ↦ rw (get_or-insert_below xs i y d k lower within) (below lower)
  | inr (inr higher) ↦
      let e : k ≡ (k - 1) + 1 = omega arith in
      let moved = get_or-insert_above xs i y d (k - 1) (omega arith) within in
      let Q : ℕ → Type 0 = λ n. P (get_or (insert xs i y) n d) in
      subst Q (sym e) (rw moved (above higher))
]

pub All-insert : {X : Type 0} (P : X → Type 0) (xs : List X) (i : ℕ) (y : X) → i ≤ length xs → All P xs → P y → All P (insert xs i y)
All-insert P xs i y within each one k d in_range =
    let len = length-insert xs i y within in
    at_insert P xs i y k d within (λ h. each k d (omega arith)) (λ _. one) (λ h. each (k - 1) d (omega (arith, len)))

-- each pair of the new list is one of the old list, or has the new element
pub AllPairs-insert : {X : Type 0} (R : X → X → Type 0) (xs : List X) (i : ℕ) (y : X) → i ≤ length xs → AllPairs R xs
    → ((k : ℕ) (d : X) → k < i → R (get_or xs k d) y) → ((k : ℕ) (d : X) → i ≤ k → k < length xs → R y (get_or xs k d))
    → AllPairs R (insert xs i y)
AllPairs-insert R xs i y within pairs below above a b d less in_range =
    let len = length-insert xs i y within in
    at_insert (λ x. R x (get_or (insert xs i y) b d)) xs i y a d within
    (λ low. at_insert (λ x. R (get_or xs a d) x) xs i y b d within (λ h. pairs a b d less (omega arith)) (λ h. below a d low) (λ h. pairs a (b - 1) d (omega arith) (omega (arith, len))))
    (λ here. at_insert (λ x. R y x) xs i y b d within (λ h. absurd (omega arith)) (λ h. absurd (omega arith)) (λ h. above (b - 1) d (omega arith) (omega (arith, len))))
    (λ high. at_insert (λ x. R (get_or xs (a - 1) d) x) xs i y b d within (λ h. absurd (omega arith)) (λ h. absurd (omega arith)) (λ h. pairs (a - 1) (b - 1) d (omega arith) (omega (arith, len))))

-- the new element is there, and so are the old ones
pub Contains-inserted : {X : Type 0} (xs : List X) (i : ℕ) (y : X) → i ≤ length xs → Contains (insert xs i y) y
Contains-inserted xs i y within = (i, omega (arith, length-insert xs i y within), get_or-insert_at xs i y y within)

pub Contains-insert : {X : Type 0} (xs : List X) (i : ℕ) (y x : X) → i ≤ length xs → Contains xs x → Contains (insert xs i y) x
Contains-insert xs i y x within has =
    let k = has.0 in
    let in_range = has.1 in
    let len = length-insert xs i y within in
    elim (cases_lt k i) [
      | inl lower ↦ (k, omega (arith, len), get_or-insert_below xs i y x k lower within ∙ has.2)
      | inr higher ↦ (k + 1, omega (arith, len), get_or-insert_above xs i y x k higher within ∙ has.2)
    ]
