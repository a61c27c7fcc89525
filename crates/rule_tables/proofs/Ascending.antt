-- Lists in strictly ascending order that have the same elements are one.
use Rattle.std.proofs.Common.{◌≡◌, ℕ, suc, ◌<◌, List, [], ◌∷◌, AllPairs, Contains, arith, refl, sym, ap, inl, inr}
use Rattle.freq_range.proofs.Members.{Contains-head, Contains-later, Contains-cases, Contains-nothing}

-- an element stands before each of those behind it
pub before_rest : {X : Type 0} (R : X → X → Type 0) (x : X) (xs : List X) (z : X) → AllPairs R (x ∷ xs) → Contains xs z → R x z
before_rest R x xs z pairs has =
    let in_range = has.1 in
    rw has.2 at (pairs 0 (suc has.0) z (omega arith) (omega (arith, in_range)))

pub pairs_rest : {X : Type 0} (R : X → X → Type 0) (x : X) (xs : List X) → AllPairs R (x ∷ xs) → AllPairs R xs
pairs_rest R x xs pairs i j d less in_range = pairs (suc i) (suc j) d (omega arith) (omega arith)

-- the first elements are one
same_first : {X : Type 0} (key : X → ℕ) (x y : X) (xs ys : List X) → AllPairs (λ a b. key a < key b) (x ∷ xs) → AllPairs (λ a b. key a < key b) (y ∷ ys)
    → Contains (y ∷ ys) x → Contains (x ∷ xs) y → x ≡ y
same_first key x y xs ys up_x up_y has_x has_y = elim (Contains-cases y ys x has_x) [
  | inl same ↦ sym same
  | inr later_x ↦ elim (Contains-cases x xs y has_y) [
    | inl same ↦ same
    | inr later_y ↦
        let below = before_rest (λ a b. key a < key b) y ys x up_y later_x in
        let above = before_rest (λ a b. key a < key b) x xs y up_x later_y in
        absurd (omega (arith, below, above))
  ]
]

-- what stands behind one of the first elements stands behind the other
behind_too : {X : Type 0} (key : X → ℕ) (x y z : X) (xs ys : List X) → AllPairs (λ a b. key a < key b) (x ∷ xs) → x ≡ y → Contains xs z → Contains (y ∷ ys) z → Contains ys z
behind_too key x y z xs ys up same has_z has = elim (Contains-cases y ys z has) [
  | inl is ↦
      let less : key y < key z = rw same at (before_rest (λ a b. key a < key b) x xs z up has_z) in
      let equal : key y ≡ key z = ap key is in
      absurd (omega arith)
  | inr later ↦ later
]

pub same_from_elements : {X : Type 0} (key : X → ℕ) (xs ys : List X) → AllPairs (λ a b. key a < key b) xs → AllPairs (λ a b. key a < key b) ys
    → ((z : X) → Contains xs z → Contains ys z) → ((z : X) → Contains ys z → Contains xs z) → xs ≡ ys
same_from_elements key [] [] up_x up_y to from = refl
same_from_elements key [] (y ∷ ys) up_x up_y to from = absurd (Contains-nothing y (from y (Contains-head y ys)))
same_from_elements key (x ∷ xs) [] up_x up_y to from = absurd (Contains-nothing x (to x (Contains-head x xs)))
same_from_elements key (x ∷ xs) (y ∷ ys) up_x up_y to from =
    let same = same_first key x y xs ys up_x up_y (to x (Contains-head x xs)) (from y (Contains-head y ys)) in
    cons_same same (same_from_elements key xs ys (pairs_rest (λ a b. key a < key b) x xs up_x) (pairs_rest (λ a b. key a < key b) y ys up_y)
    (λ z has. behind_too key x y z xs ys up_x same has (to z (Contains-later x xs z has)))
    (λ z has. behind_too key y x z ys xs up_y (sym same) has (from z (Contains-later y ys z has))))
  where
    cons_same : x ≡ y → xs ≡ ys → x ∷ xs ≡ y ∷ ys
    cons_same p q = cc
