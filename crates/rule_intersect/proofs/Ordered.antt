-- Lists in order by a relation that never holds both ways.
use Rattle.std.proofs.Common.{◌≡◌, List, [], ◌∷◌, ◌++◌, get_or, All, AllPairs, Contains, refl, sym, subst, inl, inr}
use Rattle.std.proofs.lemmas.List.Elements.{Contains-get_or, All-append}
use Rattle.std.proofs.lemmas.List.Kept.{AllPairs-cons}
use Rattle.freq_range.proofs.Members.{Contains-head, Contains-later, Contains-cases, Contains-nothing}
use Rattle.rule_tables.proofs.Ascending.{before_rest, pairs_rest}

pub All-from_members : {X : Type 0} (P : X → Type 0) (xs : List X) → ((x : X) → Contains xs x → P x) → All P xs
All-from_members P xs each k d in_range = each (get_or xs k d) (Contains-get_or xs k d in_range)

pub AllPairs-append : {X : Type 0} (R : X → X → Type 0) (xs ys : List X) → AllPairs R xs → AllPairs R ys
    → ((x y : X) → Contains xs x → Contains ys y → R x y) → AllPairs R (xs ++ ys)
AllPairs-append R [] ys front back between = back
AllPairs-append {X} R (x ∷ xs) ys front back between =
    AllPairs-cons R x (xs ++ ys)
    (All-append (R x) xs ys (All-from_members (R x) xs (λ y has. before_rest R x xs y front has)) (All-from_members (R x) ys (λ y has. between x y (Contains-head x xs) has)))
    (AllPairs-append R xs ys (pairs_rest R x xs front) back (λ a b has_a has_b. between a b (Contains-later x xs a has_a) has_b))

-- lists in order that have the same elements are one
pub one_order : {X : Type 0} (R : X → X → Type 0) → ((x y : X) → R x y → R y x → ⊥) → (xs ys : List X) → AllPairs R xs → AllPairs R ys
    → ((z : X) → Contains xs z → Contains ys z) → ((z : X) → Contains ys z → Contains xs z) → xs ≡ ys
one_order R one_way [] [] up_x up_y to from = refl
one_order R one_way [] (y ∷ ys) up_x up_y to from = absurd (Contains-nothing y (from y (Contains-head y ys)))
one_order R one_way (x ∷ xs) [] up_x up_y to from = absurd (Contains-nothing x (to x (Contains-head x xs)))
one_order {X} R one_way (x ∷ xs) (y ∷ ys) up_x up_y to from =
    let same = first in
    cons_same same (one_order R one_way xs ys (pairs_rest R x xs up_x) (pairs_rest R y ys up_y)
    (λ z has. behind x xs y ys up_x same z has (to z (Contains-later x xs z has)))
    (λ z has. behind y ys x xs up_y (sym same) z has (from z (Contains-later y ys z has))))
  where
    first : x ≡ y
    first = elim (Contains-cases y ys x (to x (Contains-head x xs))) [
      | inl same ↦ sym same
      | inr later_x ↦ elim (Contains-cases x xs y (from y (Contains-head y ys))) [
        | inl same ↦ same
        | inr later_y ↦ absurd (one_way x y (before_rest R x xs y up_x later_y) (before_rest R y ys x up_y later_x))
      ]
    ]

    behind : (a : X) (as' : List X) (b : X) (bs : List X) → AllPairs R (a ∷ as') → a ≡ b → (z : X) → Contains as' z → Contains (b ∷ bs) z → Contains bs z
    behind a as' b bs up same z has has_b = elim (Contains-cases b bs z has_b) [
      | inl is ↦
          let less = before_rest R a as' z up has in
          absurd (one_way z z (subst (λ w. R w z) (twice same is) less) (subst (λ w. R w z) (twice same is) less))
      | inr later ↦ later
    ]
      where
        twice : a ≡ b → b ≡ z → a ≡ z
        twice p q = cc

    cons_same : x ≡ y → xs ≡ ys → x ∷ xs ≡ y ∷ ys
    cons_same p q = cc
