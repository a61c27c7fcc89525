-- What a list has, by its first element and the others.
use Rattle.std.proofs.Common.{◌≡◌, zero, suc, ◌-◌, ◌<◌, ◌⊎◌, List, [], ◌∷◌, length, get_or, reverse, Contains, arith, refl, ap, ◌∙◌, inl, inr}
use Rattle.std.proofs.lemmas.List.{reverse-reverse, length-reverse, get_or-reverse}

pub Contains-head : {X : Type 0} (x : X) (xs : List X) → Contains (x ∷ xs) x
Contains-head x xs = (0, omega arith, refl)

pub Contains-later : {X : Type 0} (x : X) (xs : List X) (y : X) → Contains xs y → Contains (x ∷ xs) y
Contains-later x xs y has = let in_range = has.1 in (suc has.0, omega arith, has.2)

pub Contains-cases : {X : Type 0} (x : X) (xs : List X) (y : X) → Contains (x ∷ xs) y → (x ≡ y) ⊎ Contains xs y
Contains-cases x xs y (zero, in_range, is) = inl is
Contains-cases x xs y (suc k, in_range, is) = inr (k, omega (arith, in_range), is)

pub Contains-nothing : {X : Type 0} (y : X) → Contains [] y → ⊥
Contains-nothing y has = let in_range = has.1 in omega arith

-- the elements of a list turned round are its elements
pub Contains-reverse : {X : Type 0} (xs : List X) (x : X) → Contains xs x → Contains (reverse xs) x
Contains-reverse xs x has =
    let k = has.0 in
    let len = length-reverse xs in
    let there : length xs - 1 - k < length (reverse xs) = omega (arith, len, has.1) in
    let back : length xs - 1 - (length xs - 1 - k) ≡ k = omega (arith, has.1) in
    let e = get_or-reverse xs (length xs - 1 - k) x (omega (arith, has.1)) in
    (length xs - 1 - k, there, e ∙ ap (λ n. get_or xs n x) back ∙ has.2)

pub Contains-from_reverse : {X : Type 0} (xs : List X) (x : X) → Contains (reverse xs) x → Contains xs x
Contains-from_reverse xs x has = rw reverse-reverse at (Contains-reverse (reverse xs) x has)
