-- The elements of joined lists and of mapped lists.
use Rattle.std.proofs.Common.{◌≡◌, ℕ, zero, suc, ◌≤◌, ◌*◌, List, [], ◌∷◌, length, map, flat_map, All, Contains, inl, inr, refl, sym, ap, subst, arith}
use Rattle.std.proofs.lemmas.List.Concat.{length-flat_map}
use Rattle.std.proofs.lemmas.List.Elements.{Contains-append_left, Contains-append_right, Contains-append_cases}
use Rattle.std.proofs.lemmas.List.Sums.{sum_by-le}

pub contains_first : {X : Type 0} (x : X) (xs : List X) → Contains (x ∷ xs) x
contains_first x xs = (zero, omega arith, refl)

pub contains_more : {X : Type 0} (x : X) (xs : List X) (y : X) → Contains xs y → Contains (x ∷ xs) y
contains_more x xs y (k, within, is) = (suc k, omega arith, is)

pub from_flat_map : {X A : Type 0} (f : X → List A) (xs : List X) (y : A) → Contains (flat_map f xs) y → (x : X) × Contains xs x × Contains (f x) y
from_flat_map f [] y (k, within, is) = absurd (omega arith)
from_flat_map f (x ∷ xs) y h = elim (Contains-append_cases (f x) (flat_map f xs) y h) [
  | inl here ↦ (x, contains_first x xs, here)
  | inr more ↦ (let (z, among, has) = from_flat_map f xs y more in (z, contains_more x xs z among, has))
]

pub into_flat_map : {X A : Type 0} (f : X → List A) (xs : List X) (x : X) (y : A) → Contains xs x → Contains (f x) y → Contains (flat_map f xs) y
into_flat_map f [] x y (k, within, is) has = absurd (omega arith)
into_flat_map f (z ∷ xs) x y (zero, within, is) has = Contains-append_left (f z) (flat_map f xs) y (subst (λ w. Contains (f w) y) (sym is) has)
into_flat_map f (z ∷ xs) x y (suc k, within, is) has = Contains-append_right (f z) (flat_map f xs) y (into_flat_map f xs x y (k, omega arith, is) has)

pub from_map : {X Y : Type 0} (f : X → Y) (xs : List X) (y : Y) → Contains (map f xs) y → (x : X) × Contains xs x × (y ≡ f x)
from_map f [] y (k, within, is) = absurd (omega arith)
from_map f (x ∷ xs) y (zero, within, is) = (x, contains_first x xs, sym is)
from_map f (x ∷ xs) y (suc k, within, is) =
    let (z, among, same) = from_map f xs y (k, omega arith, is) in
    (z, contains_more x xs z among, same)

pub into_map : {X Y : Type 0} (f : X → Y) (xs : List X) (x : X) → Contains xs x → Contains (map f xs) (f x)
into_map f [] x (k, within, is) = absurd (omega arith)
into_map f (z ∷ xs) x (zero, within, is) = (zero, omega arith, ap f is)
into_map f (z ∷ xs) x (suc k, within, is) = contains_more (f z) (map f xs) (f x) (into_map f xs x (k, omega arith, is))

-- joined lists of at most m elements each
pub flat_map-few : {X A : Type 0} (f : X → List A) (m : ℕ) (xs : List X) → All (λ x. length (f x) ≤ m) xs → length (flat_map f xs) ≤ length xs * m
flat_map-few f m xs all = rw (length-flat_map f xs) (sum_by-le (λ x. length (f x)) m xs all)
