-- Places of lists.
use Rattle.std.proofs.Common.{◌≡◌, ℕ, zero, suc, List, [], ◌∷◌, take, set, refl, ap}

-- the change of a place and the front of a list go in either order
pub take-set : {X : Type 0} → (n : ℕ) (xs : List X) (k : ℕ) (x : X) → take n (set xs k x) ≡ set (take n xs) k x
take-set zero xs k x = refl
take-set (suc n) [] k x = refl
take-set (suc n) (y ∷ xs) zero x = refl
take-set (suc n) (y ∷ xs) (suc k) x = ap (λ ys. y ∷ ys) (take-set n xs k x)
