-- The places that the writer keeps.
use Rattle.std.specs.Prelude.{◌≡◌, ℕ, ◌+◌, IsTrue, List, [], ◌∷◌, AllPairs}
use Rattle.db_writer.specs.Order.{precedes}

-- the places of records that stand one after another from a place on
abbrev pub places_from : {X : Type 0} → (words : X → ℕ) → ℕ → List X → List ℕ
places_from words place [] = []
places_from words place (x ∷ xs) = place ∷ places_from words (place + words x) xs

-- the records stand in ascending order, one after another from the place `first` on, at these places
pub record ArePlacedFrom {X : Type 0} (key : X → List ℕ) (words : X → ℕ) (first : ℕ) (xs : List X) (places : List ℕ) : Type 0 where
  pub ascending : AllPairs (λ x y. IsTrue (precedes (key x) (key y))) xs
  pub in_turn : places ≡ places_from words first xs
