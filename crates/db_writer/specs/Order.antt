-- The order of the records in a section, and where a record stands in one.
use Rattle.std.specs.Prelude.{◌↔◌, ℕ, ◌+◌, Bool, IsTrue, List, AllPairs, Contains, filter, sum_by}
use Rattle.std.specs.Cmp.Lexicographic.{slice_cmp}
use Rattle.std.specs.Ordering.{is_lt, nat_cmp}

-- Whether one list of numbers comes before another: the first place at which they differ decides, and a proper prefix
-- comes first.
abbrev pub precedes : List ℕ → List ℕ → Bool
precedes xs ys = is_lt (slice_cmp nat_cmp xs ys)

-- The ascending list, without repeats, of the records in use, where a key of each record gives the order.
pub record IsFileSection {X : Type 0} (key : X → List ℕ) (InUse : X → Type 0) (xs : List X) : Type 0 where
  pub ascending : AllPairs (λ x y. IsTrue (precedes (key x) (key y))) xs
  pub exactly : (x : X) → Contains xs x ↔ InUse x

-- The place of a record in words of 4 bytes: behind where its section begins, and the records of the section before it.
abbrev pub place_in : {X : Type 0} → (key : X → List ℕ) → (words : X → ℕ) → ℕ → List X → X → ℕ
place_in key words first xs x = first + sum_by words (filter (λ y. precedes (key y) (key x)) xs)
