-- Lists of all numbers of a kind, in their order.
use Rattle.std.specs.Prelude.{ℕ, ◌<◌, List, All, AllPairs, Contains}

-- these are all numbers of which P holds, ascending
pub record AreAllAscending (P : ℕ → Type 0) (list : List ℕ) : Type 0 where
  pub all : (n : ℕ) → P n → Contains list n
  pub only : All P list
  pub ascending : AllPairs (λ low high. low < high) list
