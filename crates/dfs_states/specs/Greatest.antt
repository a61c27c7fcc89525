-- The greatest of some numbers.
use Rattle.std.specs.Prelude.{ℕ, ◌≤◌, Option, MatchOption}

-- n is the greatest number with the property
pub record IsGreatest (P : ℕ → Type 0) (n : ℕ) : Type 0 where
  pub holds : P n
  pub none_above : (m : ℕ) → P m → m ≤ n

-- the greatest number with the property, or None where no number has it
abbrev pub IsMost : (ℕ → Type 0) → Option ℕ → Type 0
IsMost P most = MatchOption most ((n : ℕ) → P n → ⊥) (IsGreatest P)
