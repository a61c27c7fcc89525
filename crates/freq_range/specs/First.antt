-- The first place at which something holds.
use Rattle.std.specs.Prelude.{ℕ, ◌<◌}

-- P holds at place k, counted from 0, and at none before it
pub record IsFirst (P : ℕ → Type 0) (k : ℕ) : Type 0 where
  pub here : P k
  pub none_before : (j : ℕ) → j < k → P j → ⊥
