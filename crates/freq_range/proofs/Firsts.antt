-- The first place at which something holds is one.
use Rattle.std.proofs.Common.{◌≡◌, ℕ, inl, inr}
use Rattle.std.proofs.lemmas.Bool.{cases_order}
use Rattle.freq_range.specs.First.{IsFirst}

pub IsFirst-unique : (P : ℕ → Type 0) (j k : ℕ) → IsFirst P j → IsFirst P k → j ≡ k
IsFirst-unique P j k p q = elim (cases_order j k) [
  | inl same ↦ same
  | inr (inl less) ↦ absurd (q.none_before j less p.here)
  | inr (inr more) ↦ absurd (p.none_before k more q.here)
]
