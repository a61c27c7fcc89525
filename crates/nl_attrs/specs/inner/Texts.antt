-- Texts in payloads.
use Rattle.std.specs.Prelude.{◌≡◌, ◌≢◌, ℕ, ◌⊎◌, List, [], ◌∷◌, ◌++◌}

-- one zero byte at the end is dropped, where there is one
abbrev pub DropsZero : List ℕ → List ℕ → Type 0
DropsZero payload text = (payload ≡ text ++ 0 ∷ []) ⊎ (((front : List ℕ) → payload ≢ front ++ 0 ∷ []) × (text ≡ payload))
