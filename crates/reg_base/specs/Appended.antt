-- What a write leaves in a sink that tells its bytes.
use Rattle.std.specs.Prelude.{ℕ, ◌≤◌, List, length, take, Option, Result, MatchResult}
use Rattle.std.specs.Io.KnownBytes.{Appends}

-- some front of the piece was appended
abbrev pub AppendsFront : Option (List ℕ) → Option (List ℕ) → List ℕ → Type 0
AppendsFront old new piece = (n : ℕ) × (n ≤ length piece) × Appends old new (take n piece)

-- the whole piece was appended, or after a failure some front of it
abbrev pub AppendsAtMost : {E : Type 0} → Option (List ℕ) → Option (List ℕ) → Result (Unit {0}) E → List ℕ → Type 0
AppendsAtMost old new result piece = MatchResult result (λ _. Appends old new piece) (λ _. AppendsFront old new piece)
