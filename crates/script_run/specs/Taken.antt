-- What was taken of a script, and which of its lines came whole with that.
use Rattle.std.specs.Prelude.{◌≡◌, ℕ, ◌==◌, ◌≤◌, ◌⊎◌, List, [], ◌∷◌, ◌++◌, length, take}
use Rattle.std.specs.List.{slice_split}
use Rattle.std.specs.Io.KnownBytes.{Consumes, IsAtEnd}
use Rattle.iw_commands.specs.Scripts.{script_lines}
use Rattle.db_commands.specs.Devices.{StreamAround, script_limit}

-- These are the lines whose newline is among the bytes, and this is what stands behind the last newline.
abbrev pub AreEnded : List ℕ → List (List ℕ) → List ℕ → Type 0
AreEnded bytes lines begun = slice_split (λ b. b == 10) bytes ≡ lines ++ begun ∷ []

-- These bytes were taken of the input, and that holds of them.
pub record IsTaken (input : StreamAround) (P : List ℕ → Type 0) : Type 0 where
  pub taken : List ℕ
  pub consumed : Consumes input.before input.after taken
  pub holds : P taken

-- That holds of the lines whose newline was taken within the limit.
abbrev pub HasEnded : StreamAround → (List (List ℕ) → Type 0) → Type 0
HasEnded input P = IsTaken input (λ taken. (lines : List (List ℕ)) × (begun : List ℕ) × AreEnded (take script_limit taken) lines begun × P lines)

-- That holds of the lines that could be answered: those whose newline was taken within the limit, and at the end of an input
-- that is within the limit all its lines.
abbrev pub HasLines : StreamAround → (List (List ℕ) → Type 0) → Type 0
HasLines input P = HasEnded input P ⊎ (IsAtEnd input.after × IsTaken input (λ taken. (length taken ≤ script_limit) × P (script_lines taken)))
