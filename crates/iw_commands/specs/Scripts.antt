-- The lines of a script.
use Rattle.std.specs.Prelude.{ℕ, ◌==◌, List, [], ◌∷◌}
use Rattle.std.specs.List.{slice_split}

-- an empty part that stands last is no line
abbrev pub without_empty_last : List (List ℕ) → List (List ℕ)
without_empty_last [] = []
without_empty_last ([] ∷ []) = []
without_empty_last (part ∷ parts) = part ∷ without_empty_last parts

-- the lines: the parts of the script round its newline bytes
abbrev pub script_lines : List ℕ → List (List ℕ)
script_lines script = without_empty_last (slice_split (λ b. b == 10) script)
