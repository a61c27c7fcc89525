-- A line as it is cut into words from left to right.
use Rattle.std.specs.Prelude.{◌≡◌, ℕ, ◌<◌, ◌≤◌, not, Bool, List, [], ◌∷◌, length, Option, Some, None, slice_index}
use Rattle.line_forms.specs.Words.{is_line_blank}

-- so many bytes stand first that are all blanks, or all none, and no more
pub record AreFirst (blank : Bool) (line : List ℕ) (n : ℕ) : Type 0 where
  pub within : n ≤ length line
  pub each : (k : ℕ) → k < n → is_line_blank (slice_index line k) ≡ blank
  pub no_more : n < length line → is_line_blank (slice_index line n) ≡ not blank

-- the next word, and what is behind it
abbrev pub next_word : List (List ℕ) → Option (List ℕ × List (List ℕ))
next_word [] = None
next_word (word ∷ words) = Some (word, words)
