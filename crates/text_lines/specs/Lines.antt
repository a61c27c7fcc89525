-- The lines of a text, and what counts of each.
use Rattle.std.specs.Prelude.{ℕ, ◌≤◌, ◌==◌, ◌||◌, Bool, not, List, length, filter, IsUtf8}
use Rattle.std.specs.List.{slice_split, before_first}
use Rattle.reg_base.specs.declared.limits.TheConstants.{MOST_LINE_BYTES}

-- the lines: the parts of the text round its newline bytes
abbrev pub text_lines : List ℕ → List (List ℕ)
text_lines text = slice_split (λ b. b == 10) text

-- a space, a tab or a carriage return
abbrev pub is_text_blank : ℕ → Bool
is_text_blank b = b == 32 || b == 9 || b == 13

-- the bytes that aren't blanks
abbrev pub solid : List ℕ → List ℕ
solid bytes = filter (λ b. not (is_text_blank b)) bytes

-- what stands before the comment: before the first `#`
abbrev pub without_comment : List ℕ → List ℕ
without_comment line = before_first (λ b. b == 35) line

-- what counts of a line: its comment dropped, then its blanks
abbrev pub bare : List ℕ → List ℕ
bare line = solid (without_comment line)

-- at most 4,096 bytes, and UTF-8
pub record IsReadableLine (line : List ℕ) : Type 0 where
  pub short : length line ≤ MOST_LINE_BYTES
  pub utf8 : IsUtf8 line
