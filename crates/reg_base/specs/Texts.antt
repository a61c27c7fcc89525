-- Bytes of texts: equal ones, lines, and how what may be missing is chained.
use Rattle.std.specs.Prelude.{ℕ, nat_eq, Bool, List, [], ◌∷◌, ◌++◌, Option, Some, None}
use Rattle.std.specs.Cmp.Lexicographic.{pointwise}

-- what comes of what may be missing: nothing where it is missing
infixl 10 ◌>>=◌
abbrev pub ◌>>=◌ : {A B : Type 0} → Option A → (A → Option B) → Option B
(Some x) >>= f = f x
None >>= f = None

-- both have the same bytes, as a test
abbrev pub same_bytes : List ℕ → List ℕ → Bool
same_bytes xs ys = pointwise nat_eq xs ys

-- a text, and a newline
abbrev pub line_of : List ℕ → List ℕ
line_of text = text ++ 10 ∷ []
