-- Rules that are gathered, each once.
use Rattle.std.specs.Prelude.{◌≡◌, ◌⊎◌, List, [], ◌∷◌, ◌++◌, Contains}
use Rattle.freq_range.specs.declared.rule.Rule.{Rule}

-- what a list of rules becomes where a rule is appended unless it is there
abbrev pub IsPushedNew : List Rule → List Rule → Rule → Type 0
IsPushedNew old new r = (Contains old r × (new ≡ old)) ⊎ ((Contains old r → ⊥) × (new ≡ old ++ r ∷ []))
