-- The rows of one domain alone, as the code makes them rule by rule: cited by private functions alone.
use Rattle.std.specs.Prelude.{◌≡◌, ℕ, ◌<◌, List, [], ◌∷◌, map, take, All, AllPairs, Contains}
use Rattle.freq_range.specs.declared.rule.Rule.{Rule}
use Rattle.rule_intersect.specs.declared.row.Row.{Row}
use Rattle.rule_intersect.specs.Tuples.{Choice, IsChoice, row_of}

-- these are the choices of the first n rules, in their order
pub record AreChoices (rules : List Rule) (n : ℕ) (cs : List Choice) : Type 0 where
  pub all : (c : Choice) → IsChoice rules c → c.number < n → Contains cs c
  pub only : All (λ c. IsChoice rules c × (c.number < n)) cs
  pub rules_in_order : map (λ c. c.rule) cs ≡ take n rules
  pub in_order : AllPairs (λ c e. c.number < e.number) cs

abbrev pub row_alone : Choice → Row
row_alone c = row_of (c ∷ [])

-- these are the rows of the first n rules, each alone
abbrev pub AreOwnRows : List Rule → ℕ → List Row → Type 0
AreOwnRows rules n rows = (cs : List Choice) × AreChoices rules n cs × (rows ≡ map row_alone cs)
