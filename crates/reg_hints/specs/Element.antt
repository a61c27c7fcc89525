-- What the body of a country element says: a code, an environment, and triplets that nothing here reads.
use Rattle.std.specs.Prelude.{◌≡◌, ℕ, ◌%◌, ◌<◌, ◌≤◌, List, length, slice_index}
use Rattle.rule_tables.specs.Code.{IsCapital}
use Rattle.reg_hints.specs.declared.element.Element.{Element}
use Rattle.reg_hints.specs.declared.element.ElementFault.{ElementFault}
use Rattle.reg_hints.specs.declared.element.ElementFault.TheVariants.{Short, Odd, NotLetters}

-- the first two bytes are capital letters
abbrev pub HasLetters : List ℕ → Type 0
HasLetters body = IsCapital (slice_index body 0) × IsCapital (slice_index body 1)

-- The body is good, and says this element.
pub record IsElement (body : List ℕ) (e : Element) : Type 0 where
  pub long : 6 ≤ length body
  pub even : length body % 2 ≡ 0
  pub letters : HasLetters body
  pub first : e.alpha2.a ≡ slice_index body 0
  pub second : e.alpha2.b ≡ slice_index body 1
  pub environment : e.environment ≡ slice_index body 2

-- which fault comes: the first of the list that applies
abbrev pub IsElementFault : List ℕ → ElementFault → Type 0
IsElementFault body (Short n) = (n ≡ length body) × (n < 6)
IsElementFault body (Odd n) = (n ≡ length body) × (6 ≤ n) × (n % 2 ≡ 1)
IsElementFault body NotLetters = (6 ≤ length body) × (length body % 2 ≡ 0) × (HasLetters body → ⊥)
