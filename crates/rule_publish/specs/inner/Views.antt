-- What a seat at a board knows, and how each step changes it.
use Rattle.std.specs.Prelude.{◌≡◌, ◌≤◌, ℕ, List, max, Option, Some, None}
use mathlib.Core.Option.{some}
use lib.ListN.{get_elem?}
use Rattle.rule_publish.specs.declared.rule.View.{View}

-- what a seat knows of a name after it learns: the note's, or its own where the note has none
abbrev pub later_name : {N : Type 0} → Option N → Option N → Option N
later_name own None = own
later_name own (Some name) = Some name

module _ {N : Type 0} where
  -- the view of a seat that saw the value of this number and name
  abbrev pub known : ℕ → N → View N
  known number name = record { number = number; name = Some name }

  -- the view of a seat that saw nothing yet, or that was spent
  abbrev pub fresh : View N
  fresh = record { number = 0; name = None }

  -- the view has no later number, and no other name
  abbrev pub Suits : ℕ → N → View N → Type 0
  Suits number name v = (v.number ≤ number) × ((n : N) → v.name ≡ Some n → n ≡ name)

  -- the rule: the value of this number and name is shown, and the view of each seat suits it
  abbrev pub EachSuits : ℕ → N → List (View N) → Type 0
  EachSuits number name views = (seat : ℕ) (v : View N) → get_elem? views seat ≡ some v → Suits number name v

  -- a look or a publish: the view suits what was shown before, and then it is that of what is shown after
  abbrev pub Sees : ℕ → N → ℕ → N → View N → View N → Type 0
  Sees number name number' name' v w = Suits number name v × (w ≡ known number' name')

  -- the view of a seat that learns from a note
  abbrev pub later : View N → View N → View N
  later v w = record { number = max v.number w.number; name = later_name v.name w.name }

  -- the number doesn't fall, and the name stays
  abbrev pub ViewRose : View N → View N → Type 0
  ViewRose v w = (v.number ≤ w.number) × ((n : N) → v.name ≡ Some n → w.name ≡ Some n)
