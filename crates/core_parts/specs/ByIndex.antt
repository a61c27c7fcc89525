-- Interfaces by their indexes.
use Rattle.std.specs.Prelude.{◌≡◌, ℕ, List, [], ◌∷◌}
use Rattle.core_parts.specs.declared.interface.Interface.{Interface}

-- each stands by its own index
abbrev pub AreByIndex : List (ℕ × Interface) → Type 0
AreByIndex [] = Unit {0}
AreByIndex (e ∷ es) = (e.0 ≡ e.1.index) × AreByIndex es
