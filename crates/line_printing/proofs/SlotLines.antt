-- The words at slots, as words that are joined.
use Rattle.std.proofs.Common.{◌≡◌, ℕ, List, [], ◌∷◌, ◌++◌, map, refl, ap, sym}
use Rattle.std.proofs.lemmas.List.Folds.{flat_map-map}
use Rattle.freq_range.specs.declared.rule.Rule.{Rule}
use Rattle.line_forms.specs.Told.{Told}
use Rattle.line_forms.specs.declared.slot.Slot.{Slot}
use Rattle.line_printing.specs.Printed.{text_at, slot_words}
use Rattle.line_printing.proofs.JoinedWords.{joined}

pub slots_joined : (rules : List Rule) (t : Told) (slots : List Slot) → slot_words rules t slots ≡ joined (map (text_at rules t) slots)
slots_joined rules t [] = refl
slots_joined rules t (s ∷ slots) = ap (λ (l : List ℕ). text_at rules t s ++ l) (sym (flat_map-map (λ next. 32 ∷ next) (text_at rules t) slots))
