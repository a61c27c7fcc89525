use Rattle.std.proofs.Common.{◌≡◌, ◌∷◌, ◌++◌, drop}
use Rattle.std.specs.List.{flat_map}
use Rattle.line_printing.specs.Printed.{text_at}
use Rattle.line_printing.proofs.line_printer.put_more_words.Given as goal

-- what was printed, and the words at the slots that are left, are all
abbrev pub invariant-loop-slot : goal.invariant-loop-slot
invariant-loop-slot l =
    l.out ++ flat_map (λ slot. 32 ∷ text_at l.rules l.d slot) (drop l.slot-index l.slots) ≡ l.initial.out ++ flat_map (λ slot. 32 ∷ text_at l.rules l.d slot) l.slots
