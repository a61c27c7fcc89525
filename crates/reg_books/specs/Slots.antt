-- The slots in which a radio's book keeps the checks of its interfaces.
use Rattle.std.specs.Prelude.{ℕ, zero, suc, ◌+◌, ◌==◌, not, List, [], ◌∷◌, map, find, unwrap_or, if◌then◌else◌}
use Rattle.std.specs.List.{list_any}
use Rattle.reg_journal.specs.Facts.{Journal, made}
use Rattle.reg_journal.specs.Present.{ifaces_on}

-- so many numbers, from this one on
abbrev pub numbers : ℕ → ℕ → List ℕ
numbers n zero = []
numbers n (suc count) = n ∷ numbers (n + 1) count

-- the least of eight slots that isn't among these, or the first where each is
abbrev pub free_slot : List ℕ → ℕ
free_slot slots = unwrap_or (find (λ n. not (list_any (λ m. m == n) slots)) (numbers 0 8)) 0

-- the slot of the interface of this index: at its making, the least one that no interface of its radio has
abbrev pub slot_of : Journal → ℕ → ℕ
slot_of [] i = 0
slot_of (made j name r kind ∷ J) i = if i == j then free_slot (map (λ x. slot_of J x.index) (ifaces_on J r)) else slot_of J i
slot_of (f ∷ J) i = slot_of J i
