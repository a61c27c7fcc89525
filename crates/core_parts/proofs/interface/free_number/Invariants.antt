use Rattle.std.proofs.Common.{◌≡◌, ◌<◌, ◌&&◌, ◌==◌, true, ℕ}
use Rattle.std.specs.List.{list_any}
use Rattle.core_parts.specs.Interfaces.{is_on_radio}
use Rattle.core_parts.proofs.interface.free_number.Given as goal

abbrev pub invariant-loop-number : goal.invariant-loop-number
invariant-loop-number l = (k : ℕ) → k < l.number → list_any (λ p. is_on_radio l.radio p && p.slot == k) l.interfaces ≡ true
