use Rattle.std.proofs.Common.{◌≡◌, ◌<◌, ℕ, None, drop, length, slice_index_or}
use Rattle.reg_journal.specs.Refusals.{RowCauses}
use Rattle.reg_journal.specs.declared.refusal.Refusal.{Refusal}
use Rattle.core_parts.specs.Hinting.{IsNewTable, lists_after}
use Rattle.core_parts.specs.declared.radio.RadioPlace.TheVariants.{Free}
use Rattle.core_parts.proofs.hinting.new_tables.Given as goal

abbrev pub invariant-loop-number : goal.invariant-loop-number
invariant-loop-number l = record {
  all : length l.tables.items ≡ l.number;
  each : (r : ℕ) → r < l.number → IsNewTable l.domains l.after l.hint r (slice_index_or l.radios r Free) (slice_index_or l.tables.items r None);
  rest : (e : Refusal) → RowCauses (lists_after l.domains l.after l.hint l.number (drop l.number l.radios)) e
      → RowCauses (lists_after l.domains l.after l.hint 0 l.radios) e;
}
