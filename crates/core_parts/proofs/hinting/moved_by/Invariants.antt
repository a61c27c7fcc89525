use Rattle.std.proofs.Common.{◌≡◌, ◌<◌, ℕ, false, length, slice_index_or}
use Rattle.core_parts.specs.Hinting.{place_moved}
use Rattle.core_parts.specs.declared.radio.RadioPlace.TheVariants.{Free}
use Rattle.core_parts.proofs.hinting.moved_by.Given as goal

abbrev pub invariant-loop-number : goal.invariant-loop-number
invariant-loop-number l = record {
  long : length l.moved ≡ 8;
  flags : (r : ℕ) → r < l.number → slice_index_or l.moved r false ≡ place_moved l.domains l.before l.after l.hint r (slice_index_or l.radios r Free);
}
