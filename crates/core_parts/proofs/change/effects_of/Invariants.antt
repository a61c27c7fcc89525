use Rattle.std.proofs.Common.{◌≡◌, ◌≤◌, length, take}
use Rattle.std.specs.List.{filter_map}
use Rattle.core_parts.specs.Changes.{effect_in}
use Rattle.core_parts.proofs.change.effects_of.Given as goal

abbrev pub invariant-loop-change : goal.invariant-loop-change
invariant-loop-change l = record {
  few : length l.effects ≤ l.change-index;
  so_far : l.effects ≡ filter_map effect_in (take l.change-index l.changes);
}
