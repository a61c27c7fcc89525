use Rattle.std.proofs.Common.{◌≡◌, ◌≤◌, length, take, vec_len}
use Rattle.core_parts.specs.declared.radio.RadioPlace.TheVariants.{Free}
use Rattle.core_parts.proofs.KeptOn.{Retunes}
use Rattle.core_parts.proofs.Places.{AreDoneFrom}
use Rattle.core_parts.proofs.hinting.retune_all.Given as goal

abbrev pub invariant-places : goal.invariant-places
invariant-places l = record {
  done : AreDoneFrom (Retunes l.domains l.before l.after l.hint) Free l.initial.radios l.radios (length l.tables.items);
  tables : l.tables.items ≡ take (length l.tables.items) l.initial.tables.items;
  few : length l.tables.items ≤ length l.initial.tables.items;
}

abbrev pub decreases-places : goal.decreases-places
decreases-places l = vec_len l.tables
