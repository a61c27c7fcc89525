use Rattle.std.proofs.Common.{◌≡◌, ◌++◌, ◌+◌, ◌*◌, ◌≤◌, drop}
use Rattle.db_writer.specs.inner.Places.{places_from}
use Rattle.db_writer.proofs.section.places_of.Given as goal

-- the places so far, and those of the rest, are those of all
abbrev pub invariant-loop-one : goal.invariant-loop-one
invariant-loop-one g l = record {
  small : l.place ≤ l.first + 65 * l.one-index;
  written : l.places.items ++ places_from g.T.Record.words l.place (drop l.one-index l.records) ≡ places_from g.T.Record.words l.first l.records;
}
