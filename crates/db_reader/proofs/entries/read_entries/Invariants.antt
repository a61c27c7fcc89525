use Rattle.std.proofs.Common.{ℕ, ◌<◌}
use Rattle.rule_tables.specs.Databases.{IsDb}
use Rattle.rule_tables.specs.FileFormat.{AreEntries, EndsAt}
use Rattle.db_reader.proofs.entries.read_entries.Given as goal

abbrev pub invariant-loop-k : goal.invariant-loop-k
invariant-loop-k l = record {
  db : IsDb l.db;
  so_far : AreEntries l.bytes l.k l.db;
  going : (j : ℕ) → j < l.k → EndsAt l.bytes j → ⊥;
}
