use Rattle.std.proofs.Common.{◌≡◌, ◌++◌, drop, flat_map}
use Rattle.db_writer.proofs.section.put_records.Given as goal

-- what is written, and what the rest gives, is what all give
abbrev pub invariant-loop-one : goal.invariant-loop-one
invariant-loop-one g l = l.out ++ flat_map g.T.Record.bytes (drop l.one-index l.records) ≡ l.initial.out ++ flat_map g.T.Record.bytes l.records
