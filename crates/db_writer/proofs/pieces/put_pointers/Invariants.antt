use Rattle.std.proofs.Common.{◌≡◌, ◌++◌, drop, flat_map}
use Rattle.db_writer.specs.Records.{be16}
use Rattle.db_writer.proofs.pieces.put_pointers.Given as goal

-- what is written, and what the rest gives, is what all give
abbrev pub invariant-loop-place : goal.invariant-loop-place
invariant-loop-place l = l.out ++ flat_map be16 (drop l.place-index l.places) ≡ l.initial.out ++ flat_map be16 l.places
