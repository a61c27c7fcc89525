use Rattle.std.proofs.Common.{◌≤◌}
use Rattle.db_writer.proofs.Sorted.{kept_all}
use Rattle.db_writer.proofs.section.section_of.Goals as goal

pub places_of-requires-clause-short : goal.places_of-requires-clause-short
places_of-requires-clause-short g c = rw c.as_slice.ensures.value (kept_all (λ x. g.T.Record.words x ≤ 65) g.T.Record.key _ _ c.put_in_order.ensures.section c.requires.short)
