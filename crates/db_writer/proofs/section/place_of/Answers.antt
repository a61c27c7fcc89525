use Rattle.std.proofs.Common.{length, ap, ◌∙◌}
use Rattle.db_writer.proofs.Found.{length-places_from}
use Rattle.db_writer.proofs.section.place_of.Goals as goal

pub place_among-requires-clause-all : goal.place_among-requires-clause-all
place_among-requires-clause-all g c =
    rw (c.as_slice-2.ensures.value, c.as_slice.ensures.value) (ap length c.args.section.now.placed.in_turn ∙ length-places_from _ _ _)
