use Rattle.std.proofs.lemmas.List.Filters.{dedup_is}
use Rattle.db_writer.proofs.Sorted.{section_from}
use Rattle.db_writer.proofs.section.put_in_order.Goals as goal

pub returns-clause-section : goal.returns-clause-section
returns-clause-section g c =
    section_from g.met.T.Ord.total g.met.T.Eq.laws g.met.T.Ord.matches_eq g.T.Record.key g.met.T.Record.by_key g.met.T.Record.told_by_key
    _ _ _ c.sort_unstable.ensures.permutation c.sort_unstable.ensures.sorted (dedup_is _ _ _ c.dedup.ensures.filtered)
