use Rattle.std.proofs.Common.{get_or, ap, ◌∙◌}
use Rattle.db_writer.proofs.Sorted.{same_record}
use Rattle.db_writer.proofs.Found.{not_missed, place_found}
use Rattle.db_writer.proofs.section.place_among.Goals as goal

pub unreachable-requires : goal.unreachable-requires
unreachable-requires g c =
    not_missed g.T.Ord.cmp g.met.T.Ord.total g.T.Record.key g.met.T.Record.by_key _ _ _ c.requires.ascending c.requires.there c.in-Err.ensures.position

pub returns : goal.returns
returns g c = λ first are.
    let tied = c.in-Ok.ensures.ok c.args.one.now in
    let is = same_record g.T.Ord.cmp g.T.Record.key g.met.T.Record.by_key g.met.T.Record.told_by_key _ _ tied in
    ap (λ xs. get_or xs c.in-Ok.k 0) are ∙ place_found g.T.Record.key g.T.Record.words first c.args.records.now c.in-Ok.k 0 c.args.one.now c.args.one.now c.requires.ascending c.in-Ok.ensures.bound is
