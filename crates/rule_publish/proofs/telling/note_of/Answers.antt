use Rattle.std.proofs.Common.{rules}
use Rattle.std.specs.Arc.{arc_value}
use Rattle.left_right.specs.Sides.{view}
use Rattle.rule_publish.proofs.Seats.{learnt}
use Rattle.rule_publish.proofs.Steps.{admits, forks, merges}
use Rattle.rule_publish.proofs.telling.note_of.Goals as goal

pub reader-requires : goal.reader-requires
reader-requires g c x views keeps = admits (g.V.Numbered.number (arc_value x.value)) (g.V.Numbered.name (arc_value x.value)) views keeps

pub tell-requires : goal.tell-requires
tell-requires g c x views keeps at =
    forks (g.V.Numbered.number (arc_value x.value)) (g.V.Numbered.name (arc_value x.value)) views c.args.pen.now.writer.desk.place.id (view c.args.pen.now.writer.desk.place) keeps at

pub learn-requires-clause-rule : goal.learn-requires-clause-rule
learn-requires-clause-rule g c x views keeps at apart there =
    merges (g.V.Numbered.number (arc_value x.value)) (g.V.Numbered.name (arc_value x.value)) views c.in-Ok.reader.place.id (view c.in-Ok.reader.place) c.tell.result.id (view c.tell.result) keeps at apart there

pub invariant_of-seat : goal.invariant_of-seat
invariant_of-seat g c =
    let knows = learnt g.V.Numbered.number g.V.Numbered.name (arc_value c.in_ok-kept.kept) (arc_value c.args.pen.now.writer.desk.shown.value.value) (view c.in-Ok.reader.place) (view c.tell.result) (view c.args.pen.now.writer.desk.place)
    (view c.learn.new.self.place) (search rules) c.tell.ensures.given.1 c.args.pen.now.knows c.learn.ensures.1 in
    record { low = knows.0; named = knows.1 }
