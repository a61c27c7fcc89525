use Rattle.std.specs.Arc.{arc_value}
use Rattle.left_right.specs.Sides.{view}
use Rattle.rule_publish.proofs.Seats.{same_name, risen}
use Rattle.rule_publish.proofs.seat.moved_on.Goals as goal

pub returns-in-Some-clause-name : goal.returns-in-Some-clause-name
returns-in-Some-clause-name g c =
    let seen = rw c.in-Some.is at c.glance-reader.ensures.seen in
    same_name g.row.V-Name.coded (g.V.Numbered.name (arc_value c.args.seat.kept)) (g.V.Numbered.name (arc_value c.in-Some.later)) (g.V.Numbered.number (arc_value c.in-Some.later)) (view c.args.seat.reader.place) c.args.seat.named seen.0

pub invariant_of-result-2 : goal.invariant_of-result-2
invariant_of-result-2 g c =
    let rose = rw c.in_default.is at c.glance-reader.ensures.seen in
    let knows = risen (g.V.Numbered.number (arc_value c.args.seat.kept)) (g.V.Numbered.name (arc_value c.args.seat.kept)) (view c.args.seat.reader.place) (view c.glance-reader.result.0.place) c.args.seat.low c.args.seat.named rose in
    record { low = knows.0; named = knows.1 }
