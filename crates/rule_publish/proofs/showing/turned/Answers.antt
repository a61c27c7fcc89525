use Rattle.std.proofs.Common.{drop}
use Rattle.std.specs.Arc.{arc_value}
use Rattle.left_right.specs.Sides.{view}
use Rattle.rule_publish.specs.inner.Written.{latest}
use Rattle.rule_publish.proofs.Seats.{turns}
use Rattle.rule_publish.proofs.showing.turned.Goals as goal

pub publish_as-requires : goal.publish_as-requires
publish_as-requires g c next is views keeps at =
    turns g.V.Numbered.number g.V.Numbered.name (arc_value c.args.writer.desk.shown.value.value) (latest (arc_value c.args.writer.desk.shown.value.value) (drop c.args.writer.behind c.args.writer.log.items))
    (arc_value next.value) views c.args.writer.desk.place.id (view c.args.writer.desk.place) c.requires.number c.requires.name is keeps at
