-- The value that a post keeps.
use Rattle.std.specs.Arc.{arc_value}
use Rattle.rule_publish.specs.declared.numbered.Numbered.{Ghosts}
use Rattle.rule_publish.specs.declared.post.Post.{Post}
use Rattle.rule_publish.specs.declared.post.Post.TheVariants.{Seated, Standing}

module _ {V N : Type 0} {g : Ghosts V N} where
  -- the value of the greatest number that was seen or told there
  abbrev pub kept_by : Post V N g → V
  kept_by (Seated seat) = arc_value seat.kept
  kept_by (Standing kept) = arc_value kept
