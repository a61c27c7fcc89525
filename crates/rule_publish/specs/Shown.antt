-- What the ends of a board show and keep.
use Rattle.std.specs.Prelude.{List}
use Rattle.std.specs.declared.sync.Arc.{Arc}
use Rattle.std.specs.declared.alloc.Global.{Global}
use Rattle.left_right.specs.declared.Absorb as absorb
use Rattle.rule_publish.specs.declared.numbered.Numbered.{Ghosts}
use Rattle.rule_publish.specs.declared.sheet.Sheet.{Sheet}
use Rattle.rule_publish.specs.declared.look.Looker.{Looker}
use Rattle.rule_publish.specs.declared.look.Look.{Look}
use Rattle.rule_publish.specs.declared.list.LookerList.{LookerList}
use Rattle.rule_publish.specs.declared.note.Note.{Note}
use Rattle.rule_publish.specs.declared.teller.Teller.{Teller}
use Rattle.rule_publish.specs.inner.Kept.{kept_by}
use Rattle.rule_publish.specs.inner.Written.{written_by}

module _ {V N : Type 0} {g : Ghosts V N} where
  -- the value of the greatest number that the Looker saw or was told of
  abbrev pub seen_by : Looker V N g → V
  seen_by l = kept_by l.post

  -- the value that the Look shows
  abbrev pub looked_at : Look V N g → V
  looked_at l = seen_by l.looker

  -- the readers that are left in the list
  abbrev pub lookers_of : LookerList V N g → List (Looker V N g)
  lookers_of l = l.items.items

  -- the value that the Teller showed when it told
  abbrev pub told_by : Note V N g → V
  told_by n = kept_by n.post

module _ {V R N S : Type 0} {g : Ghosts V N} {h : absorb.Ghosts (Sheet V N) (Arc V Global) S} where
  -- the value that the Teller shows
  abbrev pub shown_by : Teller V R N S g h → V
  shown_by t = written_by t.pen
