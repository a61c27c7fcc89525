-- What a writer shows.
use Rattle.std.specs.Prelude.{List, fold}
use Rattle.std.specs.Arc.{arc_value}
use Rattle.std.specs.declared.sync.Arc.{Arc}
use Rattle.std.specs.declared.alloc.Global.{Global}
use Rattle.left_right.specs.declared.Absorb as absorb
use Rattle.rule_publish.specs.declared.numbered.Numbered.{Ghosts}
use Rattle.rule_publish.specs.declared.sheet.Sheet.{Sheet}
use Rattle.rule_publish.specs.declared.pen.Pen.{Pen}

-- the last of what is pending, or what is shown where nothing is
abbrev pub latest : {V : Type 0} → V → List (Arc V Global) → V
latest shown pending = fold (λ _ next. arc_value next) shown pending

module _ {V P N S : Type 0} {g : Ghosts V N} {h : absorb.Ghosts (Sheet V N) (Arc V Global) S} where
  -- the value that the pen's writer shows
  abbrev pub written_by : Pen V P N S g h → V
  written_by p = arc_value p.writer.desk.shown.value.value
