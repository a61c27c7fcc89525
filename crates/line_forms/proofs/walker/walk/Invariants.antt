use Rattle.std.proofs.Common.{ℕ, ◌+◌, drop}
use Rattle.line_forms.specs.Told.{Told, nothing}
use Rattle.line_forms.specs.inner.Walking.{StopsAlong}
use Rattle.line_forms.specs.declared.walker.End.{End}
use Rattle.line_forms.proofs.walker.walk.Given as goal

-- how far the words that are left go along the slots that are left says how far all go
abbrev pub invariant-loop-i : goal.invariant-loop-i
invariant-loop-i l = (k : ℕ) (end : End) (e : Told) → StopsAlong (drop l.i l.slots) l.draft l.words k end e → StopsAlong l.slots nothing l.initial.words (l.i + k) end e
