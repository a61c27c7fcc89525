use Rattle.std.proofs.Common.{[], drop, map}
use Rattle.line_forms.specs.Forms.{Leads}
use Rattle.line_forms.specs.Told.{Told, nothing}
use Rattle.line_forms.proofs.fitting.told_along.Given as goal

-- what the words and slots that are left lead to, all lead to
abbrev pub invariant-loop-i : goal.invariant-loop-i
invariant-loop-i l =
    ((e : Told) → Leads (drop l.i (map (λ w. w.now) l.words)) (drop l.i l.row) l.draft [] e → Leads (map (λ w. w.now) l.words) l.row nothing [] e)
    × ((e : Told) → Leads (map (λ w. w.now) l.words) l.row nothing [] e → Leads (drop l.i (map (λ w. w.now) l.words)) (drop l.i l.row) l.draft [] e)
