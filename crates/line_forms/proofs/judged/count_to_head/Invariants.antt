use Rattle.std.proofs.Common.{◌≡◌, ◌+◌}
use Rattle.line_forms.specs.Faults.{count_to_head}
use Rattle.line_forms.proofs.judged.count_to_head.Given as goal

abbrev pub invariant-loop-count : goal.invariant-loop-count
invariant-loop-count l = l.count + count_to_head l.words ≡ count_to_head l.initial.words
