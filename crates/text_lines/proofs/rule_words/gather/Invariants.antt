use Rattle.std.specs.Option.{option_copied}
use Rattle.text_lines.specs.inner.Reading.{gathered}
use Rattle.text_lines.proofs.Cuts.{size_left}
use Rattle.text_lines.proofs.Gathering.{GatheredSoFar}
use Rattle.text_lines.proofs.rule_words.gather.Given as goal

abbrev pub invariant-loop-left : goal.invariant-loop-left
invariant-loop-left l = GatheredSoFar l.list (option_copied l.left) (gathered l.words)

abbrev pub decreases-loop-left : goal.decreases-loop-left
decreases-loop-left l = size_left (option_copied l.left)
