use Rattle.std.specs.Option.{option_copied}
use Rattle.rule_text.proofs.ReadSoFar.{ReadSoFar, size_left}
use Rattle.rule_text.proofs.text.read_lines.Given as goal

abbrev pub invariant-loop-left : goal.invariant-loop-left
invariant-loop-left l = ReadSoFar l.text (option_copied l.left) l.number l.parser

abbrev pub decreases-loop-left : goal.decreases-loop-left
decreases-loop-left l = size_left (option_copied l.left)
