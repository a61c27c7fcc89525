use Rattle.std.specs.Option.{option_copied}
use Rattle.text_lines.proofs.Codes.{ReadSoFar}
use Rattle.text_lines.proofs.Cuts.{size_left}
use Rattle.text_lines.proofs.country_header.read_codes.Given as goal

abbrev pub invariant-loop-left : goal.invariant-loop-left
invariant-loop-left l = ReadSoFar l.list (option_copied l.left) l.codes.items

abbrev pub decreases-loop-left : goal.decreases-loop-left
decreases-loop-left l = size_left (option_copied l.left)
