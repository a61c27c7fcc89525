use Rattle.std.proofs.Common.{◌≡◌, ◌++◌, drop}
use Rattle.iw_dumps.specs.DumpTexts.{sections_text}
use Rattle.iw_dumps.proofs.sections.sections_text.Given as goal

-- what was printed, and the sections that are left, are all
abbrev pub invariant-loop-section : goal.invariant-loop-section
invariant-loop-section l = l.out ++ sections_text (drop l.section-index l.sections) ≡ sections_text l.sections
