use Rattle.std.proofs.Common.{◌≡◌, ◌++◌, drop}
use Rattle.std.specs.List.{flat_map}
use Rattle.reg_base.specs.Texts.{line_of}
use Rattle.iw_dumps.specs.DumpTexts.{row_text}
use Rattle.iw_dumps.proofs.sections.put_rows.Given as goal

-- what was printed, and the lines of the rows that are left, are all
abbrev pub invariant-loop-row : goal.invariant-loop-row
invariant-loop-row l = l.out ++ flat_map (λ row. line_of (row_text row)) (drop l.row-index l.rows) ≡ l.initial.out ++ flat_map (λ row. line_of (row_text row)) l.rows
