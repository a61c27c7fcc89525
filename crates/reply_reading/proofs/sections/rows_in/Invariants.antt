-- the rows so far are those that the attributes so far tell
use Rattle.std.proofs.Common.{◌≡◌, List, All, map, take}
use Rattle.rule_intersect.specs.declared.row.Row.{Row}
use Rattle.reply_reading.specs.inner.Reading.{IsToldRow, payload_in, row_payload}
use Rattle.reply_reading.proofs.sections.rows_in.Given as goal

abbrev pub invariant-loop-attr : goal.invariant-loop-attr
invariant-loop-attr l = (rows : List Row) → All IsToldRow rows → map payload_in l.attrs ≡ map row_payload rows → l.rows ≡ take l.attr-index rows
