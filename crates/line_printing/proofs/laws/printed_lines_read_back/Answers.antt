use Rattle.line_printing.proofs.PrintedLines.{printed-line-only, printed-line-says}
use Rattle.line_printing.proofs.laws.printed_lines_read_back.Goals as goal

pub returns-clause-reads : goal.returns-clause-reads
returns-clause-reads c = printed-line-says

pub returns-clause-only : goal.returns-clause-only
returns-clause-only c = printed-line-only
