use Rattle.std.proofs.Common.{rules}
use Rattle.db_text.specs.Printed.{LackTimes}
use Rattle.db_text.proofs.PrintedText.{printed_reads}
use Rattle.db_text.proofs.printer.print.Goals as goal

pub returns-clause-reads : goal.returns-clause-reads
returns-clause-reads c =
    let none : LackTimes c.args.db.now = search rules in
    rw c.in_ok-text.ensures (printed_reads c.args.db.now c.as_slice.ensures.db none)
