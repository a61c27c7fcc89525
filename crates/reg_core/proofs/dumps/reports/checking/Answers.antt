use Rattle.std.proofs.Common.{Some, None}
use Rattle.core_parts.proofs.ShownReports.{state_checking}
use Rattle.reg_core.proofs.dumps.reports.checking.Goals as goal

pub returns-in-Some : goal.returns-in-Some
returns-in-Some c = λ db J x is none.
    state_checking db J x c.args.book.now c.args.interface.now (Some (c.in-Some.chan, c.in-Some.until)) is none (c.in-Some.ensures.answer is.channels _ _ is.book_is)

pub returns-in-None : goal.returns-in-None
returns-in-None c = λ db J x is none. state_checking db J x c.args.book.now c.args.interface.now None is none (c.in-None.ensures.answer is.channels _ _ is.book_is)
