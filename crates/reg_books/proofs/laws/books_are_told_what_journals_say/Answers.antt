use Rattle.reg_books.proofs.Counting.{counts_from_book, counts_to_book}
use Rattle.reg_books.proofs.DueCalls.{due_calls}
use Rattle.reg_books.proofs.Lapsing.{lapsed_from_book, lapsed_to_book, used_from_book, used_to_book}
use Rattle.reg_books.proofs.LastingChecks.{lasts_told}
use Rattle.reg_books.proofs.Running.{calls-now}
use Rattle.reg_books.proofs.States.{barred_alike, quiet_alike, stands_alike, state_alike}
use Rattle.reg_books.proofs.laws.books_are_told_what_journals_say.Goals as goal

pub returns-clause-moment : goal.returns-clause-moment
returns-clause-moment c = calls-now

pub returns-clause-due : goal.returns-clause-due
returns-clause-due c = due_calls

pub returns-clause-barred : goal.returns-clause-barred
returns-clause-barred c = barred_alike

pub returns-clause-quiet : goal.returns-clause-quiet
returns-clause-quiet c = quiet_alike

pub returns-clause-counts : goal.returns-clause-counts
returns-clause-counts c = λ db J radio khz end due. (counts_to_book db J radio khz end due, λ counts. counts_from_book db J radio khz counts.0 end due counts.1)

pub returns-clause-stands : goal.returns-clause-stands
returns-clause-stands c = stands_alike

pub returns-clause-state : goal.returns-clause-state
returns-clause-state c = state_alike

pub returns-clause-used : goal.returns-clause-used
returns-clause-used c = λ db J radio khz due. (used_to_book db J radio khz due, used_from_book db J radio khz due)

pub returns-clause-lapsed : goal.returns-clause-lapsed
returns-clause-lapsed c = λ db J radio khz end due. (lapsed_to_book db J radio khz end due, lapsed_from_book db J radio khz end due)

pub returns-clause-lasts : goal.returns-clause-lasts
returns-clause-lasts c = lasts_told
