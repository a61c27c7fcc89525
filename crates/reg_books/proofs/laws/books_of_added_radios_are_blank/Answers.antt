use Rattle.reg_books.proofs.Added.{added_blank}
use Rattle.reg_books.proofs.laws.books_of_added_radios_are_blank.Goals as goal

pub returns : goal.returns
returns c = added_blank
