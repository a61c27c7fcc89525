use Rattle.std.proofs.Common.{Some, None}
use Rattle.core_parts.proofs.OnChannels.{checked_by_book}
use Rattle.core_parts.proofs.contexts.checked_channel.Goals as goal

pub returns-in-Some : goal.returns-in-Some
returns-in-Some c = λ db J x is. checked_by_book db J x _ _ (Some _) is (c.in-Some.ensures.answer is.channels _ _ is.book_is)

pub returns-in-None : goal.returns-in-None
returns-in-None c = λ db J x is. checked_by_book db J x _ _ None is (c.in-None.ensures.answer is.channels _ _ is.book_is)
