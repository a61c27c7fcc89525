use Rattle.std.proofs.Common.{◌↔◌, IsTrue, is_some, sym, subst}
use Rattle.reg_journal.specs.Refusals.{IsInUse}
use Rattle.reg_books.proofs.InUse.{used_on_channel}
use Rattle.reg_core.proofs.forecast.is_used.Goals as goal

pub returns : goal.returns
returns c = λ db J x is.
    subst (λ b. IsTrue b ↔ IsInUse J x) (sym c.is_some.ensures)
    (subst (λ o. IsTrue (is_some o) ↔ IsInUse J x) (sym (c.channel_of.ensures db J x is)) (used_on_channel J x))
