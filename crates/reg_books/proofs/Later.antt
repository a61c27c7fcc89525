-- What stays as it was while more facts come.
use Rattle.std.proofs.Common.{◌≡◌, ℕ, ◌+◌, ◌≤◌, List, [], ◌∷◌, ◌++◌, Some, arith, refl, ne_eqb}
use Rattle.rule_tables.specs.declared.domain.Domain.{Domain}
use Rattle.reg_journal.specs.Facts.{Fact, Journal, moment_is, made}
use Rattle.reg_journal.specs.Present.{now_of, made_of, radio_of}
use Rattle.reg_journal.specs.Due.{EachMayFollow}
use Rattle.reg_books.specs.Slots.{slot_of}
use Rattle.reg_journal.proofs.Homes.{radio_given}
use Rattle.reg_journal.proofs.Later.{not_again, radio_later}

-- its slot stays
pub slot_later : (db : List Domain) (newer base : Journal) (i r : ℕ) → EachMayFollow db (newer ++ base) → radio_of base i ≡ Some r
    → slot_of (newer ++ base) i ≡ slot_of base i
slot_later db [] base i r due radio = refl
slot_later db (made j name q kind ∷ newer) base i r due radio =
    let was = radio_later db newer base i r due.1 radio in
    rw (ne_eqb i j (not_again db (newer ++ base) i j r due.1 due.0.0 was)) (slot_later db newer base i r due.1 radio)
slot_later db (f ∷ newer) base i r due radio = slot_later db newer base i r due.1 radio
