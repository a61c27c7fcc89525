-- What a place says of its radio.
use Rattle.std.proofs.Common.{◌≡◌, ℕ, List, Option, Some, None, MatchOption, Bor, sym, subst}
use Rattle.std.specs.Option.{option_copied}
use Rattle.rule_tables.specs.declared.domain.Domain.{Domain}
use Rattle.reg_journal.specs.Facts.{Journal}
use Rattle.reg_journal.specs.Present.{profile_of}
use Rattle.core_parts.specs.Kept.{KeepsRadio, KeepsPlace, radio_in}
use Rattle.core_parts.specs.declared.radio.Radio.{Radio}
use Rattle.core_parts.specs.declared.radio.RadioPlace.{RadioPlace}
use Rattle.core_parts.specs.declared.radio.RadioPlace.TheVariants.{Free, Removed, There}
use Rattle.reg_books.proofs.Newcomers.{profile_of-unused}

radio_in-kept : (db : List Domain) (J : Journal) (r : ℕ) (place : RadioPlace) → KeepsPlace db J r place → MatchOption (radio_in place) (profile_of J r ≡ None) (KeepsRadio db J r)
radio_in-kept db J r Free kept = profile_of-unused J r kept
radio_in-kept db J r Removed kept = kept.1
radio_in-kept db J r (There radio) kept = kept.1

pub asked_radio : (db : List Domain) (J : Journal) (r : ℕ) (place : RadioPlace) (answer : Option (Bor Radio)) → KeepsPlace db J r place → option_copied answer ≡ radio_in place
    → MatchOption answer (profile_of J r ≡ None) (λ radio. KeepsRadio db J r radio.now)
asked_radio db J r place None kept is = subst (λ o. MatchOption o (profile_of J r ≡ None) (KeepsRadio db J r)) (sym is) (radio_in-kept db J r place kept)
asked_radio db J r place (Some radio) kept is = subst (λ o. MatchOption o (profile_of J r ≡ None) (KeepsRadio db J r)) (sym is) (radio_in-kept db J r place kept)
