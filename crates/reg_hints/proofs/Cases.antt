-- Tests of the code against tests of the table.
use Rattle.std.proofs.Common.{◌≡◌, ℕ, ◌↔◌, Bool, true, not, IsTrue, rules}
use Rattle.rule_tables.specs.declared.code.Alpha2.{Alpha2}
use Rattle.reg_hints.specs.Last.{is_element, is_element_of, is_element_of_other}
use Rattle.rule_tables.specs.Code.{is_same_code}
use Rattle.reg_hints.specs.declared.hint.Last.{Last}
use Rattle.reg_hints.specs.declared.hint.Last.TheVariants.{Core, User, Driver, Element}

-- a country element is this radio's or another one's
pub of_this_radio : (last : Last) (r : ℕ) → is_element last ≡ true → is_element_of last r ≡ not (is_element_of_other last r)
of_this_radio Core r h = search rules
of_this_radio (User alpha2 intersected) r h = search rules
of_this_radio (Driver alpha2) r h = search rules
of_this_radio (Element radio alpha2) r h = search rules

-- codes are the same where their bytes are
pub same_code : (same : Bool) (one other : Alpha2) → (IsTrue same ↔ (one ≡ other)) → same ≡ is_same_code one other
same_code same one other h = search rules
