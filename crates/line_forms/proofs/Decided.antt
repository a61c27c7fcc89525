-- The tests of the program beside what the definitions ask.
use Rattle.std.proofs.Common.{◌≡◌, true, false, arith}
use Rattle.std.proofs.lemmas.Bool.Decides.{nat_tests}
use Rattle.rule_tables.specs.Code.{IsCode, is_code}
use Rattle.rule_tables.specs.declared.code.Alpha2.{Alpha2}

pub is_code-from : (c : Alpha2) → IsCode c → is_code c.a c.b ≡ true
is_code-from c h = grind (arith, nat_tests)

pub is_code-not : (c : Alpha2) → (IsCode c → ⊥) → is_code c.a c.b ≡ false
is_code-not c h = grind (arith, nat_tests)

pub ruleset steps = (is_code-from, is_code-not)
