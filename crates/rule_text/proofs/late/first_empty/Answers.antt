use Rattle.std.proofs.Common.{◌≡◌, ◌==◌, ◌<◌, false, List, [], ◌∷◌, length, arith, ap, sym}
use Rattle.std.proofs.lemmas.Bool.{eqb-true}
use Rattle.rule_text.specs.declared.countries.Country.{Country}
use Rattle.rule_text.proofs.LeastLines.{least_end, least_skips, least_takes}
use Rattle.rule_text.proofs.late.first_empty.Goals as goal
use Rattle.rule_text.proofs.Assembled.{nothing_from_length}

abbrev Bad : Country → Type 0
Bad c = c.rules ≡ []

abbrev Good : Country → Type 0
Good c = 0 < length c.rules

clash : (c : Country) → Bad c → Good c → ⊥
clash c bad good = let none = ap length bad in omega (arith, good, none)

some_of : (c : Country) → false ≡ (length c.rules == 0) → Good c
some_of c is = some c.rules is
  where
    some : {X : Type 0} (xs : List X) → false ≡ (length xs == 0) → 0 < length xs
    some [] e = absurd cc
    some (x ∷ xs) e = omega arith

pub loop-country-preserved-then-not-is_empty : goal.loop-country-preserved-then-not-is_empty
loop-country-preserved-then-not-is_empty c =
    let good = some_of c.country-item.result c.if-not-is_empty.ensures.empty in
    least_skips Bad Good (λ x. x.line) c.args.countries.now c.loop-country.country-index c.country-item.result c.loop-country.least c.loop-country-test.true c.country-item.is good
    (λ bad. clash c.country-item.result bad good) c.loop-country.invariant

pub loop-country-preserved : goal.loop-country-preserved
loop-country-preserved c =
    least_takes Bad Good (λ x. x.line) clash c.args.countries.now c.loop-country.country-index c.country-item.result c.loop-country.least c.lesser.result c.loop-country-test.true c.country-item.is
    (nothing_from_length c.country-item.result.rules (eqb-true (length c.country-item.result.rules) 0 (sym c.if-not-is_empty.ensures.empty))) c.lesser.ensures c.loop-country.invariant

pub returns : goal.returns
returns c = least_end Bad Good (λ x. x.line) c.args.countries.now c.loop-country.country-index c.loop-country.least c.loop-country-test.false c.loop-country.invariant
