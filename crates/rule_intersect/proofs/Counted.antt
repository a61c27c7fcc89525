-- The pairs of a row and a rule that meet are as many as the rows that they make.
use Rattle.std.proofs.Common.{◌≡◌, ℕ, suc, ◌≤◌, max, min, nat_lt, Bool, true, false, List, [], ◌∷◌, length, map, if◌then◌else◌, arith, refl, sym, ap, ◌∙◌}
use Rattle.std.proofs.lemmas.List.{length-append}
use Rattle.freq_range.specs.declared.rule.Rule.{Rule}
use Rattle.rule_intersect.specs.declared.row.Row.{Row}
use Rattle.rule_intersect.specs.inner.Pairs.{met_one}
use Rattle.rule_intersect.specs.inner.Pairs.{met_all}
use Rattle.rule_intersect.specs.inner.Pairs.{join_one}
use Rattle.rule_intersect.specs.inner.Pairs.{join_all}
use Rattle.rule_intersect.specs.Joining.{meets, meets_rule, join}
use Rattle.rule_intersect.specs.inner.Own.{AreOwnRows, row_alone}
use Rattle.rule_intersect.specs.Tuples.{Choice}
use Rattle.rule_intersect.proofs.OwnRows.{rules_of_choices}

same_test : (row : Row) (c : Choice) → meets row (row_alone c) ≡ meets_rule row c.rule
same_test row c = ap (λ start. nat_lt (max row.start_khz start) (min row.end_khz c.rule.end_khz)) (none_less c.rule.start_khz)
  where
    none_less : (n : ℕ) → max n 0 ≡ n
    none_less n = omega arith

counted_one : (row : Row) (cs : List Choice) → met_one row (map (λ c. c.rule) cs) ≡ length (join_one row (map row_alone cs))
counted_one row [] = refl
counted_one row (c ∷ cs) = step (meets_rule row c.rule) (meets row (row_alone c)) (sym (same_test row c)) (counted_one row cs)
  where
    step : (a b : Bool) → a ≡ b → met_one row (map (λ c. c.rule) cs) ≡ length (join_one row (map row_alone cs))
        → (if a then suc (met_one row (map (λ c. c.rule) cs)) else met_one row (map (λ c. c.rule) cs))
        ≡ length (if b then join row (row_alone c) ∷ join_one row (map row_alone cs) else join_one row (map row_alone cs))
    step true true same rest = ap suc rest
    step false false same rest = rest
    step true false same rest = absurd cc
    step false true same rest = absurd cc

counted_all : (rows : List Row) (cs : List Choice) → met_all rows (map (λ c. c.rule) cs) ≡ length (join_all rows (map row_alone cs))
counted_all [] cs = refl
counted_all (row ∷ rows) cs =
    let one = counted_one row cs in
    let rest = counted_all rows cs in
    let len = length-append (join_one row (map row_alone cs)) (join_all rows (map row_alone cs)) in
    omega (arith, one, rest, len)

pub met_all-length : (rules : List Rule) (rows own : List Row) → AreOwnRows rules (length rules) own → met_all rows rules ≡ length (join_all rows own)
met_all-length rules rows own (cs, choices, same) =
    ap (λ rs. met_all rows rs) (sym (rules_of_choices rules cs choices)) ∙ counted_all rows cs ∙ ap (λ xs. length (join_all rows xs)) (sym same)

pub few_made : (rules : List Rule) (rows own made : List Row) (count : ℕ) → AreOwnRows rules (length rules) own → count ≡ met_all rows rules → count ≤ 1024
    → made ≡ join_all rows own → length made ≤ 1024
few_made rules rows own made count alone counted few same =
    let len = ap length same in
    let met = met_all-length rules rows own alone in
    omega (arith, len, met)
