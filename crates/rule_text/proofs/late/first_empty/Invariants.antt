use Rattle.std.proofs.Common.{◌≡◌, ◌<◌, [], length, take}
use Rattle.rule_text.proofs.LeastLines.{IsLeast}
use Rattle.rule_text.proofs.late.first_empty.Given as goal

abbrev pub invariant-loop-country : goal.invariant-loop-country
invariant-loop-country l = IsLeast (λ c. c.rules ≡ []) (λ c. 0 < length c.rules) (λ c. c.line) (take l.country-index l.countries) l.least
