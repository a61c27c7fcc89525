-- Repeats in a list of rules, by places and by what stands before.
use Rattle.std.proofs.Common.{◌≡◌, ℕ, ◌<◌, List, length, take, get_or, Contains, arith, sym, ◌∙◌}
use Rattle.std.proofs.lemmas.List.{length-take-le, get_or-take, get_or_default}
use Rattle.freq_range.specs.declared.rule.Rule.{Rule}
use Rattle.rule_tables.specs.Databases.{IsRepeatedAt}
use Rattle.rule_tables.specs.Domains.{AreDistinct}

-- a rule that repeats one is among those before it
pub before_from_repeated : (rules : List Rule) (i : ℕ) (rule : Rule) → i < length rules → rule ≡ get_or rules i rule → IsRepeatedAt rules i → Contains (take i rules) rule
before_from_repeated rules i rule in_range at repeated =
    let j = repeated.1 in
    let below : j < i = repeated.2 in
    let len = length-take-le i rules (omega arith) in
    (j, omega (arith, len), get_or-take i rules j rule below ∙ repeated.3 rule ∙ sym at)

-- a rule that is among those before it repeats one
pub repeated_from_before : (rules : List Rule) (i : ℕ) (rule : Rule) → i < length rules → ((d : Rule) → rule ≡ get_or rules i d) → Contains (take i rules) rule → IsRepeatedAt rules i
repeated_from_before rules i rule in_range at before =
    let j = before.0 in
    let len = length-take-le i rules (omega arith) in
    let below : j < i = omega (arith, len, before.1) in
    (in_range, j, below, λ d. get_or_default rules j d rule (omega arith) ∙ sym (get_or-take i rules j rule below) ∙ before.2 ∙ at d)

-- where no place repeats one, no two are equal
pub distinct_from_unrepeated : (rules : List Rule) → ((k : ℕ) → k < length rules → IsRepeatedAt rules k → ⊥) → AreDistinct rules
distinct_from_unrepeated rules none i j d below in_range same =
    none j in_range (in_range, i, below, λ e. get_or_default rules i e d (omega arith) ∙ same ∙ get_or_default rules j d e in_range)
