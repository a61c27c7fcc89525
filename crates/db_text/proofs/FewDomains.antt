-- A database has few domains, as each has a code of its own, and so few WMM rules in use.
use Rattle.std.proofs.Common.{ℕ, zero, suc, ◌<◌, ◌≤◌, List, [], ◌∷◌, length, get_or, AllPairs, inl, inr, arith}
use Rattle.rule_tables.specs.Code.{key}
use Rattle.rule_tables.specs.Databases.{IsDb}
use Rattle.rule_tables.specs.declared.domain.Domain.{Domain}
use Rattle.db_text.specs.Printed.{first_uses, wmm_in, wmm_in_rules}
use Rattle.db_text.proofs.Uses.{few_first, few_flat, few_in_rules}

-- keys ascend by one at least
at_least_its_place : (ds : List Domain) → AllPairs (λ c d. key c.alpha2 < key d.alpha2) ds → (k : ℕ) (d : Domain) → k < length ds → k ≤ key (get_or ds k d).alpha2
at_least_its_place ds pairs zero d lt = omega arith
at_least_its_place ds pairs (suc k) d lt =
    let below = at_least_its_place ds pairs k d (omega arith) in
    let more = pairs k (suc k) d (omega arith) lt in
    omega (arith, below, more)

few_domains : (ds : List Domain) → IsDb ds → length ds ≤ 65536
few_domains [] db = omega arith
few_domains (x ∷ xs) db =
    let lt : length xs < length (x ∷ xs) = omega arith in
    let low = at_least_its_place (x ∷ xs) db.ascending (length xs) x lt in
    let one = db.each (length xs) x lt in
    let high : key (get_or (x ∷ xs) (length xs) x).alpha2 ≤ 65535 = elim one.code [ inl c ↦ omega (arith, c) | inr c ↦ omega (arith, c) ] in
    omega (arith, low, high)

pub few_uses : (ds : List Domain) → IsDb ds → length (first_uses (wmm_in ds)) ≤ 8388608
few_uses ds db =
    let some = few_flat (λ (d : Domain). wmm_in_rules d.rules) 128 ds (λ k d less. few_in_rules (get_or ds k d) (db.each k d less)) in
    let few = few_domains ds db in
    let less = few_first (wmm_in ds) in
    omega (arith, some, few, less)
