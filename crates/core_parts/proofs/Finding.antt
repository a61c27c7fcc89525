-- The domain of a code, found among those of a database.
use Rattle.std.proofs.Common.{◌≡◌, ◌<◌, ◌⊎◌, Bool, true, false, List, [], ◌∷◌, AllPairs, Contains, Option, Some, None, MatchOption, IfSome, Bor, if◌then◌else◌, arith, refl, sym, ap, ◌∙◌, inl, inr, rules}
use Rattle.std.proofs.lemmas.List.Elements.{All-contains}
use Rattle.std.specs.List.{find}
use Rattle.std.specs.Option.{option_copied}
use Rattle.freq_range.proofs.Members.{Contains-head, Contains-later, Contains-cases, Contains-nothing}
use Rattle.rule_tables.proofs.Ascending.{before_rest, pairs_rest}
use Rattle.rule_tables.specs.Code.{key}
use Rattle.rule_tables.specs.Databases.{HasCode, IsDb, IsDomain}
use Rattle.rule_tables.specs.declared.code.Alpha2.{Alpha2}
use Rattle.rule_tables.specs.declared.domain.Domain.{Domain}
use Rattle.rule_tables.specs.Code.{is_same_code}
use Rattle.core_parts.specs.TableRules.{AreTableRules}

same_itself : (one other : Alpha2) → one ≡ other → is_same_code one other ≡ true
same_itself one other is = search rules

same_bytes : (one other : Alpha2) → is_same_code one other ≡ true → one ≡ other
same_bytes one other is = search rules

-- where the first domain has the code, and where another one has it
step : (x : Domain) (xs : List Domain) (a : Alpha2) (d : Domain) (b : Bool) → AllPairs (λ c d. key c.alpha2 < key d.alpha2) (x ∷ xs) → d.alpha2 ≡ a
    → (Contains xs d → find (λ d. is_same_code d.alpha2 a) xs ≡ Some d)
    → is_same_code x.alpha2 a ≡ b → (x ≡ d) ⊎ Contains xs d → (if b then Some x else find (λ d. is_same_code d.alpha2 a) xs) ≡ Some d
step x xs a d true ascending is rest test (inl same) = ap (λ y. Some y) same
step x xs a d true ascending is rest test (inr later) =
    let less = before_rest (λ c d. key c.alpha2 < key d.alpha2) x xs d ascending later in
    let equal : key x.alpha2 ≡ key d.alpha2 = ap key (same_bytes x.alpha2 a test ∙ sym is) in
    absurd (omega arith)
step x xs a d false ascending is rest test (inl same) =
    let other : is_same_code x.alpha2 a ≡ true = same_itself x.alpha2 a (ap (λ (y : Domain). y.alpha2) same ∙ is) in
    absurd cc
step x xs a d false ascending is rest test (inr later) = rest later

pub found : (db : List Domain) (a : Alpha2) (d : Domain) → AllPairs (λ c d. key c.alpha2 < key d.alpha2) db → Contains db d → d.alpha2 ≡ a
    → find (λ d. is_same_code d.alpha2 a) db ≡ Some d
found [] a d ascending has is = absurd (Contains-nothing d has)
found (x ∷ xs) a d ascending has is =
    step x xs a d (is_same_code x.alpha2 a) ascending is
    (λ later. found xs a d (pairs_rest (λ c d. key c.alpha2 < key d.alpha2) x xs ascending) later is) refl (Contains-cases x xs d has)

pub not_found : (db : List Domain) (a : Alpha2) → (HasCode db a → ⊥) → find (λ d. is_same_code d.alpha2 a) db ≡ None
not_found [] a none = refl
not_found (x ∷ xs) a none =
    unless (is_same_code x.alpha2 a) (λ test. none (x, Contains-head x xs, same_bytes x.alpha2 a test))
    (not_found xs a (λ has. none (has.0, Contains-later x xs has.0 has.1, has.2)))
  where
    unless : (b : Bool) → (b ≡ true → ⊥) → find (λ d. is_same_code d.alpha2 a) xs ≡ None → (if b then Some x else find (λ d. is_same_code d.alpha2 a) xs) ≡ None
    unless true other rest = absurd (other refl)
    unless false other rest = rest

-- what a search by code gives is the first domain of the code, and a table takes its rules
pub stored : (db : List Domain) (a : Alpha2) (r : Option (Bor Domain)) → IsDb db → MatchOption r (HasCode db a → ⊥) (λ d. Contains db d.now × (d.now.alpha2 ≡ a))
    → option_copied r ≡ find (λ d. is_same_code d.alpha2 a) db
stored db a None is none = sym (not_found db a none)
stored db a (Some d) is has = sym (found db a d.now is.ascending has.0 has.1)

pub stored_rules : (db : List Domain) (a : Alpha2) (r : Option (Bor Domain)) → IsDb db → MatchOption r (HasCode db a → ⊥) (λ d. Contains db d.now × (d.now.alpha2 ≡ a))
    → IfSome r (λ d. AreTableRules d.now.rules)
stored_rules db a None is none = tt
stored_rules db a (Some d) is has =
    let is_domain = All-contains IsDomain db d.now is.each has.0 in
    record { valid = is_domain.rules.each; few = is_domain.rules.few }
