-- A domain that is sought among those in ascending order.
use Rattle.std.proofs.Common.{◌≡◌, ℕ, ◌<◌, ◌≤◌, List, length, get_or, All, AllPairs, arith, ap, subst, inl, inr}
use Rattle.std.proofs.lemmas.Bool.{cases_order}
use Rattle.std.proofs.lemmas.List.Elements.{All-contains}
use Rattle.std.specs.List.Sorted.{IsNonDecreasingBy}
use Rattle.rule_tables.specs.declared.code.Alpha2.{Alpha2}
use Rattle.rule_tables.specs.declared.domain.Domain.{Domain}
use Rattle.rule_tables.specs.Code.{key}
use Rattle.rule_tables.specs.Databases.{HasCode}

-- the keys of those in ascending order don't fall
pub not_falling : (ds : List Domain) → AllPairs (λ c d. key c.alpha2 < key d.alpha2) ds → IsNonDecreasingBy (λ d. key d.alpha2) ds
not_falling ds ascending i j d from within = elim (cases_order i j) [
  | inl same ↦ let e : key (get_or ds i d).alpha2 ≡ key (get_or ds j d).alpha2 = ap (λ n. key (get_or ds n d).alpha2) same in omega (arith, e)
  | inr (inl lower) ↦ let less = ascending i j d lower within in omega (arith, less)
  | inr (inr higher) ↦ absurd (omega arith)
]

-- where those in front of a place are below the code, and the one at it is another and not below, none has the code
pub no_code : (ds : List Domain) (c : Alpha2) (i : ℕ) → AllPairs (λ c d. key c.alpha2 < key d.alpha2) ds
    → ((k : ℕ) (d : Domain) → k < i → key (get_or ds k d).alpha2 < key c)
    → ((d : Domain) → i < length ds → key c ≤ key (get_or ds i d).alpha2)
    → ((d : Domain) → i < length ds → (get_or ds i d).alpha2 ≡ c → ⊥)
    → HasCode ds c → ⊥
no_code ds c i ascending below at other (d, there, same) =
    let none : All (λ e. e.alpha2 ≡ c → ⊥) ds = λ k e within is. elim (cases_order k i) [
      | inl here ↦ other e (subst (λ n. n < length ds) here within) (subst (λ n. (get_or ds n e).alpha2 ≡ c) here is)
      | inr (inl before) ↦ let less = below k e before in let key_is : key (get_or ds k e).alpha2 ≡ key c = ap key is in absurd (omega (arith, less, key_is))
      | inr (inr behind) ↦
          let less = ascending i k e behind within in
          let from = at e (omega (arith, behind, within)) in
          let key_is : key (get_or ds k e).alpha2 ≡ key c = ap key is in absurd (omega (arith, less, from, key_is))
    ] in
    All-contains (λ e. e.alpha2 ≡ c → ⊥) ds d none there same
