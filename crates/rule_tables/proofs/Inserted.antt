-- A database stays one where a domain is put in at its place.
use Rattle.std.proofs.Common.{◌≡◌, ℕ, ◌<◌, ◌≤◌, List, length, get_or, insert, arith, sym, ap, inl, inr}
use Rattle.std.proofs.lemmas.Bool.{cases_order}
use Rattle.std.proofs.lemmas.List.Elements.{Contains-get_or}
use Rattle.rule_tables.specs.declared.code.Alpha2.{Alpha2}
use Rattle.rule_tables.specs.declared.domain.Domain.{Domain}
use Rattle.rule_tables.specs.Code.{IsCode, key}
use Rattle.rule_tables.specs.Databases.{IsDb, IsDomain, HasCode}
use Rattle.rule_tables.proofs.InOrder.{All-insert, AllPairs-insert}

-- the second byte of a code is below 256
low_byte : (c : Alpha2) → IsCode c → c.b < 256
low_byte c (inl letters) = omega (arith, letters.1)
low_byte c (inr zeros) = omega (arith, zeros.1)

-- codes of the same bytes are one
same_bytes : (a a' b b' : ℕ) → a ≡ a' → b ≡ b' → ◌≡◌ {A = Alpha2} (record { a = a; b = b }) (record { a = a'; b = b' })
same_bytes a a' b b' p q = cc

-- codes of one key are one
pub same_key : (c d : Alpha2) → IsCode c → IsCode d → key c ≡ key d → c ≡ d
same_key c d is_c is_d same =
    let low_c = low_byte c is_c in
    let low_d = low_byte d is_d in
    same_bytes c.a d.a c.b d.b (omega arith) (omega arith)

-- the domains from a place on have keys from that place's key on
from_place : (ds : List Domain) → IsDb ds → (i k : ℕ) (d : Domain) → i ≤ k → k < length ds → key (get_or ds i d).alpha2 ≤ key (get_or ds k d).alpha2
from_place ds db i k d from in_range = elim (cases_order i k) [
  | inl same ↦ let e : get_or ds i d ≡ get_or ds k d = ap (λ n. get_or ds n d) same in rw e (omega arith)
  | inr (inl lower) ↦ let less = db.ascending i k d lower in_range in omega (arith, less)
  | inr (inr higher) ↦ absurd (omega arith)
]

-- where no domain has the code, those from its place on have greater keys
above_place : (ds : List Domain) (d : Domain) (i : ℕ) → IsDb ds → (HasCode ds d.alpha2 → ⊥) → IsCode d.alpha2
    → ((e : Domain) → i < length ds → key d.alpha2 ≤ key (get_or ds i e).alpha2)
    → (k : ℕ) (e : Domain) → i ≤ k → k < length ds → key d.alpha2 < key (get_or ds k e).alpha2
above_place ds d i db fresh code at k e from in_range =
    let up = from_place ds db i k e from in_range in
    let here = at e (omega arith) in
    elim (cases_order (key d.alpha2) (key (get_or ds k e).alpha2)) [
      | inl same ↦
          let is_code = (db.each k e in_range).code in
          let equal = same_key d.alpha2 (get_or ds k e).alpha2 code is_code same in
          absurd (fresh (get_or ds k e, Contains-get_or ds k e in_range, sym equal))
      | inr (inl less) ↦ less
      | inr (inr more) ↦ absurd (omega arith)
    ]

-- a domain of a new code, put in at the place of its key
pub IsDb-insert : (ds : List Domain) (d : Domain) (i : ℕ) → IsDb ds → (HasCode ds d.alpha2 → ⊥) → IsDomain d → i ≤ length ds
    → ((k : ℕ) (e : Domain) → k < i → key (get_or ds k e).alpha2 < key d.alpha2)
    → ((e : Domain) → i < length ds → key d.alpha2 ≤ key (get_or ds i e).alpha2)
    → IsDb (insert ds i d)
IsDb-insert ds d i db fresh domain within below at = record {
  ascending = AllPairs-insert (λ c e. key c.alpha2 < key e.alpha2) ds i d within db.ascending below (above_place ds d i db fresh domain.code at);
  each = All-insert IsDomain ds i d within db.each domain;
}
