-- What lengths and types have no fault.
use Rattle.std.proofs.Common.{◌≡◌, ◌≢◌, ℕ, ◌%◌, ◌≤◌, Bool, true, false, cond, ◌&&◌, ◌||◌, not, eqb, ltb, leb, Option, Some, None, refl, arith}
use Rattle.std.proofs.lemmas.Bool.{not-false, eqb-true, ltb-false, le-leb}
use Rattle.nl_attrs.specs.Faults.{length_fault, type_fault}
use Rattle.nl_attrs.specs.declared.fault.AttrFault.TheVariants.{BadLength, Overlong, BadType}

cond_none : {A : Type 0} (b : Bool) (x : A) (y : Option A) → cond b (Some x) y ≡ None → (b ≡ false) × (y ≡ None)
cond_none true x y e = absurd cc
cond_none false x y e = (refl, e)

or_false : (p q : Bool) → (p || q) ≡ false → (p ≡ false) × (q ≡ false)
or_false true q e = absurd cc
or_false false q e = (refl, e)

and_false : (p q : Bool) → (p && q) ≡ false → p ≡ true → q ≡ false
and_false true q e is = e
and_false false q e is = absurd cc

pub length_good : (n : ℕ) → length_fault n ≡ None → (20 ≤ n) × (n % 4 ≡ 0) × (n ≤ 65536)
unfolding length_fault
length_good n e =
    let first = cond_none (ltb n 20 || not (eqb (n % 4) 0)) (BadLength n) _ e in
    let second = cond_none (ltb 65536 n) (Overlong n) None first.1 in
    let tests = or_false (ltb n 20) (not (eqb (n % 4) 0)) first.0 in
    (ltb-false n 20 tests.0, eqb-true (n % 4) 0 (not-false (eqb (n % 4) 0) tests.1), ltb-false 65536 n second.0)

-- the tests of a type without a fault
type_tests : (n k : ℕ) → type_fault n k ≡ None → ((eqb k 2 && not (eqb n 36)) ≡ false) × ((eqb k 3 && not (eqb n 20)) ≡ false) × (ltb k 2 ≡ false) × ((leb 4 k && ltb k 16) ≡ false)
unfolding type_fault
type_tests n k e =
    let first = cond_none ((eqb k 2 && not (eqb n 36)) || (eqb k 3 && not (eqb n 20))) (BadLength n) _ e in
    let second = cond_none (ltb k 2 || (leb 4 k && ltb k 16)) (BadType k) None first.1 in
    let lengths = or_false (eqb k 2 && not (eqb n 36)) (eqb k 3 && not (eqb n 20)) first.0 in
    let types = or_false (ltb k 2) (leb 4 k && ltb k 16) second.0 in
    (lengths.0, lengths.1, types.0, types.1)

pub error_length : (n k : ℕ) → k ≡ 2 → type_fault n k ≡ None → n ≡ 36
error_length n k is e =
    eqb-true n 36 (not-false (eqb n 36) (and_false (eqb k 2) (not (eqb n 36)) (type_tests n k e).0 (rw is refl)))

pub done_length : (n k : ℕ) → k ≡ 3 → type_fault n k ≡ None → n ≡ 20
done_length n k is e =
    eqb-true n 20 (not-false (eqb n 20) (and_false (eqb k 3) (not (eqb n 20)) (type_tests n k e).1 (rw is refl)))

pub family_type : (n k : ℕ) → k ≢ 2 → k ≢ 3 → type_fault n k ≡ None → 16 ≤ k
family_type n k not_error not_done e =
    let tests = type_tests n k e in
    let low : 2 ≤ k = ltb-false k 2 tests.2 in
    let four : 4 ≤ k = omega arith in
    ltb-false k 16 (and_false (leb 4 k) (ltb k 16) tests.3 (le-leb 4 k four))
