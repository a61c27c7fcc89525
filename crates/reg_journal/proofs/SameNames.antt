-- Names are the same where their bytes are.
use Rattle.std.proofs.Common.{◌≡◌, ℕ, Bool, true, false, IsTrue, List, refl}
use Rattle.std.proofs.lemmas.Slice.Eq.{bytes_eq-Decides}
use Rattle.reg_base.specs.Texts.{same_bytes}

-- two tests with one meaning are one
pub one_test : (a b : Bool) → (IsTrue a → IsTrue b) → (IsTrue b → IsTrue a) → a ≡ b
one_test true true to from = refl
one_test true false to from = absurd (cc (to refl))
one_test false true to from = absurd (cc (from refl))
one_test false false to from = refl

pub same_name-to : (a b : List ℕ) → IsTrue (same_bytes a b) → a ≡ b
same_name-to a b is = (bytes_eq-Decides a b).0 is

-- the test of names is one of their equality
pub same_name : (r : Bool) (a b : List ℕ) → (IsTrue r → a ≡ b) → (a ≡ b → IsTrue r) → r ≡ same_bytes a b
same_name r a b to from = one_test r (same_bytes a b) (λ is. (bytes_eq-Decides a b).1 (to is)) (λ is. from (same_name-to a b is))
