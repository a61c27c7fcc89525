-- The row of a longer tuple.
use Rattle.std.proofs.Common.{◌≡◌, ℕ, ◌*◌, max, min, List, [], ◌∷◌, ◌++◌, arith, refl, sym, ap, ◌∙◌}
use Rattle.freq_range.proofs.Joined.{joined_flags_by-push}
use Rattle.rule_intersect.specs.Joining.{join}
use Rattle.rule_intersect.specs.inner.Own.{row_alone}
use Rattle.rule_intersect.specs.Tuples.{Choice, row_of, greatest_by, least_by, check_ms}

max_apart : (a b c : ℕ) → max a (max b c) ≡ max (max a b) c
max_apart a b c = omega arith

min_apart : (a b c : ℕ) → min a (min b c) ≡ min (min a b) c
min_apart a b c = omega arith

max_first : (a : ℕ) → max 0 a ≡ a
max_first a = omega arith

pub greatest_by-append : {X : Type 0} (f : X → ℕ) (xs ys : List X) → greatest_by f (xs ++ ys) ≡ max (greatest_by f xs) (greatest_by f ys)
greatest_by-append f [] ys = sym (max_first (greatest_by f ys))
greatest_by-append f (x ∷ xs) ys =
    ap (λ n. max (f x) n) (greatest_by-append f xs ys) ∙ max_apart (f x) (greatest_by f xs) (greatest_by f ys)

pub least_by-push : {X : Type 0} (f : X → ℕ) (x : X) (xs : List X) (y : X) → least_by f ((x ∷ xs) ++ y ∷ []) ≡ min (least_by f (x ∷ xs)) (f y)
least_by-push f x [] y = refl
least_by-push f x (z ∷ zs) y = ap (λ n. min (f x) n) (least_by-push f z zs y) ∙ min_apart (f x) (least_by f (z ∷ zs)) (f y)

-- the row of a tuple with one more rule joins that of the tuple with that of the rule alone
pub row_of-push : (x : Choice) (xs : List Choice) (c : Choice) → row_of ((x ∷ xs) ++ c ∷ []) ≡ join (row_of (x ∷ xs)) (row_alone c)
row_of-push x xs c = λ i. record {
  start_khz = greatest_by-append (λ e. e.rule.start_khz) (x ∷ xs) (c ∷ []) i;
  end_khz = least_by-push (λ e. e.rule.end_khz) x xs c i;
  width_khz = least_by-push (λ e. e.width_khz) x xs c i;
  flags = joined_flags_by-push (λ e. e.rule.flags) (x ∷ xs) c i;
  eirp_mbm = least_by-push (λ e. e.rule.eirp_mbm) x xs c i;
  cac_ms = greatest_by-append (λ e. e.rule.cac_s * 1000) (x ∷ xs) (c ∷ []) i;
  check_ms = greatest_by-append (λ e. check_ms e.rule) (x ∷ xs) (c ∷ []) i;
}
