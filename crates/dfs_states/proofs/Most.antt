-- The greatest of some numbers.
use Rattle.std.proofs.Common.{◌≡◌, ℕ, Option, Some, None, arith, refl, subst, ◌⊎◌, inl, inr}
use Rattle.std.proofs.lemmas.Option.{none-some, same_Some}
use Rattle.dfs_states.specs.Greatest.{IsGreatest, IsMost}

pub greatest_same : (P : ℕ → Type 0) (n m : ℕ) → IsGreatest P n → IsGreatest P m → n ≡ m
greatest_same P n m one other =
    let above = one.none_above m other.holds in
    let below = other.none_above n one.holds in
    omega arith

-- properties of the same numbers have the same greatest number
pub most_same : (P Q : ℕ → Type 0) (most : Option ℕ) → ((n : ℕ) → P n → Q n) → ((n : ℕ) → Q n → P n) → IsMost P most → IsMost Q most
most_same P Q None to from is = λ n q. is n (from n q)
most_same P Q (Some most) to from is = record { holds = to most is.holds; none_above = λ m q. is.none_above m (from m q) }

-- the greatest of two properties' numbers is the greatest of the first one's greatest and of the second one's
pub most_either : (P Q : ℕ → Type 0) (one most : Option ℕ) → IsMost P one → IsMost (λ n. (one ≡ Some n) ⊎ Q n) most → IsMost (λ n. P n ⊎ Q n) most
most_either P Q None None is both = λ n either. elim either [
  | inl p ↦ is n p
  | inr q ↦ both n (inr q)
]
most_either P Q None (Some most) is both = record {
  holds = elim both.holds [
    | inl same ↦ absurd (none-some most same)
    | inr q ↦ inr q
  ];
  none_above = λ m either. elim either [
    | inl p ↦ absurd (is m p)
    | inr q ↦ both.none_above m (inr q)
  ];
}
most_either P Q (Some one) None is both = absurd (both one (inl refl))
most_either P Q (Some one) (Some most) is both = record {
  holds = elim both.holds [
    | inl same ↦ inl (subst P (same_Some one most same) is.holds)
    | inr q ↦ inr q
  ];
  none_above = λ m either. elim either [
    | inl p ↦
        let below = is.none_above m p in
        let above = both.none_above one (inl refl) in
        omega arith
    | inr q ↦ both.none_above m (inr q)
  ];
}

-- a number is the greatest of itself
pub most_alone : (one : Option ℕ) (Q : ℕ → Type 0) → ((n : ℕ) → Q n → ⊥) → IsMost (λ n. (one ≡ Some n) ⊎ Q n) one
most_alone None Q none = λ n either. elim either [
  | inl same ↦ none-some n same
  | inr q ↦ none n q
]
most_alone (Some one) Q none = record {
  holds = inl refl;
  none_above = λ m either. elim either [
    | inl same ↦ let same' : one ≡ m = same_Some one m same in omega arith
    | inr q ↦ absurd (none m q)
  ];
}
