-- Whether the numbers with a property have a greatest one, or a least one.
use Rattle.std.proofs.Common.{◌≡◌, ℕ, zero, suc, ◌<◌, ◌≤◌, ◌⊎◌, List, [], ◌∷◌, Contains, arith, refl, sym, subst, inl, inr}
use Rattle.std.proofs.lemmas.Bool.{cases_lt}
use Rattle.freq_range.proofs.Deciding.{Told}
use Rattle.freq_range.proofs.Members.{Contains-cases, Contains-head, Contains-later, Contains-nothing}

-- an order in which any two numbers stand
pub record IsOrder (R : ℕ → ℕ → Type 0) : Type 0 where
  pub either : (a b : ℕ) → R a b ⊎ R b a
  pub through : (a b c : ℕ) → R a b → R b c → R a c

abbrev pub Upward : ℕ → ℕ → Type 0
Upward a b = a ≤ b

abbrev pub Downward : ℕ → ℕ → Type 0
Downward a b = b ≤ a

pub upward : IsOrder Upward
upward = record {
  either = λ a b. elim (cases_lt b a) [ inl less ↦ inr (omega (arith, less)) | inr more ↦ inl more ];
  through = λ a b c p q. omega (arith, p, q);
}

pub downward : IsOrder Downward
downward = record {
  either = λ a b. elim (cases_lt b a) [ inl less ↦ inl (omega (arith, less)) | inr more ↦ inr more ];
  through = λ a b c p q. omega (arith, p, q);
}

-- no number has the property, or one that has it is the last of those in the order
abbrev pub Ends : (ℕ → ℕ → Type 0) → (ℕ → Type 0) → Type 0
Ends R P = ((n : ℕ) → P n → ⊥) ⊎ ((n : ℕ) × P n × ((m : ℕ) → P m → R m n))

pub ends_as : (R : ℕ → ℕ → Type 0) (P Q : ℕ → Type 0) → ((n : ℕ) → P n → Q n) → ((n : ℕ) → Q n → P n) → Ends R P → Ends R Q
ends_as R P Q to from (inl none) = inl (λ n q. none n (from n q))
ends_as R P Q to from (inr (n, p, last)) = inr (n, to n p, λ m q. last m (from m q))

pub ends_none : (R : ℕ → ℕ → Type 0) (P : ℕ → Type 0) → ((n : ℕ) → P n → ⊥) → Ends R P
ends_none R P none = inl none

reflexive : (R : ℕ → ℕ → Type 0) → IsOrder R → (n : ℕ) → R n n
reflexive R order n = elim (order.either n n) [ inl is ↦ is | inr is ↦ is ]

-- one number, where a fact holds
pub ends_one : (R : ℕ → ℕ → Type 0) → IsOrder R → (A : Type 0) (k : ℕ) → Told A → Ends R (λ n. A × (n ≡ k))
ends_one R order A k (inl is) = inr (k, (is, refl), λ m other. subst (λ x. R x k) (sym other.1) (reflexive R order k))
ends_one R order A k (inr never) = inl (λ n is. never is.0)

pub ends_either : (R : ℕ → ℕ → Type 0) → IsOrder R → (P Q : ℕ → Type 0) → Ends R P → Ends R Q → Ends R (λ n. P n ⊎ Q n)
ends_either R order P Q (inl no_p) (inl no_q) = inl (λ n is. elim is [ inl p ↦ no_p n p | inr q ↦ no_q n q ])
ends_either R order P Q (inl no_p) (inr (n, q, last)) = inr (n, inr q, λ m is. elim is [ inl p ↦ absurd (no_p m p) | inr other ↦ last m other ])
ends_either R order P Q (inr (n, p, last)) (inl no_q) = inr (n, inl p, λ m is. elim is [ inl other ↦ last m other | inr q ↦ absurd (no_q m q) ])
ends_either R order P Q (inr (a, p, last_p)) (inr (b, q, last_q)) = elim (order.either a b) [
  | inl to ↦ inr (b, inr q, λ m is. elim is [ inl other ↦ order.through m a b (last_p m other) to | inr other ↦ last_q m other ])
  | inr to ↦ inr (a, inl p, λ m is. elim is [ inl other ↦ last_p m other | inr other ↦ order.through m b a (last_q m other) to ])
]

-- the numbers of all elements of a list
pub ends_any : (R : ℕ → ℕ → Type 0) → IsOrder R → (A : Type 0) (P : A → ℕ → Type 0) → ((x : A) → Ends R (P x)) → (xs : List A)
    → Ends R (λ n. (x : A) × Contains xs x × P x n)
ends_any R order A P each [] = inl (λ n is. Contains-nothing is.0 is.1)
ends_any R order A P each (x ∷ xs) =
    ends_as R (λ n. P x n ⊎ ((y : A) × Contains xs y × P y n)) (λ n. (y : A) × Contains (x ∷ xs) y × P y n) to from
    (ends_either R order (P x) (λ n. (y : A) × Contains xs y × P y n) (each x) (ends_any R order A P each xs))
  where
    to : (n : ℕ) → P x n ⊎ ((y : A) × Contains xs y × P y n) → (y : A) × Contains (x ∷ xs) y × P y n
    to n (inl here) = (x, Contains-head x xs, here)
    to n (inr (y, has, is)) = (y, Contains-later x xs y has, is)

    from : (n : ℕ) → (y : A) × Contains (x ∷ xs) y × P y n → P x n ⊎ ((y : A) × Contains xs y × P y n)
    from n (y, has, is) = elim (Contains-cases x xs y has) [
      | inl same ↦ inl (subst (λ z. P z n) (sym same) is)
      | inr later ↦ inr (y, later, is)
    ]

-- the numbers of all places below one
pub ends_below : (R : ℕ → ℕ → Type 0) → IsOrder R → (P : ℕ → ℕ → Type 0) → ((i : ℕ) → Ends R (P i)) → (k : ℕ)
    → Ends R (λ n. (i : ℕ) × (i < k) × P i n)
ends_below R order P each zero = inl (λ n is. let below = is.1 in omega (arith, below))
ends_below R order P each (suc k) =
    ends_as R (λ n. P k n ⊎ ((i : ℕ) × (i < k) × P i n)) (λ n. (i : ℕ) × (i < suc k) × P i n) to from
    (ends_either R order (P k) (λ n. (i : ℕ) × (i < k) × P i n) (each k) (ends_below R order P each k))
  where
    to : (n : ℕ) → P k n ⊎ ((i : ℕ) × (i < k) × P i n) → (i : ℕ) × (i < suc k) × P i n
    to n (inl here) = (k, omega arith, here)
    to n (inr (i, below, is)) = (i, omega (arith, below), is)

    last : (i : ℕ) → i < suc k → k ≤ i → i ≡ k
    last i below past = omega (arith, below, past)

    from : (n : ℕ) → (i : ℕ) × (i < suc k) × P i n → P k n ⊎ ((i : ℕ) × (i < k) × P i n)
    from n (i, below, is) = elim (cases_lt i k) [
      | inl less ↦ inr (i, less, is)
      | inr past ↦ inl (subst (λ z. P z n) (last i below past) is)
    ]
