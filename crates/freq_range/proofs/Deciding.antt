-- What can be told: whether a fact holds or not.
use Rattle.std.proofs.Common.{◌≡◌, ℕ, ◌<◌, ◌≤◌, ◌⊎◌, Bool, true, false, List, [], ◌∷◌, Contains, Option, Some, None, arith, refl, sym, subst, ◌∙◌, ap, inl, inr}
use Rattle.std.proofs.lemmas.Bool.{cases_lt, true≢false, false≢true}
use Rattle.std.proofs.lemmas.Option.{none-some, same_Some}
use Rattle.freq_range.proofs.Members.{Contains-cases, Contains-head, Contains-later, Contains-nothing}

-- the fact holds or not
abbrev pub Told : Type 0 → Type 0
Told P = P ⊎ (P → ⊥)

pub told_as : {P Q : Type 0} → (P → Q) → (Q → P) → Told P → Told Q
told_as to from told = elim told [
  | inl is ↦ inl (to is)
  | inr never ↦ inr (λ q. never (from q))
]

pub told_both : {P Q : Type 0} → Told P → Told Q → Told (P × Q)
told_both p q = elim p [
  | inr never ↦ inr (λ both. never both.0)
  | inl is ↦ elim q [
    | inr never ↦ inr (λ both. never both.1)
    | inl too ↦ inl (is, too)
  ]
]

pub told_lt : (m n : ℕ) → Told (m < n)
told_lt m n = elim (cases_lt m n) [
  | inl less ↦ inl less
  | inr more ↦ inr (λ less. omega (arith, less, more))
]

pub told_le : (m n : ℕ) → Told (m ≤ n)
told_le m n = elim (cases_lt n m) [
  | inl less ↦ inr (λ more. omega (arith, less, more))
  | inr more ↦ inl more
]

-- whether an element has a property, where it is told of each
pub told_any : {A : Type 0} (P : A → Type 0) → ((x : A) → Told (P x)) → (xs : List A)
    → ((x : A) × Contains xs x × P x) ⊎ ((x : A) → Contains xs x → P x → ⊥)
told_any P tell [] = inr (λ x has p. Contains-nothing x has)
told_any P tell (y ∷ ys) = elim (tell y) [
  | inl is ↦ inl (y, Contains-head y ys, is)
  | inr never ↦ elim (told_any P tell ys) [
    | inl later ↦ inl (later.0, Contains-later y ys later.0 later.1, later.2)
    | inr none ↦ inr (λ x has p. elim (Contains-cases y ys x has) [
      | inl here ↦ never (subst P (sym here) p)
      | inr later ↦ none x later p
    ])
  ]
]

-- ---- equality

-- whether two values are one
abbrev pub Tells : Type 0 → Type 0
Tells A = (x y : A) → Told (x ≡ y)

pub tells_pair : {A B : Type 0} → Tells A → Tells B → Tells (A × B)
tells_pair a b x y = elim (a x.0 y.0) [
  | inr never ↦ inr (λ e. never (λ i. (e i).0))
  | inl p ↦ elim (b x.1 y.1) [
    | inr never ↦ inr (λ e. never (λ i. (e i).1))
    | inl q ↦ inl (λ i. (p i, q i))
  ]
]

-- of values that are made of their parts
pub tells_through : {A B : Type 0} (f : A → B) (g : B → A) → ((x : A) → g (f x) ≡ x) → Tells B → Tells A
tells_through f g back tell x y = elim (tell (f x) (f y)) [
  | inl same ↦ inl (sym (back x) ∙ ap g same ∙ back y)
  | inr never ↦ inr (λ e. never (ap f e))
]

pub tells_bool : Tells Bool
tells_bool true true = inl refl
tells_bool false false = inl refl
tells_bool true false = inr true≢false
tells_bool false true = inr false≢true

pub tells_option : {A : Type 0} → Tells A → Tells (Option A)
tells_option tell None None = inl refl
tells_option tell (Some x) None = inr (λ e. none-some x (sym e))
tells_option tell None (Some y) = inr (none-some y)
tells_option tell (Some x) (Some y) = elim (tell x y) [
  | inl same ↦ inl (ap Some same)
  | inr never ↦ inr (λ e. never (same_Some x y e))
]

-- whether an element is one of a list
pub told_among : {A : Type 0} → Tells A → (xs : List A) (x : A) → Told (Contains xs x)
told_among tell xs x = elim (told_any (λ y. y ≡ x) (λ y. tell y x) xs) [
  | inl found ↦ inl (subst (Contains xs) found.2 found.1)
  | inr none ↦ inr (λ has. none x has refl)
]
