-- Whether something holds where a list is split, and the numbers that its splits give.
use Rattle.std.proofs.Common.{◌≡◌, ℕ, ◌⊎◌, List, [], ◌∷◌, ◌++◌, Contains, refl, sym, ap, subst, inl, inr}
use Rattle.freq_range.proofs.Deciding.{Told, told_any, told_as}
use Rattle.chan_flags.proofs.Ends.{Ends, IsOrder, ends_as, ends_either}

-- whether an element has a property
pub told_member : {X : Type 0} (P : X → Type 0) → ((x : X) → Told (P x)) → (xs : List X) → Told ((x : X) × Contains xs x × P x)
told_member P tell xs = elim (told_any P tell xs) [
  | inl found ↦ inl found
  | inr none ↦ inr (λ found. none found.0 found.1 found.2)
]

-- P holds of some split of the list
abbrev pub SomeSplit : {X : Type 0} → (List X → List X → Type 0) → List X → Type 0
SomeSplit {X} P xs = (newer : List X) × (older : List X) × (xs ≡ newer ++ older) × P newer older

-- a split is that before the first element, or one of the others with that before them
split_from : {X : Type 0} (P : List X → List X → Type 0) (x : X) (xs : List X) → P [] (x ∷ xs) ⊎ SomeSplit (λ newer older. P (x ∷ newer) older) xs → SomeSplit P (x ∷ xs)
split_from P x xs (inl here) = ([], x ∷ xs, refl, here)
split_from P x xs (inr (newer, older, at, is)) = (x ∷ newer, older, ap (λ ys. x ∷ ys) at, is)

split_to : {X : Type 0} (P : List X → List X → Type 0) (x : X) (xs : List X) → SomeSplit P (x ∷ xs) → P [] (x ∷ xs) ⊎ SomeSplit (λ newer older. P (x ∷ newer) older) xs
split_to {X} P x xs (newer, older, at, is) = by newer at is
  where
    first : (y : X) (rest : List X) → x ∷ xs ≡ y ∷ rest → x ≡ y
    first y rest e = cc

    others : (y : X) (rest : List X) → x ∷ xs ≡ y ∷ rest → xs ≡ rest
    others y rest e = cc

    by : (newer : List X) → x ∷ xs ≡ newer ++ older → P newer older → P [] (x ∷ xs) ⊎ SomeSplit (λ newer older. P (x ∷ newer) older) xs
    by [] at is = inl (subst (λ ys. P [] ys) (sym at) is)
    by (y ∷ newer) at is = inr (newer, older, others y (newer ++ older) at, subst (λ z. P (z ∷ newer) older) (sym (first y (newer ++ older) at)) is)

none_to : {X : Type 0} (P : List X → List X → Type 0) → SomeSplit P [] → P [] []
none_to {X} P (newer, older, at, is) = by newer older at is
  where
    by : (newer older : List X) → [] ≡ newer ++ older → P newer older → P [] []
    by [] [] at is = is
    by [] (y ∷ older) at is = cc
    by (y ∷ newer) older at is = cc

pub told_split : {X : Type 0} (P : List X → List X → Type 0) → ((newer older : List X) → Told (P newer older)) → (xs : List X) → Told (SomeSplit P xs)
told_split P tell [] = told_as {P = P [] []} {Q = SomeSplit P []} (λ is. ([], [], refl, is)) (none_to P) (tell [] [])
told_split {X} P tell (x ∷ xs) = elim (tell [] (x ∷ xs)) [
  | inl here ↦ inl ([], x ∷ xs, refl, here)
  | inr never ↦ elim (told_split (λ newer older. P (x ∷ newer) older) (λ newer older. tell (x ∷ newer) older) xs) [
    | inl later ↦ inl (split_from P x xs (inr later))
    | inr none ↦ inr (λ is. elim (split_to P x xs is) [ inl here ↦ never here | inr later ↦ none later ])
  ]
]

pub ends_split : {X : Type 0} (R : ℕ → ℕ → Type 0) → IsOrder R → (P : List X → List X → ℕ → Type 0) → ((newer older : List X) → Ends R (P newer older)) → (xs : List X)
    → Ends R (λ n. SomeSplit (λ newer older. P newer older n) xs)
ends_split R order P each [] = ends_as R (P [] []) (λ n. SomeSplit (λ newer older. P newer older n) []) (λ n is. ([], [], refl, is)) (λ n. none_to (λ newer older. P newer older n)) (each [] [])
ends_split {X} R order P each (x ∷ xs) =
    ends_as R (λ n. P [] (x ∷ xs) n ⊎ SomeSplit (λ newer older. P (x ∷ newer) older n) xs) (λ n. SomeSplit (λ newer older. P newer older n) (x ∷ xs))
    (λ n. split_from (λ newer older. P newer older n) x xs)
    (λ n. split_to (λ newer older. P newer older n) x xs)
    (ends_either R order (P [] (x ∷ xs)) (λ n. SomeSplit (λ newer older. P (x ∷ newer) older n) xs) (each [] (x ∷ xs))
    (ends_split R order (λ newer older. P (x ∷ newer) older) (λ newer older. each (x ∷ newer) older) xs))
