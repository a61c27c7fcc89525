-- Spellings of which none begins another, one after another: a list is read in one way.
use Rattle.std.proofs.Common.{◌≡◌, ℕ, List, [], ◌∷◌, ◌++◌, refl, sym, ◌∙◌, append_assoc}
use Rattle.std.specs.List.{flat_map, AllByRecursion}

-- no spelling begins the bytes
abbrev pub Stops : {X : Type 0} → (X → List ℕ) → (X → Type 0) → List ℕ → Type 0
Stops {X} f Good r = (x : X) (t : List ℕ) → Good x → r ≡ f x ++ t → ⊥

module _ {X : Type 0} (f : X → List ℕ) (Good : X → Type 0) (apart : (x y : X) (r s : List ℕ) → Good x → Good y → f x ++ r ≡ f y ++ s → (x ≡ y) × (r ≡ s)) where
  pub one_reading : (xs ys : List X) (r s : List ℕ) → AllByRecursion Good xs → AllByRecursion Good ys → Stops f Good r → Stops f Good s → flat_map f xs ++ r ≡ flat_map f ys ++ s → (xs ≡ ys) × (r ≡ s)
  one_reading [] [] r s good_xs good_ys stop_r stop_s e = (refl, e)
  one_reading [] (y ∷ ys) r s good_xs good_ys stop_r stop_s e = absurd (stop_r y (flat_map f ys ++ s) good_ys.0 (e ∙ append_assoc (f y) (flat_map f ys) s))
  one_reading (x ∷ xs) [] r s good_xs good_ys stop_r stop_s e = absurd (stop_s x (flat_map f xs ++ r) good_xs.0 (sym e ∙ append_assoc (f x) (flat_map f xs) r))
  one_reading (x ∷ xs) (y ∷ ys) r s good_xs good_ys stop_r stop_s e =
      let first = apart x y (flat_map f xs ++ r) (flat_map f ys ++ s) good_xs.0 good_ys.0 (sym (append_assoc (f x) (flat_map f xs) r) ∙ e ∙ append_assoc (f y) (flat_map f ys) s) in
      let others = one_reading xs ys r s good_xs.1 good_ys.1 stop_r stop_s first.1 in
      ((λ i. first.0 i ∷ others.0 i), others.1)

  -- what is read up to where it stops is the longest list
  pub longest : (xs ys : List X) (r s : List ℕ) → AllByRecursion Good xs → AllByRecursion Good ys → Stops f Good s → flat_map f xs ++ r ≡ flat_map f ys ++ s → (more : List X) × (ys ≡ xs ++ more)
  longest [] ys r s good_xs good_ys stop_s e = (ys, refl)
  longest (x ∷ xs) [] r s good_xs good_ys stop_s e = absurd (stop_s x (flat_map f xs ++ r) good_xs.0 (sym e ∙ append_assoc (f x) (flat_map f xs) r))
  longest (x ∷ xs) (y ∷ ys) r s good_xs good_ys stop_s e =
      let first = apart x y (flat_map f xs ++ r) (flat_map f ys ++ s) good_xs.0 good_ys.0 (sym (append_assoc (f x) (flat_map f xs) r) ∙ e ∙ append_assoc (f y) (flat_map f ys) s) in
      let others = longest xs ys r s good_xs.1 good_ys.1 stop_s first.1 in
      (others.0, λ i. sym first.0 i ∷ others.1 i)
