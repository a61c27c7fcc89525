-- The first words of a line, cut one by one.
use Rattle.std.proofs.Common.{◌≡◌, ℕ, ◌≤◌, List, [], ◌∷◌, ◌++◌, length, map, take, Some, None, ap, ◌∙◌, sym, subst, arith}
use Rattle.std.proofs.lemmas.List.{append_assoc, append-nil, length-map, map-append, take-append-le, take_all}
use Rattle.std.proofs.lemmas.Option.{some_pair_parts}
use Rattle.line_forms.specs.inner.Cursor.{next_word}

first-all : {A : Type 0} (f : A → List ℕ) (xs : List A) → length xs ≤ 16 → take 16 (map f xs) ≡ map f xs
first-all f xs few = take_all 16 (map f xs) (subst (λ n. n ≤ 16) (sym (length-map xs f)) few)

-- where no word is left, those that are cut are all
pub cut-all : {A : Type 0} (f : A → List ℕ) (xs : List A) (ws left : List (List ℕ)) → length xs ≤ 16 → map f xs ++ left ≡ ws → next_word left ≡ None → map f xs ≡ take 16 ws
cut-all f xs ws [] few is none = sym (first-all f xs few) ∙ ap (take 16) (sym (append-nil (map f xs)) ∙ is)
cut-all f xs ws (w ∷ left) few is none = absurd cc

-- 16 words that are cut are the first ones
pub cut-full : {A : Type 0} (f : A → List ℕ) (xs : List A) (ws left : List (List ℕ)) → length xs ≡ 16 → map f xs ++ left ≡ ws → map f xs ≡ take 16 ws
cut-full f xs ws left full is =
    let most : 16 ≤ length (map f xs) = subst (λ n. 16 ≤ n) (sym (length-map xs f)) (omega arith) in
    sym (first-all f xs (omega arith)) ∙ sym (take-append-le 16 (map f xs) left most) ∙ ap (take 16) is

-- one more word is cut
pub cut-more : {A : Type 0} (f : A → List ℕ) (xs : List A) (x : A) (ws left behind : List (List ℕ)) → map f xs ++ left ≡ ws → next_word left ≡ Some (f x, behind) → map f (xs ++ x ∷ []) ++ behind ≡ ws
cut-more f xs x ws [] behind is next = absurd cc
cut-more f xs x ws (w ∷ left) behind is next =
    let p = some_pair_parts w (f x) left behind next in
    ap (λ l. l ++ behind) (map-append f xs (x ∷ [])) ∙ append_assoc (map f xs) (f x ∷ []) behind ∙ ap (λ v. map f xs ++ (v ∷ behind)) (sym p.0) ∙ ap (λ l. map f xs ++ (w ∷ l)) (sym p.1) ∙ is
