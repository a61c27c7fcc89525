-- Loops that compare two lists place by place.
use Rattle.std.proofs.Common.{◌≡◌, ℕ, ◌+◌, ◌<◌, ◌≤◌, List, [], ◌∷◌, length, drop, get_or, None, Some, inl, inr, ap, refl, sym, subst, ◌∙◌, arith}
use Rattle.std.specs.Prelude.{slice_get}
use Rattle.std.specs.List.{AllZip}
use Rattle.std.proofs.lemmas.List.{drop_all, drop_more}
use Rattle.std.proofs.lemmas.Option.{get_or_from_slice_get, slice_get_cases, slice_get_within}
use Rattle.std.proofs.lemmas.Slice.Zip.{AllZip-long}

-- the lists agree exactly where what is left of them does
pub record LeftAgree {A B : Type 0} (R : A → B → Type 0) (xs : List A) (ys : List B) (i : ℕ) : Type 0 where
  pub on : AllZip R (drop i xs) (drop i ys) → AllZip R xs ys
  pub off : AllZip R xs ys → AllZip R (drop i xs) (drop i ys)

-- the element at a place stands first in what is left
left_at : {A : Type 0} (xs : List A) (i : ℕ) (x : A) → i < length xs → x ≡ get_or xs i x → drop i xs ≡ x ∷ drop (i + 1) xs
left_at {A} xs i x lt at = drop_more xs i x lt ∙ ap (λ (z : A). z ∷ drop (i + 1) xs) (sym at)

right_at : {B : Type 0} (ys : List B) (i : ℕ) (y : B) → slice_get ys i ≡ Some y → drop i ys ≡ y ∷ drop (i + 1) ys
right_at {B} ys i y e = drop_more ys i y (slice_get_within ys i y e) ∙ ap (λ (z : B). z ∷ drop (i + 1) ys) (get_or_from_slice_get ys i y y e)

pub begins_agreed : {A B : Type 0} (R : A → B → Type 0) (xs : List A) (ys : List B) → LeftAgree R xs ys 0
begins_agreed R xs ys = record { on = λ all. all; off = λ all. all }

pub agrees_on : {A B : Type 0} (R : A → B → Type 0) (xs : List A) (ys : List B) (i : ℕ) (x : A) (y : B) → i < length xs → x ≡ get_or xs i x → slice_get ys i ≡ Some y → R x y
    → LeftAgree R xs ys i → LeftAgree R xs ys (i + 1)
agrees_on R xs ys i x y lt at e holds agree =
    let left = left_at xs i x lt at in
    let right = right_at ys i y e in
    record {
      on = λ rest. agree.on (rw (left, right) (holds, rest));
      off = λ all. (rw (left, right) at (agree.off all)).1;
    }

pub differs : {A B : Type 0} (R : A → B → Type 0) (xs : List A) (ys : List B) (i : ℕ) (x : A) (y : B) → i < length xs → x ≡ get_or xs i x → slice_get ys i ≡ Some y → (R x y → ⊥)
    → LeftAgree R xs ys i → AllZip R xs ys → ⊥
differs R xs ys i x y lt at e not agree all =
    let left = left_at xs i x lt at in
    let right = right_at ys i y e in
    not (rw (left, right) at (agree.off all)).0

past_end : {B : Type 0} (ys : List B) (i : ℕ) → slice_get ys i ≡ None → length ys ≤ i
past_end ys i e =
    elim (slice_get_cases ys i).1 [
      | inl found ↦ let clash = sym found.2 ∙ e in absurd cc
      | inr past ↦ past.0
    ]

pub is_shorter : {A B : Type 0} (R : A → B → Type 0) (xs : List A) (ys : List B) (i : ℕ) → i < length xs → slice_get ys i ≡ None → AllZip R xs ys → ⊥
is_shorter R xs ys i lt e all = omega (arith, past_end ys i e, AllZip-long R xs ys all)

pub agrees_to_end : {A B : Type 0} (R : A → B → Type 0) (xs : List A) (ys : List B) (i : ℕ) → length xs ≤ i → length xs ≡ length ys → LeftAgree R xs ys i → AllZip R xs ys
agrees_to_end R xs ys i past same agree =
    let left = drop_all i xs past in
    let right = drop_all i ys (omega arith) in
    agree.on (rw (left, right) tt)

pub other_length : {A B : Type 0} (R : A → B → Type 0) (xs : List A) (ys : List B) → (length xs ≡ length ys → ⊥) → AllZip R xs ys → ⊥
other_length R xs ys not all = not (sym (AllZip-long R xs ys all))

-- the same at each place
pub are_equal : {A : Type 0} (xs ys : List A) → AllZip (λ (x y : A). x ≡ y) xs ys → xs ≡ ys
are_equal [] [] all = refl
are_equal [] (y ∷ ys) all = absurd all
are_equal (x ∷ xs) [] all = absurd all
are_equal (x ∷ xs) (y ∷ ys) all = let head = all.0 in let tail = are_equal xs ys all.1 in λ i. head i ∷ tail i

each_itself : {A : Type 0} (xs : List A) → AllZip (λ (x y : A). x ≡ y) xs xs
each_itself [] = tt
each_itself (x ∷ xs) = (refl, each_itself xs)

pub equal_are : {A : Type 0} (xs ys : List A) → xs ≡ ys → AllZip (λ (x y : A). x ≡ y) xs ys
equal_are {A} xs ys e = subst (λ (zs : List A). AllZip (λ (x y : A). x ≡ y) xs zs) e (each_itself xs)
