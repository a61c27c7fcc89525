-- Elements taken one after the other, until there is none.
use Rattle.std.proofs.Common.{◌≡◌, ◌+◌, ◌<◌, ◌≤◌, ℕ, get_or, arith, refl, sym, le_refl, List, [], ◌∷◌, ◌++◌, length, map, take, slice_get, Some, None, ap, ◌∙◌, inl, inr}
use Rattle.std.proofs.lemmas.List.{get_or-take, get_or_push, length-append, map-append, take-append-le, take-take, take_all, take_more}
use Rattle.std.proofs.lemmas.Option.{get_or_from_slice_get, slice_get_cases, slice_get_within}

pub take_got : {X : Type 0} (xs : List X) (k : ℕ) (x : X) → slice_get xs k ≡ Some x → take (k + 1) xs ≡ take k xs ++ x ∷ []
take_got xs k x here = take_more xs k x (slice_get_within xs k x here) ∙ ap (λ y. take k xs ++ y ∷ []) (get_or_from_slice_get xs k x x here)

pub take_to_end : {X : Type 0} (xs : List X) (k : ℕ) → slice_get xs k ≡ None → take k xs ≡ xs
take_to_end xs k past = elim (slice_get_cases xs k).1 [
  | inl there ↦ let some = there.2 in absurd cc
  | inr there ↦ take_all k xs there.0
]

pub map-take_got : {X Y : Type 0} (f : X → Y) (xs : List X) (k : ℕ) (x : X) → slice_get xs k ≡ Some x → map f (take (k + 1) xs) ≡ map f (take k xs) ++ f x ∷ []
map-take_got f xs k x here = ap (map f) (take_got xs k x here) ∙ map-append f (take k xs) (x ∷ [])

-- ---- from the end on

-- the last of the elements that are left of a list, and those before it
pub record IsPopped {X : Type 0} (all rest : List X) (x : X) : Type 0 where
  pub front : rest ≡ take (length rest) all
  pub within : length rest < length all
  pub last : (d : X) → x ≡ get_or all (length rest) d

pub popped : {X : Type 0} (all now rest : List X) (x : X) → now ≡ take (length now) all → length now ≤ length all → now ≡ rest ++ x ∷ [] → IsPopped all rest x
popped all now rest x left few split =
    let len = ap length split ∙ length-append rest (x ∷ []) in
    let n = length rest in
    record {
      front = sym (take_all n rest (le_refl n)) ∙ sym (take-append-le n rest (x ∷ []) (le_refl n)) ∙ ap (take n) (sym split) ∙ ap (take n) left
          ∙ take-take n (length now) all (omega (arith, len));
      within = omega (arith, len, few);
      last = λ d. sym (get_or_push rest x d n refl) ∙ ap (λ xs. get_or xs n d) (sym split) ∙ ap (λ xs. get_or xs n d) left
          ∙ get_or-take (length now) all n d (omega (arith, len));
    }
