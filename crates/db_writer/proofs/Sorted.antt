-- What a sort and the drop of repeats leave is a section.
use Rattle.std.proofs.Common.{◌≡◌, ℕ, Bool, true, List, All, Contains, Ordering, Less, Equal, Greater, is_lt, is_eq, refl, sym, ap, ◌∙◌, subst}
use Rattle.std.specs.Cmp.{IsTotalOrder, IsEquivalence}
use Rattle.std.specs.Cmp.Lexicographic.{slice_cmp, same_text, texts_ties}
use Rattle.std.specs.List.{dedup}
use Rattle.std.specs.List.Sorted.{IsPermutation, IsSorted, IsStrictlySortedBy}
use Rattle.std.specs.Ordering.{eq_by_cmp, nat_cmp}
use Rattle.std.proofs.lemmas.Bool.{true≢false}
use Rattle.std.proofs.lemmas.List.Elements.{All-contains, Contains-get_or}
use Rattle.std.proofs.lemmas.List.Kept.{Contains-dedup, Contains-from_dedup, IsStrictlySortedBy-dedup}
use Rattle.std.proofs.lemmas.List.Sorted.{Contains-permutation, IsPermutation-sym}
use Rattle.std.proofs.lemmas.Map.Keys.{Less-from_sorted}
use Rattle.db_writer.specs.Order.{IsFileSection}

pub is_equal : (o : Ordering) → is_eq o ≡ true → o ≡ Equal
is_equal Equal e = refl
is_equal Less e = absurd (true≢false (sym e))
is_equal Greater e = absurd (true≢false (sym e))

-- lists that compare as equal are the same
pub equal_lists : (xs ys : List ℕ) → slice_cmp nat_cmp xs ys ≡ Equal → xs ≡ ys
equal_lists xs ys e = same_text xs ys (sym (texts_ties xs ys ∙ ap is_eq e))

-- records that compare as equal are the same
pub same_record : {X : Type 0} (R : X → X → Ordering) (key : X → List ℕ) (by_key : (x y : X) → R x y ≡ slice_cmp nat_cmp (key x) (key y)) (told : (x y : X) → key x ≡ key y → x ≡ y) →
    (x y : X) → R x y ≡ Equal → x ≡ y
same_record R key by_key told x y e = told x y (equal_lists (key x) (key y) (sym (by_key x y) ∙ e))

pub section_from : {X : Type 0} {R : X → X → Ordering} {E : X → X → Bool} (total : IsTotalOrder R) (laws : IsEquivalence E) (ties : (x y : X) → E x y ≡ eq_by_cmp R x y)
    (key : X → List ℕ) (by_key : (x y : X) → R x y ≡ slice_cmp nat_cmp (key x) (key y)) (told : (x y : X) → key x ≡ key y → x ≡ y)
    (old sorted new : List X) → IsPermutation old sorted → IsSorted R sorted → new ≡ dedup E sorted → IsFileSection key (Contains old) new
section_from {X} {R} {E} total laws ties key by_key told old sorted new moved up is =
    let same : (x y : X) → E x y ≡ true → x ≡ y = λ x y e. same_record R key by_key told x y (is_equal (R x y) (sym (ties x y) ∙ e)) in
    let strict : IsStrictlySortedBy R new = subst (IsStrictlySortedBy R) (sym is) (IsStrictlySortedBy-dedup total ties sorted up) in
    record {
      ascending = λ i j d lt within. ap is_lt (sym (by_key _ _) ∙ Less-from_sorted R new i j d strict lt within);
      exactly = λ x. (
        (λ h. Contains-permutation sorted old x (IsPermutation-sym old sorted moved) (Contains-from_dedup E sorted x (subst (λ xs. Contains xs x) is h))),
        (λ h. subst (λ xs. Contains xs x) (sym is) (Contains-dedup laws same sorted x (Contains-permutation old sorted x moved h))),
      );
    }

-- what holds of all records holds of those of their section
pub kept_all : {X : Type 0} (P : X → Type 0) (key : X → List ℕ) (old new : List X) → IsFileSection key (Contains old) new → All P old → All P new
kept_all P key old new section all = λ k d within. All-contains P old _ all ((section.exactly _).0 (Contains-get_or new k d within))
