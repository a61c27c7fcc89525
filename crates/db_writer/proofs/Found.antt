-- A record of a section is found, and its place is that of the section.
use Rattle.std.proofs.Common.{◌≡◌, ℕ, zero, suc, ◌+◌, ◌<◌, Bool, true, false, List, [], ◌∷◌, length, get_or, take, filter, All, AllPairs, Contains, IsTrue, sum_by, Ordering, Less, Equal, Greater, is_lt, is_gt, inl, inr, refl, sym, ap, ◌∙◌, arith}
use Rattle.std.specs.Cmp.{IsTotalOrder}
use Rattle.std.specs.Cmp.Lexicographic.{slice_cmp, nat_list_cmp_total}
use Rattle.std.specs.List.Sorted.{IsSortedBy, IsNonDecreasingBy, IsPartitionPoint}
use Rattle.std.specs.Ordering.{nat_cmp, ordering_index, ordering_reverse}
use Rattle.std.proofs.lemmas.Bool.{cases_lt, true≢false}
use Rattle.std.proofs.lemmas.Cmp.{tied_itself}
use Rattle.std.proofs.lemmas.List.Elements.{All-head, All-tail}
use Rattle.std.proofs.lemmas.List.Sorted.{searchable_from_sorted}
use Rattle.std.proofs.lemmas.List.Sums.{sum_by-cons}
use Rattle.db_writer.specs.Order.{precedes, place_in}
use Rattle.db_writer.specs.inner.Places.{places_from}

pub is_less : (o : Ordering) → is_lt o ≡ true → o ≡ Less
is_less Less e = refl
is_less Equal e = absurd (true≢false (sym e))
is_less Greater e = absurd (true≢false (sym e))

less_apart : Less ≡ Equal → ⊥
less_apart e = true≢false (ap is_lt e)

greater_apart : Greater ≡ Equal → ⊥
greater_apart e = true≢false (ap is_gt e)

-- records in ascending order of their keys
abbrev pub Ascends : {X : Type 0} → (X → List ℕ) → List X → Type 0
Ascends key xs = AllPairs (λ x y. IsTrue (precedes (key x) (key y))) xs

-- what precedes isn't preceded
pub not_back : (xs ys : List ℕ) → IsTrue (precedes xs ys) → precedes ys xs ≡ false
not_back xs ys before = ap is_lt (nat_list_cmp_total.antisymm ys xs ∙ ap ordering_reverse (is_less _ before))

pub not_itself : (xs : List ℕ) → precedes xs xs ≡ false
not_itself xs = ap is_lt (tied_itself nat_list_cmp_total xs)

-- records in order are sorted by their comparison
pub sorted_from : {X : Type 0} (R : X → X → Ordering) (key : X → List ℕ) (by_key : (x y : X) → R x y ≡ slice_cmp nat_cmp (key x) (key y)) (xs : List X) →
    Ascends key xs → IsSortedBy (λ x y. is_lt (R x y)) xs
sorted_from R key by_key xs up = λ k d low within. ap is_lt (by_key _ _) ∙ not_back (key (get_or xs k d)) (key (get_or xs (k + 1) d)) (up k (k + 1) d (omega arith) within)

-- a search doesn't miss a record that is there
pub not_missed : {X : Type 0} (R : X → X → Ordering) (total : IsTotalOrder R) (key : X → List ℕ) (by_key : (x y : X) → R x y ≡ slice_cmp nat_cmp (key x) (key y)) (xs : List X) (x : X) (i : ℕ) →
    Ascends key xs → Contains xs x → (IsNonDecreasingBy (λ y. ordering_index (R y x)) xs → IsPartitionPoint (λ y. R y x ≡ Less) (λ y. R y x ≡ Greater) xs i) → ⊥
not_missed R total key by_key xs x i up (k, within, is) position =
    let parts = position (searchable_from_sorted total (λ y. y) xs x (sorted_from R key by_key xs up)) in
    let tied : R (get_or xs k x) x ≡ Equal = ap (λ y. R y x) is ∙ tied_itself total x in
    elim (cases_lt k i) [
      | inl lt ↦ absurd (less_apart (sym (parts.0 k x (omega arith) lt) ∙ tied))
      | inr le ↦ absurd (greater_apart (sym (parts.1 k x le within) ∙ tied))
    ]

-- none passes a test that all fail
none_pass : {X : Type 0} (p : X → Bool) (xs : List X) → All (λ x. p x ≡ false) xs → filter p xs ≡ []
none_pass p [] all = refl
none_pass p (x ∷ xs) all = rw (All-head (λ y. p y ≡ false) x xs all) (none_pass p xs (All-tail (λ y. p y ≡ false) x xs all))

pub ascends_rest : {X : Type 0} (key : X → List ℕ) (x : X) (xs : List X) → Ascends key (x ∷ xs) → Ascends key xs
ascends_rest key x xs up = λ i j d lt within. up (suc i) (suc j) d (omega arith) (omega arith)

-- the records that precede one of a section are those that stand before it
pub those_before : {X : Type 0} (key : X → List ℕ) (xs : List X) (k : ℕ) (d : X) → Ascends key xs → k < length xs →
    filter (λ y. precedes (key y) (key (get_or xs k d))) xs ≡ take k xs
those_before key [] k d up within = absurd (omega arith)
those_before key (x ∷ xs) zero d up within =
    rw (not_itself (key x)) (none_pass (λ y. precedes (key y) (key x)) xs (λ j e lt. not_back (key x) (key (get_or xs j e)) (up zero (suc j) e (omega arith) (omega arith))))
those_before key (x ∷ xs) (suc k) d up within =
    let first : precedes (key x) (key (get_or xs k d)) ≡ true = up zero (suc k) d (omega arith) within in
    rw first (ap (λ ys. x ∷ ys) (those_before key xs k d (ascends_rest key x xs up) (omega arith)))

pub length-places_from : {X : Type 0} (words : X → ℕ) (first : ℕ) (xs : List X) → length (places_from words first xs) ≡ length xs
length-places_from words first [] = refl
length-places_from words first (x ∷ xs) = ap suc (length-places_from words (first + words x) xs)

-- a place is where the section begins and the words of the records before it
pub get_or-places_from : {X : Type 0} (words : X → ℕ) (first : ℕ) (xs : List X) (k d : ℕ) → k < length xs →
    get_or (places_from words first xs) k d ≡ first + sum_by words (take k xs)
get_or-places_from words first [] k d within = absurd (omega arith)
get_or-places_from words first (x ∷ xs) zero d within = omega arith
get_or-places_from words first (x ∷ xs) (suc k) d within =
    let more = get_or-places_from words (first + words x) xs k d (omega arith) in
    let sum = sum_by-cons words x (take k xs) in
    omega (arith, more, sum)

pub place_found : {X : Type 0} (key : X → List ℕ) (words : X → ℕ) (first : ℕ) (xs : List X) (k d : ℕ) (e x : X) → Ascends key xs → k < length xs → get_or xs k e ≡ x →
    get_or (places_from words first xs) k d ≡ place_in key words first xs x
place_found key words first xs k d e x up within is =
    get_or-places_from words first xs k d within
    ∙ ap (λ ys. first + sum_by words ys) (sym (those_before key xs k e up within))
    ∙ ap (place_in key words first xs) is
