-- Those of a list of all numbers of a kind that are of a second kind, as a walk from the front picks them.
use Rattle.std.proofs.Common.{◌≡◌, ℕ, ◌+◌, ◌<◌, ◌≤◌, ◌⊎◌, List, [], ◌∷◌, ◌++◌, length, take, get_or, Contains, arith, sym, ap, ◌∙◌, subst, inl, inr}
use Rattle.std.proofs.lemmas.List.{get_or_default, get_or-take, length-take, take_all, take_more}
use Rattle.std.proofs.lemmas.List.Elements.{All-nil, All-push, All-weaker, Contains-append_left, Contains-push, Contains-push_cases}
use Rattle.std.proofs.lemmas.List.Quantifiers.{all_pairs_push}
use Rattle.freq_range.specs.Ascending.{AreAllAscending}

-- the number is of the second kind, and one of the first so many of the list
abbrev pub IsPicked : (ℕ → Type 0) → List ℕ → ℕ → ℕ → Type 0
IsPicked Q list count n = Q n × Contains (take count list) n

pub picked-nothing : (Q : ℕ → Type 0) (list : List ℕ) → AreAllAscending (IsPicked Q list 0) []
picked-nothing Q list = record {
  all = λ n (is, has). let in_range = has.1 in absurd (omega (arith, in_range));
  only = All-nil (IsPicked Q list 0);
  ascending = λ i j d below in_range. absurd (omega arith);
}

-- what is among the first ones is among one more
among_more : (list : List ℕ) (i n : ℕ) → i < length list → Contains (take i list) n → Contains (take (i + 1) list) n
among_more list i n below has = subst (λ xs. Contains xs n) (sym (take_more list i n below)) (Contains-append_left (take i list) (get_or list i n ∷ []) n has)

-- what is among one more is among the first ones or the next
among_cases : (list : List ℕ) (i x n : ℕ) → i < length list → x ≡ get_or list i 0 → Contains (take (i + 1) list) n → Contains (take i list) n ⊎ (x ≡ n)
among_cases list i x n below is has =
    Contains-push_cases (take i list) x n (subst (λ xs. Contains xs n) (take_more list i 0 below ∙ ap (λ y. take i list ++ y ∷ []) (sym is)) has)

pub picked-leave : (Q : ℕ → Type 0) (list : List ℕ) (i x : ℕ) (xs : List ℕ) → i < length list → x ≡ get_or list i 0 → (Q x → ⊥)
    → AreAllAscending (IsPicked Q list i) xs → AreAllAscending (IsPicked Q list (i + 1)) xs
picked-leave Q list i x xs below is lacks are = record {
  all = λ n (is_n, has). elim (among_cases list i x n below is has) [
    | inl before ↦ are.all n (is_n, before)
    | inr same ↦ absurd (lacks (subst Q (sym same) is_n))
  ];
  only = All-weaker (IsPicked Q list i) (IsPicked Q list (i + 1)) (λ n (is_n, has). (is_n, among_more list i n below has)) xs are.only;
  ascending = are.ascending;
}

pub picked-keep : (P Q : ℕ → Type 0) (list : List ℕ) (i x : ℕ) (xs : List ℕ) → AreAllAscending P list → i < length list → x ≡ get_or list i 0 → Q x
    → AreAllAscending (IsPicked Q list i) xs → AreAllAscending (IsPicked Q list (i + 1)) (xs ++ x ∷ [])
picked-keep P Q list i x xs whole below is has_x are = record {
  all = λ n (is_n, has). elim (among_cases list i x n below is has) [
    | inl before ↦ Contains-append_left xs (x ∷ []) n (are.all n (is_n, before))
    | inr same ↦ subst (λ y. Contains (xs ++ x ∷ []) y) same (Contains-push xs x)
  ];
  only = All-push (IsPicked Q list (i + 1)) xs x
      (All-weaker (IsPicked Q list i) (IsPicked Q list (i + 1)) (λ n (is_n, has). (is_n, among_more list i n below has)) xs are.only) (has_x, there);
  ascending = all_pairs_push (λ low high. low < high) xs x are.ascending (λ k d in_range. lower _ (are.only k d in_range).1);
}
  where
    there : Contains (take (i + 1) list) x
    there = subst (λ ys. Contains ys x) (sym (take_more list i 0 below ∙ ap (λ y. take i list ++ y ∷ []) (sym is))) (Contains-push (take i list) x)

    lower : (n : ℕ) → Contains (take i list) n → n < x
    lower n (k, in_range, at_k) =
        let len = length-take i list in
        let k_below : k < i = omega (arith, len, in_range) in
        let same : get_or list k 0 ≡ n = sym (get_or-take i list k 0 k_below) ∙ get_or_default _ _ _ _ in_range ∙ at_k in
        let less = whole.ascending k i 0 k_below below in
        omega (arith, same, is, less)

-- where all of the list was walked over, and each number of the second kind is of the first
pub picked-all : (P Q : ℕ → Type 0) (list : List ℕ) (count : ℕ) (xs : List ℕ) → AreAllAscending P list → length list ≤ count → ((n : ℕ) → Q n → P n)
    → AreAllAscending (IsPicked Q list count) xs → AreAllAscending Q xs
picked-all P Q list count xs whole past within are = record {
  all = λ n is. are.all n (is, subst (λ ys. Contains ys n) (sym (take_all count list past)) (whole.all n (within n is)));
  only = All-weaker (IsPicked Q list count) Q (λ n picked. picked.0) xs are.only;
  ascending = are.ascending;
}
