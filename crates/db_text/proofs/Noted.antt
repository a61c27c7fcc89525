-- What the printer gathers is each WMM rule in use once, in order of its first use, and the map has the place of each.
use Rattle.std.proofs.Common.{◌≡◌, ℕ, ◌+◌, ◌<◌, ◌≤◌, ◌&&◌, ◌||◌, Bool, true, false, not, cond, eqb, ltb, nat_eq, List, [], ◌∷◌, ◌++◌, length, filter, Option, Some, None, arith, refl, sym, subst, ap, ◌∙◌, inl, inr, eq-eqb, append_assoc, append-nil}
use Rattle.std.proofs.lemmas.Bool.{cases_Bool, cases_lt, false_from_ne_true}
use Rattle.std.proofs.lemmas.Bool.Decides.{nat_tests}
use Rattle.std.proofs.lemmas.List.{length-append}
use Rattle.std.proofs.lemmas.List.Folds.{list_any-append, list_any_at, list_any_none, position_or_len_push}
use Rattle.std.proofs.lemmas.List.Quantifiers.{position-Some}
use Rattle.std.proofs.lemmas.List.Sums.{fails_before_first, prefix_len-le-length}
use Rattle.std.proofs.lemmas.Map.Text.{is_eq-slice_cmp}
use Rattle.std.proofs.lemmas.Option.{none-some, same_Some}
use Rattle.std.proofs.lemmas.Slice.Eq.{bytes_eq-Decides}
use Rattle.std.specs.BTreeMap.{BTreeMap, get}
use Rattle.std.specs.Cmp.Lexicographic.{pointwise, slice_cmp}
use Rattle.std.specs.List.{list_any, position, position_or_len}
use Rattle.std.specs.Option.{is_some}
use Rattle.std.specs.Ordering.{is_eq, nat_cmp}
use Rattle.freq_range.specs.declared.wmm.Wmm.{Wmm}
use Rattle.db_text.specs.inner.Naming.{AreNumbered, all_noted, noted}
use Rattle.db_text.specs.Printed.{first_uses, same_wmm, wmm_numbers}
use Rattle.db_text.proofs.SameWmm.{cases_wmm, same_wmm-itself}

-- ---- each once, in order of first use

-- the WMM rule isn't among these
abbrev fresh : List Wmm → Wmm → Bool
fresh ws w = not (list_any (same_wmm w) ws)

filter_step : (p q r : Wmm → Bool) (w : Wmm) (ws : List Wmm) (a b : Bool) → q w ≡ a → p w ≡ b → r w ≡ (a && b) → filter p (filter q ws) ≡ filter r ws
    → filter p (filter q (w ∷ ws)) ≡ filter r (w ∷ ws)
filter_step p q r w ws true true s t e rest = rw (s, e) (rw t (ap (λ xs. w ∷ xs) rest))
filter_step p q r w ws true false s t e rest = rw (s, e) (rw t rest)
filter_step p q r w ws false b s t e rest = rw (s, e) rest

filter_filter : (p q r : Wmm → Bool) → ((w : Wmm) → (q w && p w) ≡ r w) → (ws : List Wmm) → filter p (filter q ws) ≡ filter r ws
filter_filter p q r agree [] = refl
filter_filter p q r agree (w ∷ ws) = filter_step p q r w ws (q w) (p w) refl refl (sym (agree w)) (filter_filter p q r agree ws)

-- one that is there already: what is fresh differs from it
there_agrees : (ws : List Wmm) (w : Wmm) → list_any (same_wmm w) ws ≡ true → (v : Wmm) → (not (same_wmm w v) && fresh ws v) ≡ fresh ws v
there_agrees ws w there v = elim (cases_wmm w v) [
  | inl same ↦
      let e : list_any (same_wmm v) ws ≡ true = subst (λ x. list_any (same_wmm x) ws ≡ true) same there in
      subst (λ t. (not (same_wmm w v) && not t) ≡ not t) (sym e) (either (not (same_wmm w v)))
  | inr apart ↦ rw apart.1 refl
]
  where
    either : (b : Bool) → (b && false) ≡ false
    either true = refl
    either false = refl

-- one that is new
new_agrees : (ws : List Wmm) (w : Wmm) → (v : Wmm) → (not (same_wmm w v) && fresh ws v) ≡ fresh (ws ++ w ∷ []) v
new_agrees ws w v = by_any (list_any (same_wmm v) ws) (list_any-append (same_wmm v) ws (w ∷ []))
  where
    by_any : (a : Bool) → list_any (same_wmm v) (ws ++ w ∷ []) ≡ (a || list_any (same_wmm v) (w ∷ [])) → (not (same_wmm w v) && not a) ≡ fresh (ws ++ w ∷ []) v
    by_any a e = elim (cases_wmm w v) [
      | inl same ↦
          let one : same_wmm w v ≡ true = subst (λ x. same_wmm w x ≡ true) same (same_wmm-itself w) in
          let two : same_wmm v w ≡ true = subst (λ x. same_wmm x w ≡ true) same (same_wmm-itself w) in
          rw (e, one, two) (ends a)
      | inr apart ↦ rw (e, apart.1, apart.2) (goes a)
    ]
      where
        ends : (a : Bool) → false ≡ not (a || true)
        ends true = refl
        ends false = refl

        goes : (a : Bool) → not a ≡ not (a || false)
        goes true = refl
        goes false = refl

pub all_noted-is : (used ws : List Wmm) → all_noted ws used ≡ ws ++ filter (fresh ws) (first_uses used)
all_noted-is [] ws = sym (append-nil ws)
all_noted-is (w ∷ used) ws = elim (cases_Bool (list_any (same_wmm w) ws)) [
  | inl there ↦
      let e : noted ws w ≡ ws = rw there refl in
      let rest = filter_filter (fresh ws) (λ v. not (same_wmm w v)) (fresh ws) (there_agrees ws w there) (first_uses used) in
      ap (λ xs. all_noted xs used) e ∙ all_noted-is used ws ∙ rw there (ap (λ xs. ws ++ xs) (sym rest))
  | inr lacks ↦
      let e : noted ws w ≡ ws ++ w ∷ [] = rw lacks refl in
      let rest = filter_filter (fresh ws) (λ v. not (same_wmm w v)) (fresh (ws ++ w ∷ [])) (new_agrees ws w) (first_uses used) in
      ap (λ xs. all_noted xs used) e ∙ all_noted-is used (ws ++ w ∷ []) ∙ append_assoc ws (w ∷ []) (filter (fresh (ws ++ w ∷ [])) (first_uses used))
      ∙ rw lacks (ap (λ xs. ws ++ (w ∷ xs)) (sym rest))
]

all_fresh : (ws : List Wmm) → filter (fresh []) ws ≡ ws
all_fresh [] = refl
all_fresh (w ∷ ws) = ap (λ xs. w ∷ xs) (all_fresh ws)

pub first_uses-noted : (used : List Wmm) → all_noted [] used ≡ first_uses used
first_uses-noted used = all_noted-is used [] ∙ all_fresh (first_uses used)

-- ---- places

abbrev has_numbers : List ℕ → Wmm → Bool
has_numbers q w = pointwise nat_eq q (wmm_numbers w)

pub position-place : (p : Wmm → Bool) (ws : List Wmm) (k : ℕ) → position p ws ≡ Some k → k ≡ position_or_len p ws
position-place p ws k is = by_test (ltb (position_or_len p ws) (length ws)) (position_or_len p ws) is
  where
    by_test : (t : Bool) (n : ℕ) → cond t (Some n) None ≡ Some k → k ≡ n
    by_test true n e = sym (same_Some n k e)
    by_test false n e = absurd cc

pub position-none : (p : Wmm → Bool) (ws : List Wmm) → position p ws ≡ None → position_or_len p ws ≡ length ws
position-none p ws none = at (position_or_len p ws) (length ws) (prefix_len-le-length (λ w. not (p w)) ws) none
  where
    at : (m n : ℕ) → m ≤ n → cond (ltb m n) (Some m) None ≡ None → m ≡ n
    at m n le e = elim (cases_lt m n) [
      | inl less ↦ absurd (none-some m (sym e ∙ chosen m n less))
      | inr above ↦ omega arith
    ]
      where
        chosen : (m n : ℕ) → m < n → cond (ltb m n) (Some m) None ≡ Some m
        chosen m n less = grind (arith, nat_tests)

-- the WMM rule is there, or isn't
pub there_noted : (ws : List Wmm) (w : Wmm) (k : ℕ) → position (same_wmm w) ws ≡ Some k → noted ws w ≡ ws
there_noted ws w k is =
    let at = position-Some (same_wmm w) ws k w is in
    let any : list_any (same_wmm w) ws ≡ true = list_any_at (same_wmm w) ws k w at.0 at.1 in
    rw any refl

pub new_noted : (ws : List Wmm) (w : Wmm) → position (same_wmm w) ws ≡ None → noted ws w ≡ ws ++ w ∷ []
new_noted ws w none =
    let place = position-none (same_wmm w) ws none in
    let any : list_any (same_wmm w) ws ≡ false = list_any_none (same_wmm w) ws (λ k d less. fails_before_first (same_wmm w) ws k d (rw place less)) in
    rw any refl

-- a place in a list with one more
place_more : (p : Wmm → Bool) (ws : List Wmm) (w : Wmm) → p w ≡ false → position p (ws ++ w ∷ []) ≡ position p ws
place_more p ws w other = at (position_or_len p ws) (prefix_len-le-length (λ v. not (p v)) ws) (position_or_len_push p ws w)
  where
    at : (m : ℕ) → m ≤ length ws → position_or_len p (ws ++ w ∷ []) ≡ cond (eqb m (length ws)) (length ws + cond (p w) 0 1) m
        → position p (ws ++ w ∷ []) ≡ cond (ltb m (length ws)) (Some m) None
    at m le e = rw (e, other, length-append ws (w ∷ [])) (tests m (length ws) le)
      where
        tests : (m n : ℕ) → m ≤ n → cond (ltb (cond (eqb m n) (n + 1) m) (n + 1)) (Some (cond (eqb m n) (n + 1) m)) None ≡ cond (ltb m n) (Some m) None
        tests m n le = grind (arith, nat_tests)

place_last : (p : Wmm → Bool) (ws : List Wmm) (w : Wmm) → p w ≡ true → position p ws ≡ None → position p (ws ++ w ∷ []) ≡ Some (length ws)
place_last p ws w is none =
    let m = position-none p ws none in
    let e : position_or_len p (ws ++ w ∷ []) ≡ length ws = position_or_len_push p ws w ∙ rw (m, eq-eqb (length ws) (length ws) refl, is) (omega arith) in
    rw (e, length-append ws (w ∷ [])) (tests (length ws))
  where
    tests : (n : ℕ) → cond (ltb n (n + 1)) (Some n) None ≡ Some n
    tests n = grind (arith, nat_tests)

-- what the map has with one more
pub numbered_more : (ws : List Wmm) (w : Wmm) (n : ℕ) (old new : BTreeMap (List ℕ) ℕ) → AreNumbered ws old → position (same_wmm w) ws ≡ None → n ≡ length ws
    → ((q : List ℕ) → get (slice_cmp nat_cmp) new q ≡ cond (is_eq (slice_cmp nat_cmp (wmm_numbers w) q)) (Some n) (get (slice_cmp nat_cmp) old q)) → AreNumbered (ws ++ w ∷ []) new
numbered_more ws w n old new are none at says q = says q ∙ elim (cases_Bool (pointwise nat_eq (wmm_numbers w) q)) [
  | inl is ↦
      let same : wmm_numbers w ≡ q = (bytes_eq-Decides (wmm_numbers w) q).0 is in
      rw (is_eq-slice_cmp (wmm_numbers w) q, is) (subst (λ x. Some n ≡ position (has_numbers x) (ws ++ w ∷ [])) same
      (ap Some at ∙ sym (place_last (same_wmm w) ws w (same_wmm-itself w) none)))
  | inr differ ↦
      let other : has_numbers q w ≡ false = false_from_ne_true (has_numbers q w) (λ t.
      let same = (bytes_eq-Decides q (wmm_numbers w)).0 t in
      let e = (bytes_eq-Decides (wmm_numbers w) q).1 (sym same) in cc) in
      rw (is_eq-slice_cmp (wmm_numbers w) q, differ) (are q ∙ sym (place_more (has_numbers q) ws w other))
]

-- the map tells whether the WMM rule is there
from_map : (ws : List Wmm) (w : Wmm) (numbers : BTreeMap (List ℕ) ℕ) (b : Bool) → AreNumbered ws numbers → is_some (get (slice_cmp nat_cmp) numbers (wmm_numbers w)) ≡ b
    → is_some (position (same_wmm w) ws) ≡ b
from_map ws w numbers b are is = ap is_some (sym (are (wmm_numbers w))) ∙ is

pub has_noted : (ws : List Wmm) (w : Wmm) (numbers : BTreeMap (List ℕ) ℕ) → AreNumbered ws numbers → is_some (get (slice_cmp nat_cmp) numbers (wmm_numbers w)) ≡ true → ws ≡ noted ws w
has_noted ws w numbers are is = by_option (position (same_wmm w) ws) refl (from_map ws w numbers true are is)
  where
    by_option : (o : Option ℕ) → position (same_wmm w) ws ≡ o → is_some o ≡ true → ws ≡ noted ws w
    by_option None e some = absurd cc
    by_option (Some k) e some = sym (there_noted ws w k e)

pub lacks_place : (ws : List Wmm) (w : Wmm) (numbers : BTreeMap (List ℕ) ℕ) → AreNumbered ws numbers → is_some (get (slice_cmp nat_cmp) numbers (wmm_numbers w)) ≡ false → position (same_wmm w) ws ≡ None
lacks_place ws w numbers are is = by_option (position (same_wmm w) ws) refl (from_map ws w numbers false are is)
  where
    by_option : (o : Option ℕ) → position (same_wmm w) ws ≡ o → is_some o ≡ false → position (same_wmm w) ws ≡ None
    by_option None e none = e
    by_option (Some k) e none = absurd cc

pub lacks_noted : (ws : List Wmm) (w : Wmm) (numbers : BTreeMap (List ℕ) ℕ) → AreNumbered ws numbers → is_some (get (slice_cmp nat_cmp) numbers (wmm_numbers w)) ≡ false → noted ws w ≡ ws ++ w ∷ []
lacks_noted ws w numbers are is = new_noted ws w (lacks_place ws w numbers are is)
