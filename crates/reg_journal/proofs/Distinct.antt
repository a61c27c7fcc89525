-- As many channels are distinct from those behind them as a walk gathers that keeps each which it hasn't met.
use Rattle.std.proofs.Common.{◌≡◌, ℕ, suc, ◌+◌, ◌==◌, Bool, true, false, ◌||◌, ◌&&◌, cond, if◌then◌else◌, List, [], ◌∷◌, ◌++◌, length, arith, refl, sym, ap, ◌∙◌, inl, inr, eq-eqb}
use Rattle.std.specs.List.{list_any}
use Rattle.std.proofs.lemmas.Bool.{cases_Bool, eqb-true, false≢true, true≢false}
use Rattle.std.proofs.lemmas.List.{length-append}
use Rattle.std.proofs.lemmas.List.Folds.{list_any-append}
use Rattle.chan_def.specs.Covered.{width_number}
use Rattle.chan_def.specs.Same.{is_same_channel}
use Rattle.chan_def.specs.declared.definition.ChanDef.{ChanDef}
use Rattle.reg_journal.specs.Permits.{distinct}

-- these channels, and each of the others that isn't among those found before it
abbrev pub gathered : List ChanDef → List ChanDef → List ChanDef
gathered found [] = found
gathered found (c ∷ cs) = gathered (if list_any (is_same_channel c) found then found else found ++ c ∷ []) cs

-- ---- the test is an equality

three : (a b c : Bool) → (a && b && c) ≡ true → (a ≡ true) × (b ≡ true) × (c ≡ true)
three true true true is = (refl, refl, refl)
three true true false is = absurd (false≢true is)
three true false c is = absurd (false≢true is)
three false b c is = absurd (false≢true is)

-- what is the same as one channel is the same as another that is the same
alike : (x y z : ChanDef) → is_same_channel x y ≡ true → is_same_channel x z ≡ is_same_channel y z
alike x y z is =
    let parts = three (x.control_khz == y.control_khz) (width_number x.width == width_number y.width) (x.centre_khz == y.centre_khz) is in
    let control = eqb-true x.control_khz y.control_khz parts.0 in
    let width = eqb-true (width_number x.width) (width_number y.width) parts.1 in
    let centre = eqb-true x.centre_khz y.centre_khz parts.2 in
    ap (λ n. n == z.control_khz && width_number x.width == width_number z.width && x.centre_khz == z.centre_khz) control
    ∙ ap (λ n. y.control_khz == z.control_khz && n == width_number z.width && x.centre_khz == z.centre_khz) width
    ∙ ap (λ n. y.control_khz == z.control_khz && width_number y.width == width_number z.width && n == z.centre_khz) centre

self_same : (n : ℕ) → (n == n) ≡ true
self_same n = eq-eqb n n refl

same_itself : (x : ChanDef) → is_same_channel x x ≡ true
same_itself x = rw (self_same x.control_khz, self_same (width_number x.width), self_same x.centre_khz) refl

turned : (x y : ChanDef) → is_same_channel x y ≡ is_same_channel y x
turned x y = elim (cases_Bool (is_same_channel x y)) [
  | inl is ↦ is ∙ sym (sym (alike x y x is) ∙ same_itself x)
  | inr other ↦ elim (cases_Bool (is_same_channel y x)) [
    | inl is ↦ absurd (false≢true (sym other ∙ (sym (alike y x y is) ∙ same_itself y)))
    | inr none ↦ other ∙ sym none
  ]
]

any_alike : (x y : ChanDef) (zs : List ChanDef) → is_same_channel x y ≡ true → list_any (is_same_channel x) zs ≡ list_any (is_same_channel y) zs
any_alike x y [] is = refl
any_alike x y (z ∷ zs) is = ap (λ b. b || list_any (is_same_channel x) zs) (alike x y z is) ∙ ap (λ b. is_same_channel y z || b) (any_alike x y zs is)

-- ---- how many

-- how many of the channels are neither among those behind them nor among those found
abbrev fresh : List ChanDef → List ChanDef → ℕ
fresh found [] = 0
fresh found (c ∷ cs) = if list_any (is_same_channel c) cs || list_any (is_same_channel c) found then fresh found cs else suc (fresh found cs)

abbrev bit : Bool → ℕ
bit true = 1
bit false = 0

-- one channel more is found: one that isn't found yet is fresh no more where it comes later
one_found : (later before here comes : Bool) (a b : ℕ) → a ≡ bit comes + b → (here ≡ true → comes ≡ later) → (here ≡ true → before ≡ false)
    → cond (later || before) a (suc a) ≡ bit (here || comes) + cond (later || (before || here)) b (suc b)
one_found true before false comes a b ih same new = ih
one_found true before true true a b ih same new = ih
one_found true before true false a b ih same new = absurd (false≢true (same refl))
one_found false true true comes a b ih same new = absurd (true≢false (new refl))
one_found false true false comes a b ih same new = ih
one_found false false true true a b ih same new = absurd (true≢false (same refl))
one_found false false true false a b ih same new = omega (arith, ih)
one_found false false false true a b ih same new = omega (arith, ih)
one_found false false false false a b ih same new = omega (arith, ih)

found_more : (found cs : List ChanDef) (x : ChanDef) → list_any (is_same_channel x) found ≡ false → fresh found cs ≡ bit (list_any (is_same_channel x) cs) + fresh (found ++ x ∷ []) cs
found_more found [] x new = refl
found_more found (y ∷ ys) x new =
    one_found (list_any (is_same_channel y) ys) (list_any (is_same_channel y) found) (is_same_channel x y) (list_any (is_same_channel x) ys) (fresh found ys) (fresh (found ++ x ∷ []) ys)
    (found_more found ys x new) (any_alike x y ys) (λ is. sym (any_alike x y found is) ∙ new)
    ∙ ap (λ b. bit (is_same_channel x y || list_any (is_same_channel x) ys) + cond (list_any (is_same_channel y) ys || b) (fresh (found ++ x ∷ []) ys) (suc (fresh (found ++ x ∷ []) ys))) (sym among)
  where
    or_false : (b : Bool) → (b || false) ≡ b
    or_false true = refl
    or_false false = refl

    among : list_any (is_same_channel y) (found ++ x ∷ []) ≡ (list_any (is_same_channel y) found || is_same_channel x y)
    among = list_any-append (is_same_channel y) found (x ∷ []) ∙ ap (λ b. list_any (is_same_channel y) found || b) (or_false (is_same_channel y x) ∙ turned y x)

-- so many are gathered
gathered_fresh : (found cs : List ChanDef) → length (gathered found cs) ≡ length found + fresh found cs
gathered_fresh found [] = omega arith
gathered_fresh found (c ∷ cs) = elim (cases_Bool (list_any (is_same_channel c) found)) [
  | inl known ↦
      ap (λ b. length (gathered (cond b found (found ++ c ∷ [])) cs)) known ∙ gathered_fresh found cs
      ∙ ap (λ b. length found + cond b (fresh found cs) (suc (fresh found cs))) (sym (ap (λ b. list_any (is_same_channel c) cs || b) known ∙ or_true (list_any (is_same_channel c) cs)))
  | inr new ↦
      ap (λ b. length (gathered (cond b found (found ++ c ∷ [])) cs)) new ∙ gathered_fresh (found ++ c ∷ []) cs
      ∙ counted (list_any (is_same_channel c) cs) (length (found ++ c ∷ [])) (fresh (found ++ c ∷ []) cs) (length-append found (c ∷ [])) (found_more found cs c new)
      ∙ ap (λ b. length found + cond (list_any (is_same_channel c) cs || b) (fresh found cs) (suc (fresh found cs))) (sym new)
]
  where
    or_true : (b : Bool) → (b || true) ≡ true
    or_true true = refl
    or_true false = refl

    counted : (comes : Bool) (n rest : ℕ) → n ≡ length found + 1 → fresh found cs ≡ bit comes + rest
        → n + rest ≡ length found + cond (comes || false) (fresh found cs) (suc (fresh found cs))
    counted true n rest more all = omega (arith, more, all)
    counted false n rest more all = omega (arith, more, all)

distinct_fresh : (cs : List ChanDef) → length (distinct cs) ≡ fresh [] cs
distinct_fresh [] = refl
distinct_fresh (c ∷ cs) = by (list_any (is_same_channel c) cs) (distinct_fresh cs)
  where
    by : (comes : Bool) → length (distinct cs) ≡ fresh [] cs → length (cond comes (distinct cs) (c ∷ distinct cs)) ≡ cond (comes || false) (fresh [] cs) (suc (fresh [] cs))
    by true same = same
    by false same = ap suc same

-- the walk from nothing gathers as many as are distinct
pub length-gathered : (cs : List ChanDef) → length (gathered [] cs) ≡ length (distinct cs)
length-gathered cs =
    let walked = gathered_fresh [] cs in
    let fresh_ones = distinct_fresh cs in
    omega (arith, walked, fresh_ones)
