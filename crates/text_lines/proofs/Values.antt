-- The values of digits, and limits on them.
use Rattle.std.proofs.Common.{◌≡◌, ℕ, ◌+◌, ◌-◌, ◌*◌, ◌^◌, ◌<◌, ◌≤◌, min, List, [], ◌∷◌, Bool, true, false, length, get_or, drop, Option, Some, None, refl, ap, ◌∙◌, sym, arith, le_refl, lit<, inl, inr, cond, leb, ◌&&◌}
use Rattle.std.proofs.Math.Nat.{one-le-pow}
use Rattle.std.proofs.lemmas.Bool.{cases_lt}
use Rattle.std.proofs.lemmas.Bool.Decides.{nat_tests}
use Rattle.std.proofs.lemmas.List.{at_drop_more, at_drop_all}
use Rattle.std.proofs.lemmas.List.Sums.{fold-append}
use Rattle.std.proofs.lemmas.Nat.{mul-le}
use Rattle.std.proofs.lemmas.Option.{cond_some}
use Rattle.text_lines.specs.inner.Reading.{digits_from, scaled_within, value_within}
use Rattle.text_lines.specs.Spelling.{Decimal, scaled, value_of_digits}

pub digits_from-le : (value : ℕ) (digits : List ℕ) → value ≤ digits_from value digits
digits_from-le value [] = le_refl value
digits_from-le value (d ∷ digits) = omega (arith, digits_from-le (value * 10 + (d - 48)) digits)

-- ---- up to a cap

capped-both : (cap a b : ℕ) → cap ≤ a → cap ≤ b → min a cap ≡ min b cap
capped-both cap a b p q = omega arith

pub capped-start : (cap v : ℕ) (ds : List ℕ) → min (digits_from (min v cap) ds) cap ≡ min (digits_from v ds) cap
capped-start cap v ds =
    elim (cases_lt cap v) [
      | inl above ↦
          let e : min v cap ≡ cap = omega arith in
          let h = digits_from-le v ds in
          rw e (capped-both cap (digits_from cap ds) (digits_from v ds) (digits_from-le cap ds) (omega (arith, h)))
      | inr below ↦ let e : min v cap ≡ v = omega arith in rw e refl
    ]

pub capped-more : (cap sum : ℕ) (digits : List ℕ) (i : ℕ) → i < length digits → min (digits_from (min (sum * 10 + (get_or digits i 0 - 48)) cap) (drop (i + 1) digits)) cap ≡ min (digits_from sum (drop i digits)) cap
capped-more cap sum digits i lt =
    capped-start cap (sum * 10 + (get_or digits i 0 - 48)) (drop (i + 1) digits) ∙ sym (at_drop_more (λ (ds : List ℕ). min (digits_from sum ds) cap) digits i 0 lt)

pub capped-end : (cap sum : ℕ) (digits : List ℕ) (i : ℕ) → length digits ≤ i → sum ≤ cap → min (digits_from sum (drop i digits)) cap ≡ sum
capped-end cap sum digits i le below = at_drop_all (λ (ds : List ℕ). min (digits_from sum ds) cap) digits i le ∙ omega arith

pub ruleset steps = (capped-more, capped-end)

-- ---- values within a limit

pub value_within-again : (most : ℕ) (digits : List ℕ) → value_of_digits digits ≤ most → value_within most digits ≡ Some (value_of_digits digits)
value_within-again most digits le = within (value_of_digits digits) le
  where
    within : (v : ℕ) → v ≤ most → cond (leb v most) (Some v) None ≡ Some v
    within v le = grind (arith, nat_tests)

pub value_within-above : (most : ℕ) (digits : List ℕ) → most < value_of_digits digits → value_within most digits ≡ None
value_within-above most digits lt = above (value_of_digits digits) lt
  where
    above : (v : ℕ) → most < v → cond (leb v most) (Some v) None ≡ None
    above v lt = grind (arith, nat_tests)

pub value_within-reads : (most : ℕ) (digits : List ℕ) (v : ℕ) → value_within most digits ≡ Some v → (v ≡ value_of_digits digits) × (v ≤ most)
value_within-reads most digits v e =
    let t = cond_some (leb (value_of_digits digits) most) (value_of_digits digits) v e in
    let small : value_of_digits digits ≤ most = within (value_of_digits digits) t.0 in
    (sym t.1, omega (arith, t.1, small))
  where
    within : (v : ℕ) → leb v most ≡ true → v ≤ most
    within v h = grind (arith, nat_tests)

pub value_within-some : (most cap v : ℕ) (digits : List ℕ) → cap ≡ most + 1 → v ≡ min (digits_from 0 digits) cap → v ≤ most → value_within most digits ≡ Some v
value_within-some most cap v digits c is le =
    let same : v ≡ value_of_digits digits = omega arith in
    value_within-again most digits (omega arith) ∙ ap (λ (n : ℕ). Some n) (sym same)

pub value_within-none : (most cap v : ℕ) (digits : List ℕ) → cap ≡ most + 1 → v ≡ min (digits_from 0 digits) cap → most < v → value_within most digits ≡ None
value_within-none most cap v digits c is lt = value_within-above most digits (omega arith)

-- ---- decimals within a limit

abbrev decimal : List ℕ → List ℕ → Decimal
decimal whole fraction = record { whole = whole; fraction = fraction }

pub scaled-is : (places : ℕ) (whole fraction : List ℕ) → scaled places (decimal whole fraction) ≡ digits_from (digits_from 0 whole) fraction * 10 ^ (places - length fraction)
scaled-is places whole fraction = ap (λ (n : ℕ). n * 10 ^ (places - length fraction)) (fold-append (λ value digit. value * 10 + (digit - 48)) 0 whole fraction)

abbrev some_number : ℕ → Option ℕ
some_number n = Some n

limited : (a b : Bool) (v w : ℕ) → cond (a && b) (some_number v) None ≡ Some w → (a ≡ true) × (b ≡ true) × (v ≡ w)
limited true true v w e = (refl, refl, grind arith)
limited true false v w e = absurd cc
limited false b v w e = absurd cc

pub scaled_within-reads : (places most : ℕ) (whole fraction : List ℕ) (v : ℕ) → scaled_within places most whole fraction ≡ Some v → (length fraction ≤ places) × (v ≡ scaled places (decimal whole fraction)) × (v ≤ most)
scaled_within-reads places most whole fraction v e =
    let t = limited (leb (length fraction) places) (leb (scaled places (decimal whole fraction)) most) (scaled places (decimal whole fraction)) v e in
    let short : length fraction ≤ places = below (length fraction) places t.0 in
    let small : scaled places (decimal whole fraction) ≤ most = below (scaled places (decimal whole fraction)) most t.1 in
    (short, sym t.2, rw (← t.2) small)
  where
    below : (m n : ℕ) → leb m n ≡ true → m ≤ n
    below m n h = grind (arith, nat_tests)

chosen_number : (a b : Bool) (v : ℕ) → a ≡ true → b ≡ true → cond (a && b) (some_number v) None ≡ Some v
chosen_number true true v p q = refl
chosen_number true false v p q = absurd cc
chosen_number false b v p q = absurd cc

no_number : (a b : Bool) (v : ℕ) → b ≡ false → cond (a && b) (some_number v) None ≡ None
no_number true true v q = absurd cc
no_number true false v q = refl
no_number false b v q = refl

pub scaled_within-again : (places most : ℕ) (whole fraction : List ℕ) → length fraction ≤ places → scaled places (decimal whole fraction) ≤ most → scaled_within places most whole fraction ≡ Some (scaled places (decimal whole fraction))
scaled_within-again places most whole fraction short small =
    chosen_number (leb (length fraction) places) (leb (scaled places (decimal whole fraction)) most) (scaled places (decimal whole fraction)) (test (length fraction) places short) (test (scaled places (decimal whole fraction)) most small)
  where
    test : (m n : ℕ) → m ≤ n → leb m n ≡ true
    test m n h = grind (arith, nat_tests)

pub scaled_within-above : (places most : ℕ) (whole fraction : List ℕ) → most < scaled places (decimal whole fraction) → scaled_within places most whole fraction ≡ None
scaled_within-above places most whole fraction large =
    no_number (leb (length fraction) places) (leb (scaled places (decimal whole fraction)) most) (scaled places (decimal whole fraction)) (test (scaled places (decimal whole fraction)) large)
  where
    test : (m : ℕ) → most < m → leb m most ≡ false
    test m h = grind (arith, nat_tests)

pub scaled_within-long : (places most : ℕ) (whole fraction : List ℕ) → places < length fraction → scaled_within places most whole fraction ≡ None
scaled_within-long places most whole fraction long = rw (test (length fraction) long) refl
  where
    test : (m : ℕ) → places < m → leb m places ≡ false
    test m h = grind (arith, nat_tests)

-- the value of both lists of digits, or the cap where that is at most it
pub capped-joined : (cap w v : ℕ) (whole fraction : List ℕ) → w ≡ min (digits_from 0 whole) cap → v ≡ min (digits_from w fraction) cap → v ≡ min (digits_from (digits_from 0 whole) fraction) cap
capped-joined cap w v whole fraction a b = b ∙ rw a (capped-start cap (digits_from 0 whole) fraction)

below_product : (v p most : ℕ) → 0 < p → v * p ≤ most → v ≤ most
below_product v p most pos le = let h = mul-le v 1 v p (le_refl v) pos in omega (arith, h)

pub scaled_within-some : (places most cap w v p : ℕ) (whole fraction : List ℕ) → cap ≡ most + 1 → length fraction ≤ places → w ≡ min (digits_from 0 whole) cap → v ≡ min (digits_from w fraction) cap → p ≡ 10 ^ (places - length fraction) → v * p ≤ most → scaled_within places most whole fraction ≡ Some (v * p)
scaled_within-some places most cap w v p whole fraction c short a b q le =
    let pos : 0 < p = rw q (one-le-pow (places - length fraction) 10 (lit< tt)) in
    let small = below_product v p most pos le in
    let joined = capped-joined cap w v whole fraction a b in
    let same : v ≡ digits_from (digits_from 0 whole) fraction = omega arith in
    let is : scaled places (decimal whole fraction) ≡ v * p = scaled-is places whole fraction ∙ rw (← same, ← q) refl in
    scaled_within-again places most whole fraction short (rw is le) ∙ ap (λ (n : ℕ). Some n) is

pub scaled_within-none : (places most cap w v p : ℕ) (whole fraction : List ℕ) → w ≡ min (digits_from 0 whole) cap → v ≡ min (digits_from w fraction) cap → p ≡ 10 ^ (places - length fraction) → most < v * p → scaled_within places most whole fraction ≡ None
scaled_within-none places most cap w v p whole fraction a b q large =
    let joined = capped-joined cap w v whole fraction a b in
    let below : v ≤ digits_from (digits_from 0 whole) fraction = omega arith in
    let product = mul-le v p (digits_from (digits_from 0 whole) fraction) p below (le_refl p) in
    let is : scaled places (decimal whole fraction) ≡ digits_from (digits_from 0 whole) fraction * p = scaled-is places whole fraction ∙ rw (← q) refl in
    scaled_within-above places most whole fraction (rw is (omega (arith, product)))

pub ruleset limits = (value_within-some, value_within-none, scaled_within-long, scaled_within-some, scaled_within-none)
