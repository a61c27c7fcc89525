-- Each number of milliwatts within the range has a value in mBm.
use Rattle.std.proofs.Common.{◌≡◌, ℕ, zero, suc, ◌+◌, ◌-◌, ◌*◌, ◌/◌, ◌^◌, ◌<◌, ◌≤◌, ◌⊎◌, inl, inr, arith, refl, ap, subst, ◌∙◌}
use Rattle.std.proofs.lemmas.Bool.{cases_lt}
use Rattle.freq_range.specs.Power.{IsNextDecimal, IsMbm, IsMilliwatts, power}
use Rattle.freq_range.proofs.Powers.{digits_least, is_decimal, left_least, left_most, mantissa_least, mantissa_most, power-more, power-none, product_least, product_most, ten_more}

-- a number below a power of ten has an exponent
exponent : (p k : ℕ) → 0 < p → p < 10 ^ k → (n : ℕ) × (10 ^ n ≤ p) × (p < 10 * 10 ^ n)
exponent p zero some below = absurd (omega (arith, some, below))
exponent p (suc k) some below = at (cases_lt p (10 ^ k)) (exponent p k some)
  where
    at : (p < 10 ^ k) ⊎ (10 ^ k ≤ p) → (p < 10 ^ k → (n : ℕ) × (10 ^ n ≤ p) × (p < 10 * 10 ^ n)) → (n : ℕ) × (10 ^ n ≤ p) × (p < 10 * 10 ^ n)
    at (inl less) h = h less
    at (inr least) h = let e = ten_more k in (k, least, omega (arith, below, e))

pub powers : (m i : ℕ) → 10 ^ 12 ≤ m → m < 10 ^ 13 → (10 ^ 12 ≤ power m i) × (power m i < 10 ^ (13 + i))
powers m zero least most = rw (power-none m) (least, most)
powers m (suc i) least most =
    let h = powers m i least most in
    let e : power m (suc i) ≡ power m i * m / 10 ^ 12 = ap (power m) (omega arith) ∙ power-more m i in
    let f : 13 + (i + 1) ≡ 13 + suc i = omega arith in
    rw (e, ← f) (product_least (power m i) m h.0 least, product_most (power m i) m i h.1 most)

-- a number from 1 to below 10 has a next decimal, and what is left is from 1 to below 10
record HasDecimal (m : ℕ) : Type 0 where
  digit : ℕ
  left : ℕ
  is : IsNextDecimal m digit left
  least : 10 ^ 12 ≤ left
  most : left < 10 ^ 13

has_decimal : (m : ℕ) → 10 ^ 12 ≤ m → m < 10 ^ 13 → HasDecimal m
has_decimal m least most =
    let p = powers m 9 least most in
    let low = p.0 in
    let n = exponent (power m 9) 22 (omega (arith, low)) p.1 in
    let above = digits_least (power m 9) n.0 low n.2 in
    let d : IsNextDecimal m (n.0 - 12) (power m 9 / 10 ^ (n.0 - 12)) = is_decimal m n.0 above n.1 n.2 in
    record { digit = n.0 - 12; left = power m 9 / 10 ^ (n.0 - 12); is = d; least = left_least (power m 9) (n.0 - 12) d.least; most = left_most (power m 9) (n.0 - 12) d.most }

pub mbm_of_milliwatts : (mw : ℕ) → IsMilliwatts mw → (mbm : ℕ) × IsMbm mw mbm
mbm_of_milliwatts mw h =
    let least = h.least in
    let most = h.most in
    let n = exponent mw 7 (omega (arith, least)) (omega (arith, most)) in
    let one = has_decimal (mw * 10 ^ 12 / 10 ^ n.0) (mantissa_least mw n.0 n.1) (mantissa_most mw n.0 n.2) in
    let two = has_decimal one.left one.least one.most in
    let three = has_decimal two.left two.least two.most in
    let high = n.2 in
    let e = ten_more n.0 in (
      1000 * n.0 + 100 * one.digit + 10 * two.digit + three.digit,
      record {
        in_range = h;
        whole = n.0;
        whole_least = n.1;
        whole_most = omega (arith, high, e);
        first = one.digit;
        second = two.digit;
        third = three.digit;
        after_first = one.left;
        after_second = two.left;
        after_third = three.left;
        is_first = one.is;
        is_second = two.is;
        is_third = three.is;
        sum = refl;
      },
    )

-- what each value of the milliwatts is, where it is one number, is their value
pub known_power : (mw kept mbm : ℕ) → kept ≡ mw → IsMilliwatts mw → ((other : ℕ) → IsMbm kept other → other ≡ mbm) → IsMbm mw mbm
known_power mw kept mbm same h only =
    let one = mbm_of_milliwatts mw h in
    subst (IsMbm mw) (only one.0 (rw same one.1)) one.1
