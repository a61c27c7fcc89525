-- Powers of ten, and that milliwatts have one value in mBm at most.
use Rattle.std.proofs.Common.{◌≡◌, ℕ, ◌+◌, ◌-◌, ◌*◌, ◌/◌, ◌^◌, ◌<◌, ◌≤◌, inl, inr, arith, refl, add-one, sym, ap, subst, ◌∙◌, lit<}
use Rattle.std.proofs.Math.Nat.{mul-div-mul_right, pow-le-pow_right, one-le-pow}
use Rattle.std.proofs.lemmas.Nat.{pow-add, le-div, div_below, mul-lt, mul-le}
use Rattle.std.proofs.lemmas.Bool.{cases_lt}
use Rattle.freq_range.specs.Power.{power, IsNextDecimal, IsMbm}

pub power-none : (m : ℕ) → power m 0 ≡ m
unfolding power
power-none m = refl

pub power-more : (m n : ℕ) → power m (n + 1) ≡ power m n * m / 10 ^ 12
unfolding power
power-more m n = rw add-one

pub ten_pos : (n : ℕ) → 0 < 10 ^ n
ten_pos n = one-le-pow n 10 (lit< tt)

pub ten_more : (n : ℕ) → 10 ^ (n + 1) ≡ 10 * 10 ^ n
ten_more n = pow-add 10 n 1 ∙ omega arith

-- a factor from 1 to below 10
pub product_least : (p m : ℕ) → 10 ^ 12 ≤ p → 10 ^ 12 ≤ m → 10 ^ 12 ≤ p * m / 10 ^ 12
product_least p m hp hm = le-div (10 ^ 12) (p * m) (10 ^ 12) (lit< tt) (mul-le (10 ^ 12) (10 ^ 12) p m hp hm)

pub product_below : (p m i : ℕ) → p < 10 ^ (13 + i) → m < 10 ^ 13 → p * m < 10 ^ 26 * 10 ^ i
product_below p m i hp hm =
    let h = mul-lt p m (10 ^ (13 + i)) (10 ^ 13) hp hm in
    let e = pow-add 10 13 i in
    omega (arith, h, e)

pub product_most : (p m i : ℕ) → p < 10 ^ (13 + i) → m < 10 ^ 13 → p * m / 10 ^ 12 < 10 ^ (13 + (i + 1))
product_most p m i hp hm =
    let h = product_below p m i hp hm in
    let e = pow-add 10 14 i in
    let f : 10 ^ (14 + i) ≡ 10 ^ (13 + (i + 1)) = ap (λ n. 10 ^ n) (omega arith) in
    div_below (p * m) (10 ^ 12) (10 ^ (13 + (i + 1))) (lit< tt) (omega (arith, h, e, f))

pub product_small : (p m i : ℕ) → p < 10 ^ (13 + i) → m < 10 ^ 13 → i < 9 → p * m < 10 ^ 35
product_small p m i hp hm few =
    let h = product_below p m i hp hm in
    let e = pow-le-pow_right {n = 10} (lit< tt) {i = i} {j = 8} (omega arith) in
    omega (arith, h, e)

-- a number has one number of digits
pub exponent-le : (n i j : ℕ) → 10 ^ i ≤ n → n < 10 ^ (j + 1) → i ≤ j
exponent-le n i j low high =
    elim (cases_lt j i) [
      | inl above ↦
          let e = pow-le-pow_right {n = 10} (lit< tt) {i = j + 1} {j = i} (omega (arith, above)) in
          absurd (omega (arith, e))
      | inr below ↦ below
    ]

pub one_exponent : (n i j : ℕ) → 10 ^ i ≤ n → n < 10 ^ (i + 1) → 10 ^ j ≤ n → n < 10 ^ (j + 1) → i ≡ j
one_exponent n i j low high low' high' =
    let le = exponent-le n i j low high' in
    let ge = exponent-le n j i low' high in
    omega arith

-- a number over the power of ten that it holds is from 1 to below 10
pub mantissa_least : (n c : ℕ) → 10 ^ c ≤ n → 10 ^ 12 ≤ n * 10 ^ 12 / 10 ^ c
mantissa_least n c low = le-div (10 ^ 12) (n * 10 ^ 12) (10 ^ c) (ten_pos c) (omega (arith, low))

pub mantissa_most : (n c : ℕ) → n < 10 * 10 ^ c → n * 10 ^ 12 / 10 ^ c < 10 ^ 13
mantissa_most n c high = div_below (n * 10 ^ 12) (10 ^ c) (10 ^ 13) (ten_pos c) (omega (arith, high))

-- what is left where each factor of ten but 10 ^ 12 is taken
pub left_least : (p d : ℕ) → 10 ^ (12 + d) ≤ p → 10 ^ 12 ≤ p / 10 ^ d
left_least p d low = let e = pow-add 10 12 d in le-div (10 ^ 12) p (10 ^ d) (ten_pos d) (omega (arith, e, low))

pub left_most : (p d : ℕ) → p < 10 ^ (13 + d) → p / 10 ^ d < 10 ^ 13
left_most p d high = let e = pow-add 10 13 d in div_below p (10 ^ d) (10 ^ 13) (ten_pos d) (omega (arith, e, high))

-- the decimal logarithm's whole part of a number from 10 ^ 12 to below 10 ^ 22
pub digits_least : (p n : ℕ) → 10 ^ 12 ≤ p → p < 10 * 10 ^ n → 12 ≤ n
digits_least p n least high = exponent-le p 12 n least (let e = ten_more n in omega (arith, e))

pub digits_most : (p n : ℕ) → p < 10 ^ 22 → 10 ^ n ≤ p → n ≤ 21
digits_most p n most low = exponent-le p n 21 low most

pub whole_small : (mw whole : ℕ) → mw ≤ 1000000 → 10 ^ whole ≤ mw → whole ≤ 6
whole_small mw whole most low = exponent-le mw whole 6 low (omega arith)

pub pow-small : (n : ℕ) → n ≤ 12 → 10 ^ n ≤ 10 ^ 12
pow-small n few = pow-le-pow_right {n = 10} (lit< tt) {i = n} {j = 12} few

-- the number of digits over 10 ^ 12, as bounds
pub decimal_least : (p n : ℕ) → 12 ≤ n → 10 ^ n ≤ p → 10 ^ (12 + (n - 12)) ≤ p
decimal_least p n above low =
    let same : 12 + (n - 12) ≡ n = omega arith in
    rw same low

pub decimal_most : (p n : ℕ) → 12 ≤ n → p < 10 * 10 ^ n → p < 10 ^ (13 + (n - 12))
decimal_most p n above high =
    let same : 13 + (n - 12) ≡ n + 1 = omega arith in
    rw (same, ten_more n) high

pub is_decimal : (m n : ℕ) → 12 ≤ n → 10 ^ n ≤ power m 9 → power m 9 < 10 * 10 ^ n → IsNextDecimal m (n - 12) (power m 9 / 10 ^ (n - 12))
is_decimal m n above low high = record {
  least = decimal_least (power m 9) n above low;
  most = decimal_most (power m 9) n above high;
  left = refl;
}

-- factors of ten are taken out by one division by 10 ^ 12, where the others are multiplied in before
pub factors_fit : (p d : ℕ) → p < 10 ^ 22 → d ≤ 9 → p * 10 ^ (12 - d) < 10 ^ 35
factors_fit p d below few =
    let e = pow-small (12 - d) (omega arith) in
    let h = mul-lt p (10 ^ (12 - d)) (10 ^ 22) (10 ^ 12 + 1) below (omega (arith, e)) in
    omega (arith, h)

pub factors_out : (p d : ℕ) → d ≤ 9 → p * 10 ^ (12 - d) / 10 ^ 12 ≡ p / 10 ^ d
factors_out p d few =
    let all : d + (12 - d) ≡ 12 = omega arith in
    let e : 10 ^ 12 ≡ 10 ^ d * 10 ^ (12 - d) = ap (λ n. 10 ^ n) (sym all) ∙ pow-add 10 d (12 - d) in
    ap (λ n. p * 10 ^ (12 - d) / n) e ∙ mul-div-mul_right p (10 ^ d) (ten_pos (12 - d))

pub tenth_below : (p d : ℕ) → p < 10 ^ (13 + d) → d < 10 → p < 10 ^ 22
tenth_below p d most few =
    let e = pow-le-pow_right {n = 10} (lit< tt) {i = 13 + d} {j = 22} (omega arith) in
    omega (arith, most, e)

-- a number has one next decimal, and one rest
pub one_decimal : (m d e next next' : ℕ) → IsNextDecimal m d next → IsNextDecimal m e next' → (d ≡ e) × (next ≡ next')
one_decimal m d e next next' one other =
    let more = λ (k : ℕ). let f : 12 + k + 1 ≡ 13 + k = omega arith in f in
    let same = one_exponent (power m 9) (12 + d) (12 + e) one.least (rw (more d) one.most) other.least (rw (more e) other.most) in
    let digits : d ≡ e = omega (arith, same) in
    (digits, one.left ∙ ap (λ k. power m 9 / 10 ^ k) digits ∙ sym other.left)

-- milliwatts have one value in mBm
pub one_mbm : (mw a b : ℕ) → IsMbm mw a → IsMbm mw b → a ≡ b
one_mbm mw a b x y =
    let w = one_exponent mw x.whole y.whole x.whole_least x.whole_most y.whole_least y.whole_most in
    let m = ap (λ k. mw * 10 ^ 12 / 10 ^ k) w in
    let p = one_decimal _ _ _ _ _ x.is_first (subst (λ (n : ℕ). IsNextDecimal n y.first y.after_first) (sym m) y.is_first) in
    let q = one_decimal _ _ _ _ _ x.is_second (subst (λ (n : ℕ). IsNextDecimal n y.second y.after_second) (sym p.1) y.is_second) in
    let r = one_decimal _ _ _ _ _ x.is_third (subst (λ (n : ℕ). IsNextDecimal n y.third y.after_third) (sym q.1) y.is_third) in
    omega (arith, x.sum, y.sum, w, p.0, q.0, r.0)
