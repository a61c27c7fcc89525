-- Milliwatts and mBm. The logarithm is taken by whole numbers: 1 is kept as 10 ^ 12, and each division drops its rest.
use Rattle.std.specs.Prelude.{◌≡◌, ℕ, zero, suc, ◌+◌, ◌*◌, ◌/◌, ◌^◌, ◌<◌, ◌≤◌}

-- the milliwatts that have a value: 1 mW to 1 kW
pub record IsMilliwatts (mw : ℕ) : Type 0 where
  pub least : 1 ≤ mw
  pub most : mw ≤ 1000000

-- m multiplied by itself n times more
unfoldable pub power : ℕ → ℕ → ℕ
power m zero = m
power m (suc n) = power m n * m / 10 ^ 12

-- The next decimal of the logarithm of m: it is how often the tenth power can be divided by ten while it is at least
-- ten, and next is what is left of it, a number from 1 to below 10.
pub record IsNextDecimal (m digit next : ℕ) : Type 0 where
  pub least : 10 ^ (12 + digit) ≤ power m 9
  pub most : power m 9 < 10 ^ (13 + digit)
  pub left : next ≡ power m 9 / 10 ^ digit

-- The power in mBm is a thousand times the decimal logarithm of the milliwatts: its whole part, which is one less than the
-- number of their digits, and three decimals.
pub record IsMbm (mw mbm : ℕ) : Type 0 where
  pub in_range : IsMilliwatts mw
  pub whole : ℕ
  pub whole_least : 10 ^ whole ≤ mw
  pub whole_most : mw < 10 ^ (whole + 1)
  pub first : ℕ
  pub second : ℕ
  pub third : ℕ
  pub after_first : ℕ
  pub after_second : ℕ
  pub after_third : ℕ
  pub is_first : IsNextDecimal (mw * 10 ^ 12 / 10 ^ whole) first after_first
  pub is_second : IsNextDecimal after_first second after_second
  pub is_third : IsNextDecimal after_second third after_third
  pub sum : mbm ≡ 1000 * whole + 100 * first + 10 * second + third
