-- A rule that is spelled is valid.
use Rattle.std.proofs.Common.{◌≡◌, ℕ, ◌+◌, ◌*◌, ◌/◌, ◌^◌, ◌<◌, ◌≤◌, List, Option, None, IfSome, arith, sym, subst}
use Rattle.freq_range.proofs.Powers.{digits_most, left_least, left_most, mantissa_least, mantissa_most, ten_more, whole_small}
use Rattle.freq_range.specs.Power.{IsNextDecimal, IsMbm, power}
use Rattle.freq_range.specs.Valid.{IsValidRule, IsValidWmm}
use Rattle.freq_range.specs.declared.rule.Rule.{Rule}
use Rattle.freq_range.specs.declared.wmm.Wmm.{Wmm}
use Rattle.text_lines.specs.Spelling.{IsPower, IsRuleLine, IsSpelledRule, Power, RuleText}
use Rattle.text_lines.specs.Spelling.Power.{Dbm, Milliwatts}
use Rattle.text_lines.proofs.Milliwatts.{powers}

-- ---- powers

-- a decimal is below ten, and what is left is from 1 to below 10 again
record IsSmall (digit next : ℕ) : Type 0 where
  few : digit ≤ 9
  least : 10 ^ 12 ≤ next
  most : next < 10 ^ 13

small_decimal : (m digit next : ℕ) → 10 ^ 12 ≤ m → m < 10 ^ 13 → IsNextDecimal m digit next → IsSmall digit next
small_decimal m digit next least most is =
    let bounds = powers m 9 least most in
    let few = digits_most (power m 9) (12 + digit) bounds.1 is.least in
    record {
      few = omega (arith, few);
      least = subst (λ p. 10 ^ 12 ≤ p) (sym is.left) (left_least (power m 9) digit is.least);
      most = subst (λ p. p < 10 ^ 13) (sym is.left) (left_most (power m 9) digit is.most);
    }

mbm_fits : (mw mbm : ℕ) → IsMbm mw mbm → mbm < 2 ^ 16
mbm_fits mw mbm is =
    let in_range = is.in_range in
    let whole = whole_small mw is.whole in_range.most is.whole_least in
    let high = is.whole_most in
    let start = mantissa_least mw is.whole is.whole_least in
    let end = mantissa_most mw is.whole (let e = ten_more is.whole in omega (arith, e, high)) in
    let first = small_decimal (mw * 10 ^ 12 / 10 ^ is.whole) is.first is.after_first start end is.is_first in
    let second = small_decimal is.after_first is.second is.after_second first.least first.most is.is_second in
    let third = small_decimal is.after_second is.third is.after_third second.least second.most is.is_third in
    let sum = is.sum in
    let a = first.few in
    let b = second.few in
    let c = third.few in
    omega (arith, whole, sum, a, b, c)

pub power_fits : (p : Power) (mbm : ℕ) → IsPower p mbm → mbm < 2 ^ 16
power_fits (Dbm n) mbm is = let most = is.2 in omega (arith, most)
power_fits (Milliwatts digits) mbm is = mbm_fits _ mbm is.1

-- a rule that is spelled is valid where its WMM rule is
pub valid_spelled : (line : List ℕ) (t : RuleText) (rule : Rule) (o : Option Wmm) → IsSpelledRule line t rule → IfSome o IsValidWmm → IsValidRule (record rule { wmm = o })
valid_spelled line t rule o is valid = record {
  above_zero = is.band.above_zero;
  in_order = is.band.in_order;
  wide_enough = is.band.wide_enough;
  wmm = valid;
  end_fits = is.band.end_fits;
  power_fits = power_fits t.power rule.eirp_mbm is.power;
  check_fits = let none = is.check_time in omega (arith, none);
}

-- a rule whose line names no WMM rule is valid as it stands
pub valid_line : (line : List ℕ) (rule : Rule) → IsRuleLine line rule None → IsValidRule rule
valid_line line rule is = subst IsValidRule (same_rule rule is.is.wmm) (valid_spelled line is.text rule None is.is tt)
  where
    same_rule : (r : Rule) → r.wmm ≡ None → ◌≡◌ {A = Rule} (record r { wmm = None }) r
    same_rule r none = λ i. record r { wmm = sym none i }
