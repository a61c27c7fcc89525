use Rattle.std.proofs.Common.{arith}
use Rattle.freq_range.proofs.Powers.{digits_least, digits_most, decimal_least, decimal_most}
use Rattle.freq_range.proofs.power.digit_of.Goals as goal

pub overflow_sub-result : goal.overflow_sub-result
overflow_sub-result c = digits_least _ _ c.requires.at_least_one c.ilog10.ensures.next_power_gt

pub returns-clause-least : goal.returns-clause-least
returns-clause-least c =
    decimal_least _ _ (digits_least _ _ c.requires.at_least_one c.ilog10.ensures.next_power_gt) c.ilog10.ensures.power_le

pub returns-clause-most : goal.returns-clause-most
returns-clause-most c =
    decimal_most _ _ (digits_least _ _ c.requires.at_least_one c.ilog10.ensures.next_power_gt) c.ilog10.ensures.next_power_gt

pub returns-clause-digit : goal.returns-clause-digit
returns-clause-digit c =
    let most = digits_most _ _ c.requires.below c.ilog10.ensures.power_le in
    omega arith
