use Rattle.std.proofs.Common.{arith}
use Rattle.freq_range.proofs.Powers.{factors_fit, factors_out, tenth_below, left_least, left_most}
use Rattle.freq_range.proofs.power.rest_of.Goals as goal

pub overflow_mul-tenth : goal.overflow_mul-tenth
overflow_mul-tenth c =
    let fits = factors_fit c.args.tenth c.args.digit (tenth_below _ _ c.requires.most c.requires.digit) (omega arith) in
    rw (c.pow-factors.ensures, c.from.ensures) (omega (arith, fits))

pub over_one-requires : goal.over_one-requires
over_one-requires c =
    rw (c.pow-factors.ensures, c.from.ensures) (factors_fit c.args.tenth c.args.digit (tenth_below _ _ c.requires.most c.requires.digit) (omega arith))

pub overflow_cast-result : goal.overflow_cast-result
overflow_cast-result c =
    let below = left_most _ _ c.requires.most in
    rw (c.over_one.ensures, c.pow-factors.ensures, c.from.ensures, factors_out c.args.tenth c.args.digit (omega arith)) (omega (arith, below))

pub returns-clause-value : goal.returns-clause-value
returns-clause-value c = rw (c.over_one.ensures, c.pow-factors.ensures, c.from.ensures) (factors_out c.args.tenth c.args.digit (omega arith))

pub returns-clause-at_least_one : goal.returns-clause-at_least_one
returns-clause-at_least_one c =
    rw (c.over_one.ensures, c.pow-factors.ensures, c.from.ensures, factors_out c.args.tenth c.args.digit (omega arith)) (left_least _ _ c.requires.least)

pub returns-clause-below_ten : goal.returns-clause-below_ten
returns-clause-below_ten c =
    rw (c.over_one.ensures, c.pow-factors.ensures, c.from.ensures, factors_out c.args.tenth c.args.digit (omega arith)) (left_most _ _ c.requires.most)
