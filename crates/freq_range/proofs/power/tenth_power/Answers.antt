use Rattle.std.proofs.Common.{arith, sym, ap, ◌∙◌, ◌*◌, ◌/◌, ◌^◌}
use Rattle.freq_range.proofs.Powers.{power-none, power-more, product_least, product_most, product_small}
use Rattle.freq_range.proofs.power.tenth_power.Goals as goal

pub loop-factor-init : goal.loop-factor-init
loop-factor-init c = record {
  value = c.from-product.ensures ∙ sym (power-none c.args.mantissa);
  least = rw c.from-product.ensures c.requires.at_least_one;
  most = rw c.from-product.ensures c.requires.below_ten;
}

pub overflow_mul-product : goal.overflow_mul-product
overflow_mul-product c =
    let below = product_small _ _ _ c.loop-factor.invariant.most c.requires.below_ten (omega arith) in
    rw c.from.ensures (omega (arith, below))

pub over_one-product-requires : goal.over_one-product-requires
over_one-product-requires c =
    rw c.from.ensures (product_small _ _ _ c.loop-factor.invariant.most c.requires.below_ten (omega arith))

pub loop-factor-preserved : goal.loop-factor-preserved
loop-factor-preserved c =
    let mantissa = c.args.mantissa in
    record {
      value =
          rw (c.over_one-product.ensures, c.from.ensures)
          (ap (λ p. p * mantissa / 10 ^ 12) c.loop-factor.invariant.value ∙ sym (power-more mantissa c.loop-factor.factor));
      least =
          rw (c.over_one-product.ensures, c.from.ensures)
          (product_least _ _ c.loop-factor.invariant.least c.requires.at_least_one);
      most =
          rw (c.over_one-product.ensures, c.from.ensures)
          (product_most _ _ c.loop-factor.factor c.loop-factor.invariant.most c.requires.below_ten);
    }
