use Rattle.std.proofs.Common.{◌≡◌, ◌+◌, ◌^◌, ◌<◌, ◌≤◌}
use Rattle.freq_range.specs.Power.{power}
use Rattle.freq_range.proofs.power.tenth_power.Given as goal

-- the factors so far, and bounds of their product
abbrev pub invariant-loop-factor : goal.invariant-loop-factor
invariant-loop-factor l = record {
  value : l.product ≡ power l.mantissa l.factor;
  least : 10 ^ 12 ≤ l.product;
  most : l.product < 10 ^ (13 + l.factor);
}
