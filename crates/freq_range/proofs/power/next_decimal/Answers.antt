use Rattle.freq_range.proofs.power.next_decimal.Goals as goal

pub returns-clause-value : goal.returns-clause-value
returns-clause-value c = record {
  least = rw (← c.tenth_power-tenth.ensures.value) c.digit_of-digit.ensures.least;
  most = rw (← c.tenth_power-tenth.ensures.value) c.digit_of-digit.ensures.most;
  left = rw (← c.tenth_power-tenth.ensures.value) c.rest_of.ensures.value;
}
