use Rattle.text_lines.proofs.Items.{entry-not_valid}
use Rattle.text_lines.proofs.wmm_reader.entry_from.Goals as goal

pub returns-else-check : goal.returns-else-check
returns-else-check c =
    entry-not_valid c.args.numbers c.in_ok-exponent_of.field-0 c.in_ok-exponent_of-2.field-0 c.in_ok-exponent_of.ensures.exponent c.in_ok-exponent_of-2.ensures.exponent (λ valid. let found = c.if-check.ensures.1 valid in cc)
