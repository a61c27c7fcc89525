use Rattle.std.proofs.Common.{arith}
use Rattle.nl_attrs.proofs.Judged.{length_good, error_length, done_length, family_type}
use Rattle.nl_attrs.proofs.message_reader.message_of.Goals as goal

pub error_of-requires : goal.error_of-requires
error_of-requires c = omega (arith, c.requires.length, error_length _ _ c.in-2.is c.requires.good.good_type)

pub done_of-requires : goal.done_of-requires
done_of-requires c = omega (arith, c.requires.length, done_length _ _ c.in-3.is c.requires.good.good_type)

pub generic_of-requires-clause-family : goal.generic_of-requires-clause-family
generic_of-requires-clause-family c = family_type _ _ (λ e. omega arith) (λ e. omega arith) c.requires.good.good_type

pub generic_of-requires-clause-long : goal.generic_of-requires-clause-long
generic_of-requires-clause-long c =
    let good = length_good _ c.requires.good.good_length in
    omega (arith, good.0, c.requires.length)

pub generic_of-requires-clause-short : goal.generic_of-requires-clause-short
generic_of-requires-clause-short c =
    let good = length_good _ c.requires.good.good_length in
    omega (arith, good.2, c.requires.length)

pub returns-in-2-clause-spelled : goal.returns-in-2-clause-spelled
returns-in-2-clause-spelled c =
    rw (c.in-2.is, error_length _ _ c.in-2.is c.requires.good.good_type) c.error_of.ensures.spelled

pub returns-in-3-clause-spelled : goal.returns-in-3-clause-spelled
returns-in-3-clause-spelled c =
    rw (c.in-3.is, done_length _ _ c.in-3.is c.requires.good.good_type) c.done_of.ensures.spelled
