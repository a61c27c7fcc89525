use Rattle.std.proofs.Common.{arith}
use Rattle.nl_attrs.proofs.NestedWritten.{four_more}
use Rattle.nl_attrs.proofs.nested.begin_nested.Goals as goal

pub returns-clause-inside : goal.returns-clause-inside
returns-clause-inside c =
    let long = four_more c.args.out.now c.put_u16.new.out c.put_u16-2.new.out _ _ c.in_ok-put_u16.ensures c.in_ok-put_u16-2.ensures in
    omega (arith, long, c.len-start.ensures.len)
