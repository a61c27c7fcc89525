use Rattle.std.proofs.Common.{◌∙◌, arith}
use Rattle.nl_attrs.proofs.NestedWritten.{nested_written, longer}
use Rattle.nl_attrs.proofs.nested.end_nested.Goals as goal

pub returns-clause-ended : goal.returns-clause-ended
returns-clause-ended c before payload kind start-is old-is =
    nested_written c.args.out.now c.put_padding.new.out c.set_u16.new.bytes before payload c.nested.inside.start _ kind (c.nested.view_is ∙ start-is) old-is (omega (arith, c.len.ensures.len)) c.in_ok-put_padding.ensures.ok (rw c.as_mut_slice.ensures.items at c.set_u16.ensures)

pub returns-clause-longer : goal.returns-clause-longer
returns-clause-longer c =
    longer c.args.out.now c.put_padding.new.out c.set_u16.new.bytes _ c.nested.inside.start _ (omega (arith, c.requires.begun, c.nested.view_is)) c.in_ok-put_padding.ensures.ok (rw c.as_mut_slice.ensures.items at c.set_u16.ensures)
