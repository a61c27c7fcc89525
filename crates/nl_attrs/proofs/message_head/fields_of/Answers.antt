use Rattle.std.proofs.Common.{arith}
use Rattle.nl_attrs.proofs.HeadLaws.{short_each, generic_head, error_head, done_head}
use Rattle.nl_attrs.proofs.message_head.fields_of.Goals as goal

pub attrs_len-requires : goal.attrs_len-requires
attrs_len-requires c =
    let few = rw c.in-Generic.is at c.requires in
    rw c.as_slice.ensures.items (short_each c.in-Generic.attrs (omega (arith, few)))

pub overflow_cast-result : goal.overflow_cast-result
overflow_cast-result c =
    let few = rw c.in-Generic.is at c.requires in
    let counted = rw c.as_slice.ensures.items at c.attrs_len.ensures.sum in
    omega (arith, few, counted)

pub overflow_add-result : goal.overflow_add-result
overflow_add-result c =
    let few = rw c.in-Generic.is at c.requires in
    let counted = rw c.as_slice.ensures.items at c.attrs_len.ensures.sum in
    omega (arith, few, counted)

pub returns-in-Generic : goal.returns-in-Generic
returns-in-Generic c =
    let few = rw c.in-Generic.is at c.requires in
    let counted = rw c.as_slice.ensures.items at c.attrs_len.ensures.sum in
    rw c.in-Generic.is (generic_head _ _ _ _ _ _ c.attrs_len.result c.in-Generic.attrs (omega (arith, few, counted)))

pub returns-in-Error : goal.returns-in-Error
returns-in-Error c =
    rw c.in-Error.is (error_head _ _ _ c.byte_count.result _ c.in-Error.head c.byte_count.ensures.count)

pub returns-in-Done : goal.returns-in-Done
returns-in-Done c = rw c.in-Done.is (done_head _ _ _ _)
