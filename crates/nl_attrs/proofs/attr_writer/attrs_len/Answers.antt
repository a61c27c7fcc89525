use Rattle.std.proofs.Common.{◌≤◌, length, ap, arith}
use Rattle.std.proofs.lemmas.List.{take_all}
use Rattle.std.proofs.lemmas.List.Elements.{All-more}
use Rattle.nl_attrs.specs.inner.Reading.{HasBytes}
use Rattle.nl_attrs.proofs.Written.{length-attrs_more}
use Rattle.nl_attrs.proofs.attr_writer.attrs_len.Goals as goal

pub loop-attr-preserved : goal.loop-attr-preserved
loop-attr-preserved c =
    let more = length-attrs_more c.args.attrs.now c.loop-attr.attr-index c.attr-item.result c.loop-attr-test.true c.attr-item.is in
    record {
      counted = omega (arith, more, c.loop-attr.invariant.counted, c.saturating_add-sum.ensures, c.byte_count-length.ensures.count, ap length c.as_slice.ensures.items);
      bytes = All-more HasBytes c.args.attrs.now c.loop-attr.attr-index c.attr-item.result c.loop-attr-test.true c.loop-attr.invariant.bytes (rw (← c.attr-item.is) (rw c.as_slice.ensures.items at c.byte_count-length.ensures.bytes));
    }

pub returns-clause-bytes : goal.returns-clause-bytes
returns-clause-bytes c =
    let all : length c.args.attrs.now ≤ c.loop-attr.attr-index = omega arith in
    rw (take_all c.loop-attr.attr-index c.args.attrs.now all) at c.loop-attr.invariant.bytes
