use Rattle.std.proofs.Common.{◌≤◌, length, ap, arith}
use Rattle.std.proofs.lemmas.List.{take_all}
use Rattle.std.proofs.lemmas.List.Elements.{All-more}
use Rattle.nl_attrs.specs.Overlong.{IsShort}
use Rattle.nl_attrs.specs.inner.Reading.{HasBytes}
use Rattle.nl_attrs.proofs.Written.{first_long_at}
use Rattle.nl_attrs.proofs.attr_writer.first_long.Goals as goal

pub returns-then-length-gt-MOST_PAYLOAD-clause-long : goal.returns-then-length-gt-MOST_PAYLOAD-clause-long
returns-then-length-gt-MOST_PAYLOAD-clause-long c =
    rw (c.byte_count-length.ensures.count, c.as_slice.ensures.items) (first_long_at _ _ _ c.loop-attr-test.true c.attr-item.is c.loop-attr.invariant.short (omega (arith, ap length c.as_slice.ensures.items)))

pub loop-attr-preserved : goal.loop-attr-preserved
loop-attr-preserved c = record {
  short = All-more IsShort c.args.attrs.now c.loop-attr.attr-index c.attr-item.result c.loop-attr-test.true c.loop-attr.invariant.short (rw (← c.attr-item.is) (omega (arith, ap length c.as_slice.ensures.items)));
  bytes = All-more HasBytes c.args.attrs.now c.loop-attr.attr-index c.attr-item.result c.loop-attr-test.true c.loop-attr.invariant.bytes (rw (← c.attr-item.is) (rw c.as_slice.ensures.items at c.byte_count-length.ensures.bytes));
}

pub returns-clause-long : goal.returns-clause-long
returns-clause-long c =
    let all : length c.args.attrs.now ≤ c.loop-attr.attr-index = omega arith in
    rw (take_all c.loop-attr.attr-index c.args.attrs.now all) at c.loop-attr.invariant.short

pub returns-clause-bytes : goal.returns-clause-bytes
returns-clause-bytes c =
    let all : length c.args.attrs.now ≤ c.loop-attr.attr-index = omega arith in
    rw (take_all c.loop-attr.attr-index c.args.attrs.now all) at c.loop-attr.invariant.bytes
