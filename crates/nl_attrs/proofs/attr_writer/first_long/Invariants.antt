use Rattle.std.proofs.Common.{take, All}
use Rattle.nl_attrs.specs.Overlong.{IsShort}
use Rattle.nl_attrs.specs.inner.Reading.{HasBytes}
use Rattle.nl_attrs.proofs.attr_writer.first_long.Given as goal

abbrev pub invariant-loop-attr : goal.invariant-loop-attr
invariant-loop-attr l = record {
  short : All IsShort (take l.attr-index l.attrs);
  bytes : All HasBytes (take l.attr-index l.attrs);
}
