use Rattle.std.proofs.Common.{◌≡◌, ◌-◌, ◌^◌, length, min, take, All}
use Rattle.nl_attrs.specs.Attributes.{attrs_bytes}
use Rattle.nl_attrs.specs.inner.Reading.{HasBytes}
use Rattle.nl_attrs.proofs.attr_writer.attrs_len.Given as goal

abbrev pub invariant-loop-attr : goal.invariant-loop-attr
invariant-loop-attr l = record {
  counted : l.sum ≡ min (length (attrs_bytes (take l.attr-index l.attrs))) (2 ^ 64 - 1);
  bytes : All HasBytes (take l.attr-index l.attrs);
}
