-- what was written, and what the rest gives, is what all gives
use Rattle.std.proofs.Common.{◌≡◌, ◌++◌, drop}
use Rattle.nl_attrs.specs.Attributes.{attrs_bytes}
use Rattle.nl_attrs.proofs.attr_writer.put_attrs.Given as goal

abbrev pub invariant-loop-attr : goal.invariant-loop-attr
invariant-loop-attr l = l.out ++ attrs_bytes (drop l.attr-index l.attrs) ≡ l.initial.out ++ attrs_bytes l.attrs
