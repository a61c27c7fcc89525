-- A nested attribute that is written where it stands: its header first, with the length left open, then its payload.
use Rattle.std.specs.Prelude.{◌≡◌, ℕ, ◌+◌, ◌<◌, ◌≤◌, true, List, ◌++◌, length}
use Rattle.nl_attrs.specs.Endian.{le16}
use Rattle.nl_attrs.specs.Attributes.{kind_field}
use Rattle.nl_attrs.specs.declared.attr.Attr.{Attr}
use Rattle.nl_attrs.specs.declared.fault.EncodeFault.{EncodeFault}
use Rattle.nl_attrs.specs.declared.fault.EncodeFault.TheVariants as encode_faults

-- the header before its length is known
abbrev pub begun_bytes : ℕ → List ℕ
begun_bytes kind = le16 0 ++ le16 (kind_field kind true)

abbrev pub nested_with : ℕ → List ℕ → Attr
nested_with kind payload = record { kind = kind; nested = true; payload = payload }

-- what stands behind the header from that place on has at most 65,531 bytes
abbrev pub FitsNested : List ℕ → ℕ → Type 0
FitsNested written start = length written ≤ start + 65535

-- why a nested attribute can't be ended: its payload is too long; memory is taken where it isn't
abbrev pub IsNestedFault : List ℕ → ℕ → EncodeFault → Type 0
IsNestedFault written start (encode_faults.Overlong n) = (65531 < n) × (start + 4 + n ≡ length written)
IsNestedFault written start encode_faults.OutOfMemory = FitsNested written start
