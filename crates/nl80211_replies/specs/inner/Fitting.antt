-- Attributes that can be written.
use Rattle.std.specs.Prelude.{ℕ, ◌<◌, List}
use Rattle.chan_def.specs.declared.kind.Kind.{Kind}
use Rattle.nl_attrs.specs.Overlong.{IsShort}
use Rattle.nl_attrs.specs.declared.attr.Attr.{Attr}
use Rattle.radio_drv.specs.Names.{IsName}

-- the kind and the length of the payload fit their fields
abbrev pub FitsField : Attr → Type 0
FitsField a = (a.kind < 16384) × IsShort a

-- the interface of a radio has a name
abbrev pub HasName : List ℕ × ℕ × Kind → Type 0
HasName x = IsName x.0
