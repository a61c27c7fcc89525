-- Messages and their one spelling.
use Rattle.std.specs.Prelude.{◌≡◌, ℕ, ◌+◌, ◌<◌, ◌≤◌, ◌^◌, List, [], ◌∷◌, ◌++◌, length, All, FitsSigned}
use Rattle.std.specs.Int.{w32, cast_unsigned}
use Rattle.std.specs.List.{flat_map}
use Rattle.nl_attrs.specs.Endian.{AreBytes, le16, le32}
use Rattle.nl_attrs.specs.Attributes.{IsAttr, attrs_bytes}
use Rattle.nl_attrs.specs.declared.attr.Attr.{Attr}
use Rattle.nl_attrs.specs.declared.message.Msg.{Msg}
use Rattle.nl_attrs.specs.declared.message.Msg.TheVariants.{Generic, Error, Done}

-- the length, type, flags, sequence number and port of a message
unfoldable pub head_bytes : ℕ → ℕ → ℕ → ℕ → ℕ → List ℕ
head_bytes len kind flags seq pid = le32 len ++ (le16 kind ++ (le16 flags ++ (le32 seq ++ le32 pid)))

-- an Error message has type 2, a Done message 3, and any other its family
abbrev pub type_of : Msg → ℕ
type_of (Generic family flags seq pid cmd version attrs) = family
type_of (Error flags seq pid code head) = 2
type_of (Done flags seq pid code) = 3

-- the flags in its header
abbrev pub header_flags : Msg → ℕ
header_flags (Generic family flags seq pid cmd version attrs) = flags
header_flags (Error flags seq pid code head) = flags
header_flags (Done flags seq pid code) = flags

-- its sequence number
abbrev pub seq_of : Msg → ℕ
seq_of (Generic family flags seq pid cmd version attrs) = seq
seq_of (Error flags seq pid code head) = seq
seq_of (Done flags seq pid code) = seq

-- its port
abbrev pub pid_of : Msg → ℕ
pid_of (Generic family flags seq pid cmd version attrs) = pid
pid_of (Error flags seq pid code head) = pid
pid_of (Done flags seq pid code) = pid

-- its attributes; an Error and a Done message have none
abbrev pub attrs_in : Msg → List Attr
attrs_in (Generic family flags seq pid cmd version attrs) = attrs
attrs_in (Error flags seq pid code head) = []
attrs_in (Done flags seq pid code) = []

-- what stands behind the head: command, version, two zero bytes and the attributes, or the code and the first 16 bytes
-- of the message that it answers, or the code alone
abbrev pub body_of : Msg → List ℕ
body_of (Generic family flags seq pid cmd version attrs) = cmd ∷ version ∷ 0 ∷ 0 ∷ attrs_bytes attrs
body_of (Error flags seq pid code head) = le32 (cast_unsigned w32 code) ++ head
body_of (Done flags seq pid code) = le32 (cast_unsigned w32 code)

-- The one spelling of a message. Its length counts the head, which has 16 bytes.
unfoldable pub spelled : Msg → List ℕ
spelled m = head_bytes (16 + length (body_of m)) (type_of m) (header_flags m) (seq_of m) (pid_of m) ++ body_of m

-- the bytes of the messages, one after another
abbrev pub all_spelled : List Msg → List ℕ
all_spelled messages = flat_map spelled messages

-- what a message of a family keeps: types below 16 are no families, and bits 14 and 15 no part of a kind
abbrev pub IsInRange : Msg → Type 0
IsInRange (Generic family flags seq pid cmd version attrs) = (16 ≤ family) × All (λ a. a.kind < 16384) attrs
IsInRange (Error flags seq pid code head) = Unit {0}
IsInRange (Done flags seq pid code) = Unit {0}

-- what fits its field in the body and the type
abbrev pub FitsBody : Msg → Type 0
FitsBody (Generic family flags seq pid cmd version attrs) =
    (16 ≤ family) × (family < 2 ^ 16) × (cmd < 256) × (version < 256) × All IsAttr attrs
FitsBody (Error flags seq pid code head) = FitsSigned w32 code × (length head ≡ 16) × AreBytes head
FitsBody (Done flags seq pid code) = FitsSigned w32 code

-- what has a spelling
pub record IsMsg (m : Msg) : Type 0 where
  pub flags : header_flags m < 2 ^ 16
  pub seq : seq_of m < 2 ^ 32
  pub pid : pid_of m < 2 ^ 32
  pub body : FitsBody m
  pub short : length (spelled m) ≤ 65536
