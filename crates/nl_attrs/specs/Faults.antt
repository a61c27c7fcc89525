-- What is wrong with the bytes at the front of a stream, and when it is judged.
use Rattle.std.specs.Prelude.{◌≡◌, ◌≢◌, ℕ, ◌+◌, ◌%◌, ◌<◌, ◌≤◌, ◌==◌, ◌⊎◌, ◌&&◌, ◌||◌, not, nat_lt, nat_le, List, length, take, drop, Option, Some, None, if◌then◌else◌}
use Rattle.nl_attrs.specs.Endian.{le16_at, le32_at}
use Rattle.nl_attrs.specs.Attributes.{IsFirstBreach}
use Rattle.nl_attrs.specs.declared.fault.AttrFault.{AttrFault}
use Rattle.nl_attrs.specs.declared.fault.AttrFault.TheVariants.{BadLength, Overlong, BadType, BadAttr}

-- the length and the type that the bytes state
abbrev pub length_at : List ℕ → ℕ
length_at held = le32_at held 0

-- the type in the header
abbrev pub type_at : List ℕ → ℕ
type_at held = le16_at held 4

-- the fault of a length: below 20 or no multiple of 4, or else above 65,536
unfoldable pub length_fault : ℕ → Option AttrFault
length_fault n =
    if nat_lt n 20 || not (n % 4 == 0) then Some (BadLength n) else if nat_lt 65536 n then Some (Overlong n) else None

-- the fault of a type under a length: not the one length of types 2 and 3, or else neither of these nor a family
unfoldable pub type_fault : ℕ → ℕ → Option AttrFault
type_fault n kind =
    if (kind == 2 && not (n == 36)) || (kind == 3 && not (n == 20)) then Some (BadLength n)
    else if nat_lt kind 2 || (nat_le 4 kind && nat_lt kind 16) then Some (BadType kind)
    else None

-- A length is judged as soon as 4 bytes are held.
pub record IsLengthFault (held : List ℕ) (fault : AttrFault) : Type 0 where
  pub seen : 4 ≤ length held
  pub bad : length_fault (length_at held) ≡ Some fault

-- A type is judged as soon as 6 bytes are held.
pub record IsTypeFault (held : List ℕ) (fault : AttrFault) : Type 0 where
  pub seen : 6 ≤ length held
  pub good_length : length_fault (length_at held) ≡ None
  pub bad : type_fault (length_at held) (type_at held) ≡ Some fault

-- What is behind the head of the message of that length.
abbrev pub body_at : List ℕ → List ℕ
body_at held = drop 16 (take (length_at held) held)

-- The reserved number of a family's message isn't zero, or else its attributes are broken. Both are placed from the
-- first byte of the message on.
abbrev pub IsBadBody : List ℕ → ℕ → Type 0
IsBadBody body place =
    ((le16_at body 2 ≢ 0) × (place ≡ 18))
    ⊎ ((le16_at body 2 ≡ 0) × ((k : ℕ) × IsFirstBreach (drop 4 body) k × (place ≡ 20 + k)))

-- a message of a family is whole, and its head has no fault
pub record IsFamilyWhole (held : List ℕ) : Type 0 where
  pub good_length : length_fault (length_at held) ≡ None
  pub good_type : type_fault (length_at held) (type_at held) ≡ None
  pub whole : length_at held ≤ length held
  pub family : 16 ≤ type_at held

-- What stands behind the head is judged once the message is whole.
pub record IsBodyFault (held : List ℕ) (fault : AttrFault) : Type 0 where
  pub message : IsFamilyWhole held
  pub place : ℕ
  pub bad : IsBadBody (body_at held) place
  pub is : fault ≡ BadAttr place

-- the first fault of the message at the front
abbrev pub IsFault : List ℕ → AttrFault → Type 0
IsFault held fault = IsLengthFault held fault ⊎ (IsTypeFault held fault ⊎ IsBodyFault held fault)

-- a message has begun, isn't whole yet, and what is held shows no fault
pub record IsBegun (held : List ℕ) : Type 0 where
  pub seen : 4 ≤ length held
  pub good_length : length_fault (length_at held) ≡ None
  pub good_type : 6 ≤ length held → type_fault (length_at held) (type_at held) ≡ None
  pub left : length held < length_at held

-- neither a message nor a fault stands at the front yet
abbrev pub IsUndecided : List ℕ → Type 0
IsUndecided held = (length held < 4) ⊎ IsBegun held
