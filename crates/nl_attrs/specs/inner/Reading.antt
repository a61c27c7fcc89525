-- What the private functions say of the bytes that they read and count. The words of the format stand beside this file.
use Rattle.std.specs.Prelude.{◌≡◌, ℕ, ◌+◌, ◌≤◌, ◌⊎◌, true, List, ◌++◌, length, drop, All, None}
use Rattle.nl_attrs.specs.Endian.{AreBytes, le16_at}
use Rattle.nl_attrs.specs.Attributes.{aligned, padding_at, is_zero, bit14, attrs_bytes}
use Rattle.nl_attrs.specs.Messages.{IsMsg, spelled}
use Rattle.nl_attrs.specs.Faults.{length_at, type_at, length_fault, type_fault, IsBadBody, IsFamilyWhole, IsFault}
use Rattle.nl_attrs.specs.Overlong.{IsShort, IsFirstLong, IsTooLong}
use Rattle.nl_attrs.specs.declared.attr.Attr.{Attr}
use Rattle.nl_attrs.specs.declared.message.Msg.{Msg}
use Rattle.nl_attrs.specs.declared.message.Msg.TheVariants.{Generic, Error, Done}
use Rattle.nl_attrs.specs.declared.fault.AttrFault.TheVariants.{Truncated, BadLength, Overlong, BadType, BadAttr}
use Rattle.nl_attrs.specs.declared.fault.NextFault.{NextFault}
use Rattle.nl_attrs.specs.declared.fault.NextFault.TheVariants as next_faults

-- an attribute stands at the front of the bytes
pub record BeginsAttr (bytes : List ℕ) : Type 0 where
  pub header : 4 ≤ length bytes
  pub long : 4 ≤ le16_at bytes 0
  pub within : aligned (le16_at bytes 0) ≤ length bytes
  pub bit : bit14 (le16_at bytes 2) ≡ 0
  pub zero : is_zero (padding_at bytes (le16_at bytes 0)) ≡ true

-- the payload's items are bytes
abbrev pub HasBytes : Attr → Type 0
HasBytes a = AreBytes a.payload

-- no fault of the length nor of the type
pub record IsGoodHead (n kind : ℕ) : Type 0 where
  pub good_length : length_fault n ≡ None
  pub good_type : type_fault n kind ≡ None

-- the head shows no fault so far
pub record IsGoodSoFar (held : List ℕ) : Type 0 where
  pub good_length : 4 ≤ length held → length_fault (length_at held) ≡ None
  pub good_type : 6 ≤ length held → type_fault (length_at held) (type_at held) ≡ None

-- a message of n bytes is whole, and its head has no fault
pub record IsWhole (held : List ℕ) (n : ℕ) : Type 0 where
  pub is : n ≡ length_at held
  pub good : IsGoodHead (length_at held) (type_at held)
  pub long : 20 ≤ n
  pub short : n ≤ 65536
  pub within : n ≤ length held

-- why the body of a message of that type can't be read
abbrev pub IsBodyRefusal : ℕ → List ℕ → NextFault → Type 0
IsBodyRefusal kind body (next_faults.Bad (Truncated n)) = ⊥
IsBodyRefusal kind body (next_faults.Bad (BadLength n)) = ⊥
IsBodyRefusal kind body (next_faults.Bad (Overlong n)) = ⊥
IsBodyRefusal kind body (next_faults.Bad (BadType t)) = ⊥
IsBodyRefusal kind body (next_faults.Bad (BadAttr place)) = (16 ≤ kind) × IsBadBody body place
IsBodyRefusal kind body next_faults.OutOfMemory = 16 ≤ kind

-- why the message at the front can't be taken; only a family's takes memory
abbrev pub IsNextRefusal : List ℕ → NextFault → Type 0
IsNextRefusal held (next_faults.Bad fault) = IsFault held fault
IsNextRefusal held next_faults.OutOfMemory = IsFamilyWhole held

-- a message and its length, at the front
pub record TakesMessage (held : List ℕ) (m : Msg) (n : ℕ) : Type 0 where
  pub message : IsMsg m
  pub count : n ≡ length (spelled m)
  pub long : 20 ≤ n
  pub within : n ≤ length held
  pub front : held ≡ spelled m ++ drop n held

-- what is too long of a message of a family with these attributes: the first payload that is, or else the message,
-- whose attributes stand behind 20 bytes
abbrev pub IsTooBig : List Attr → ℕ → Type 0
IsTooBig attrs n = IsFirstLong attrs n ⊎ (All IsShort attrs × IsTooLong (20 + length (attrs_bytes attrs)) n)

-- the attributes of a message of a family fit it
pub record FitMessage (attrs : List Attr) : Type 0 where
  pub few : 20 + length (attrs_bytes attrs) ≤ 65536
  pub bytes : All HasBytes attrs

-- the message is one of a family that isn't too long, or another
abbrev pub IsntLong : Msg → Type 0
IsntLong (Generic family flags seq pid cmd version attrs) = 20 + length (attrs_bytes attrs) ≤ 65536
IsntLong (Error flags seq pid code head) = Unit {0}
IsntLong (Done flags seq pid code) = Unit {0}
