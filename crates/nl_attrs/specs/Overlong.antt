-- What can't be written since it is too long.
use Rattle.std.specs.Prelude.{◌≡◌, ℕ, ◌-◌, ◌^◌, ◌<◌, ◌≤◌, ◌⊎◌, List, ◌∷◌, ◌++◌, length, min, All}
use Rattle.nl_attrs.specs.Attributes.{IsAttr}
use Rattle.nl_attrs.specs.Messages.{IsMsg, spelled, attrs_in}
use Rattle.nl_attrs.specs.declared.attr.Attr.{Attr}
use Rattle.nl_attrs.specs.declared.message.Msg.{Msg}
use Rattle.nl_attrs.specs.declared.fault.EncodeFault.{EncodeFault}
use Rattle.nl_attrs.specs.declared.fault.EncodeFault.TheVariants as encode_faults

-- with its header it has at most 65,535 bytes
abbrev pub IsShort : Attr → Type 0
IsShort a = length a.payload ≤ 65531

-- why an attribute can't be written; memory is taken where it has a spelling
abbrev pub IsPutFault : List ℕ → List ℕ → Attr → EncodeFault → Type 0
IsPutFault old new a (encode_faults.Overlong n) = (65531 < n) × (n ≡ length a.payload) × (new ≡ old)
IsPutFault old new a encode_faults.OutOfMemory = IsAttr a

-- n is the length of the first payload above 65,531 bytes
pub record IsFirstLong (attrs : List Attr) (n : ℕ) : Type 0 where
  pub before : List Attr
  pub long : Attr
  pub after : List Attr
  pub joined : attrs ≡ before ++ long ∷ after
  pub others : All IsShort before
  pub above : 65531 < length long.payload
  pub is : n ≡ length long.payload

-- why attributes can't be written; memory is taken where each has a spelling
abbrev pub IsListFault : List Attr → EncodeFault → Type 0
IsListFault attrs (encode_faults.Overlong n) = IsFirstLong attrs n
IsListFault attrs encode_faults.OutOfMemory = (0 < length attrs) × All IsAttr attrs

-- What has that many bytes is above 65,536. Nothing is counted past 2 ^ 64 - 1.
abbrev pub IsTooLong : ℕ → ℕ → Type 0
IsTooLong bytes n = (65536 < bytes) × (n ≡ min bytes (2 ^ 64 - 1))

-- why a message can't be written: its first payload that is too long, or else the message; memory is taken where it
-- has a spelling
abbrev pub IsEncodeFault : Msg → EncodeFault → Type 0
IsEncodeFault m (encode_faults.Overlong n) =
    IsFirstLong (attrs_in m) n ⊎ (All IsShort (attrs_in m) × IsTooLong (length (spelled m)) n)
IsEncodeFault m encode_faults.OutOfMemory = IsMsg m
