-- Attributes, their one spelling, and where bytes aren't attributes.
use Rattle.std.specs.Prelude.{◌≡◌, ℕ, ◌+◌, ◌-◌, ◌*◌, ◌/◌, ◌%◌, ◌<◌, ◌≤◌, ◌==◌, ◌⊎◌, Bool, true, false, List, ◌++◌, length, take, drop, replicate, All, Result, Ok, Err}
use Rattle.std.specs.List.{flat_map, list_all}
use Rattle.nl_attrs.specs.Endian.{AreBytes, le16, le16_at}
use Rattle.nl_attrs.specs.declared.attr.Attr.{Attr}
use Rattle.nl_attrs.specs.declared.attr.AttrRef.{AttrRef}
use Rattle.nl_attrs.specs.declared.fault.AttrsFault.{AttrsFault}
use Rattle.nl_attrs.specs.declared.fault.AttrsFault.TheVariants as attrs_faults

-- what has a spelling: bits 14 and 15 are no part of a kind, and the length fits its two bytes with the padding
pub record IsAttr (a : Attr) : Type 0 where
  pub kind : a.kind < 16384
  pub short : length a.payload ≤ 65531
  pub bytes : AreBytes a.payload

-- the attribute that stands in bytes
abbrev pub attr_in : AttrRef → Attr
attr_in a = record { kind = a.kind; nested = a.nested; payload = a.payload.now }

-- n rounded up to a multiple of 4
abbrev pub aligned : ℕ → ℕ
aligned n = (n + 3) / 4 * 4

-- so many zero bytes stand behind n bytes
abbrev pub padding_length : ℕ → ℕ
padding_length n = aligned n - n

-- the kind, with bit 15 for nested
abbrev pub kind_field : ℕ → Bool → ℕ
kind_field kind true = kind + 32768
kind_field kind false = kind

-- The length with the header, the kind, the payload, and zero bytes up to a multiple of 4.
unfoldable pub attr_bytes : Attr → List ℕ
attr_bytes a =
    le16 (4 + length a.payload)
    ++ (le16 (kind_field a.kind a.nested) ++ (a.payload ++ replicate (padding_length (length a.payload)) 0))

-- the attributes one after another
abbrev pub attrs_bytes : List Attr → List ℕ
attrs_bytes attrs = flat_map attr_bytes attrs

-- the bytes between the end that a length names and the next multiple of 4
abbrev pub padding_at : List ℕ → ℕ → List ℕ
padding_at bytes n = take (padding_length n) (drop n bytes)

-- each byte is zero
abbrev pub is_zero : List ℕ → Bool
is_zero bytes = list_all (λ b. b == 0) bytes

-- bit 14 of the kind
abbrev pub bit14 : ℕ → ℕ
bit14 field = field / 16384 % 2

-- No attribute stands at the front of the bytes: its header isn't whole, or its length is below 4 or passes the end
-- with the padding, or bit 14 of its kind is set, or its padding isn't zero.
abbrev pub IsBroken : List ℕ → Type 0
IsBroken bytes =
    (length bytes < 4)
    ⊎ ((le16_at bytes 0 < 4)
    ⊎ ((length bytes < aligned (le16_at bytes 0))
    ⊎ ((bit14 (le16_at bytes 2) ≡ 1)
    ⊎ (is_zero (padding_at bytes (le16_at bytes 0)) ≡ false))))

-- the first bytes that are no attribute stand at this place
pub record IsFirstBreach (bytes : List ℕ) (place : ℕ) : Type 0 where
  pub before : List Attr
  pub rest : List ℕ
  pub joined : bytes ≡ attrs_bytes before ++ rest
  pub each : All IsAttr before
  pub here : place ≡ length (attrs_bytes before)
  pub left : 0 < length rest
  pub broken : IsBroken rest

-- the payload is attributes, or it has a first breach
abbrev pub HasAttrs : List ℕ → Type 0
HasAttrs payload = (attrs : List Attr) × All IsAttr attrs × (payload ≡ attrs_bytes attrs)

abbrev pub HasBreach : List ℕ → Type 0
HasBreach payload = (place : ℕ) × IsFirstBreach payload place

-- why attributes can't be read; only one that stands there takes memory
abbrev pub IsAttrsFault : List ℕ → AttrsFault → Type 0
IsAttrsFault payload (attrs_faults.BadAttr place) = IsFirstBreach payload place
IsAttrsFault payload attrs_faults.OutOfMemory = (0 < length payload) × (IsBroken payload → ⊥)

-- what reading gives where the payload is these attributes: them, unless memory runs out
abbrev pub GivesAttrs : Result (List Attr) AttrsFault → List Attr → Type 0
GivesAttrs (Ok list) attrs = list ≡ attrs
GivesAttrs (Err fault) attrs = fault ≡ attrs_faults.OutOfMemory
