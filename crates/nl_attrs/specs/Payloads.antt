-- What payloads say: numbers, texts, and bytes as they are.
use Rattle.std.specs.Prelude.{◌≡◌, ◌≢◌, ℕ, ◌⊎◌, false, List, [], ◌∷◌, ◌++◌, All}
use Rattle.std.specs.Int.{w32, cast_unsigned}
use Rattle.nl_attrs.specs.Endian.{le16, le32, le64}
use Rattle.nl_attrs.specs.declared.attr.Attr.{Attr}
use Rattle.nl_attrs.specs.declared.payloads.Payload.{Payload}
use Rattle.nl_attrs.specs.declared.payloads.Payload.TheVariants.{U8, U16, U32, U64, I32, Text, Raw}

-- a text has no zero byte, and is written with one at its end
abbrev pub IsZeroFree : List ℕ → Type 0
IsZeroFree text = All (λ b. b ≢ 0) text

-- the bytes of a payload
abbrev pub payload_bytes : Payload → List ℕ
payload_bytes (U8 n) = n ∷ []
payload_bytes (U16 n) = le16 n
payload_bytes (U32 n) = le32 n
payload_bytes (U64 n) = le64 n
payload_bytes (I32 n) = le32 (cast_unsigned w32 n)
payload_bytes (Text text) = text.now ++ 0 ∷ []
payload_bytes (Raw bytes) = bytes.now

-- an attribute that holds no others
abbrev pub attr_with : ℕ → Payload → Attr
attr_with kind payload = record { kind = kind; nested = false; payload = payload_bytes payload }

-- The payload is the text, with the zero byte at its end or without it.
abbrev pub Tells : List ℕ → List ℕ → Type 0
Tells payload text = IsZeroFree text × ((payload ≡ text ++ 0 ∷ []) ⊎ (payload ≡ text))
