-- Numbers in bytes, the lowest byte first.
use Rattle.std.specs.Prelude.{ℕ, ◌<◌, List, take, drop, All}
use Rattle.std.specs.Int.{w16, w32, w64, to_le_bytes, from_le_bytes}

-- each is below 256
abbrev pub AreBytes : List ℕ → Type 0
AreBytes bytes = All (λ b. b < 256) bytes

-- a number in two bytes, in four, and in eight
unfoldable pub le16 : ℕ → List ℕ
le16 n = to_le_bytes w16 n

-- a number in four bytes, the lowest first
unfoldable pub le32 : ℕ → List ℕ
le32 n = to_le_bytes w32 n

unfoldable pub le64 : ℕ → List ℕ
le64 n = to_le_bytes w64 n

-- the number in the two, four or eight bytes from place i on
unfoldable pub le16_at : List ℕ → ℕ → ℕ
le16_at b i = from_le_bytes w16 (take 2 (drop i b))

-- the number in the four bytes at this place
unfoldable pub le32_at : List ℕ → ℕ → ℕ
le32_at b i = from_le_bytes w32 (take 4 (drop i b))

unfoldable pub le64_at : List ℕ → ℕ → ℕ
le64_at b i = from_le_bytes w64 (take 8 (drop i b))
