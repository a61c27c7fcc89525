-- Numbers at places: what was read is written again, and what was written is read again.
use Rattle.std.proofs.Common.{◌≡◌, ℕ, ◌+◌, ◌^◌, ◌<◌, ◌≤◌, List, ◌++◌, length, get_or, take, drop, refl, sym, ap, ◌∙◌, inl, inr, arith}
use Rattle.std.specs.Int.{w16, w32, to_le_bytes, from_le_bytes}
use Rattle.std.proofs.lemmas.Bool.{cases_lt}
use Rattle.std.proofs.lemmas.List.{length-take, length-drop, get_or-take, get_or-drop, get_or_past, take-append-drop, drop-drop, drop_at, drop-append-le, take-append-le}
use Rattle.std.proofs.lemmas.Nat.{le_bytes_2, le_bytes_4, from_le_bytes-to_le_bytes_2, from_le_bytes-to_le_bytes_4}
use Rattle.std.proofs.lemmas.List.Elements.{All-get_or, All-from_get_or}
use Rattle.nl_attrs.specs.Endian.{AreBytes, le16, le32, le16_at, le32_at}

abbrev pub IsBytes : List ℕ → Type 0
IsBytes bytes = (i : ℕ) → get_or bytes i 0 < 256

-- the same two ways to say it
pub bytes_at : (bytes : List ℕ) → AreBytes bytes → IsBytes bytes
bytes_at bytes fits i =
    elim (cases_lt i (length bytes)) [
      | inl lt ↦ All-get_or (λ b. b < 256) bytes i 0 lt fits
      | inr le ↦ rw (get_or_past bytes i 0 le) (omega arith)
    ]

pub bytes_from : (bytes : List ℕ) → IsBytes bytes → AreBytes bytes
bytes_from bytes fits = All-from_get_or (λ b. b < 256) bytes 0 (λ i lt. fits i)

pub IsBytes-drop : (n : ℕ) (bytes : List ℕ) → IsBytes bytes → IsBytes (drop n bytes)
IsBytes-drop n bytes h i = rw get_or-drop (h (n + i))

pub IsBytes-take : (n : ℕ) (bytes : List ℕ) → IsBytes bytes → IsBytes (take n bytes)
IsBytes-take n bytes h i =
    elim (cases_lt i n) [
      | inl lt ↦ rw (get_or-take n bytes i 0 lt) (h i)
      | inr le ↦ rw (get_or_past (take n bytes) i 0 (omega (arith, length-take n bytes))) (omega arith)
    ]

pub IsBytes-part : (k i : ℕ) (bytes : List ℕ) → IsBytes bytes → IsBytes (take k (drop i bytes))
IsBytes-part k i bytes h = IsBytes-take k (drop i bytes) (IsBytes-drop i bytes h)

-- ---- what was read is written again

pub le16-u16_at : (b : List ℕ) (i : ℕ) → IsBytes b → i + 2 ≤ length b → le16 (le16_at b i) ≡ take 2 (drop i b)
unfolding le16 le16_at
le16-u16_at b i fits long =
    le_bytes_2 (take 2 (drop i b)) (from_le_bytes w16 (take 2 (drop i b))) (omega (arith, length-take 2 (drop i b), length-drop i b)) (IsBytes-part 2 i b fits) refl

pub le32-u32_at : (b : List ℕ) (i : ℕ) → IsBytes b → i + 4 ≤ length b → le32 (le32_at b i) ≡ take 4 (drop i b)
unfolding le32 le32_at
le32-u32_at b i fits long =
    le_bytes_4 (take 4 (drop i b)) (from_le_bytes w32 (take 4 (drop i b))) (omega (arith, length-take 4 (drop i b), length-drop i b)) (IsBytes-part 4 i b fits) refl

pub u16_at-lt : (b : List ℕ) (i : ℕ) → IsBytes b → le16_at b i < 2 ^ 16
unfolding le16_at
u16_at-lt b i fits =
    let part = IsBytes-part 2 i b fits in
    omega (arith, part 0, part 1)

pub u32_at-lt : (b : List ℕ) (i : ℕ) → IsBytes b → le32_at b i < 2 ^ 32
unfolding le32_at
u32_at-lt b i fits =
    let part = IsBytes-part 4 i b fits in
    omega (arith, part 0, part 1, part 2, part 3)

-- ---- what was written is read again

pub u16_at-le16 : (p : List ℕ) (n : ℕ) (r : List ℕ) (i : ℕ) → length p ≡ i → n < 2 ^ 16 → le16_at (p ++ (le16 n ++ r)) i ≡ n
unfolding le16 le16_at
u16_at-le16 p n r i len lt =
    rw (drop_at p (to_le_bytes w16 n ++ r) i len) (from_le_bytes-to_le_bytes_2 n lt)

pub u32_at-le32 : (n : ℕ) (r : List ℕ) → n < 2 ^ 32 → le32_at (le32 n ++ r) 0 ≡ n
unfolding le32 le32_at
u32_at-le32 n r lt = from_le_bytes-to_le_bytes_4 n lt

-- ---- more bytes behind, and fewer

pub u16_at-append : (b r : List ℕ) (i : ℕ) → i + 2 ≤ length b → le16_at (b ++ r) i ≡ le16_at b i
unfolding le16_at
u16_at-append b r i long =
    let front : i ≤ length b = omega arith in
    let whole : 2 ≤ length (drop i b) = omega (arith, length-drop i b) in
    rw (drop-append-le i b r front, take-append-le 2 (drop i b) r whole) refl

pub u32_at-append : (b r : List ℕ) (i : ℕ) → i + 4 ≤ length b → le32_at (b ++ r) i ≡ le32_at b i
unfolding le32_at
u32_at-append b r i long =
    let front : i ≤ length b = omega arith in
    let whole : 4 ≤ length (drop i b) = omega (arith, length-drop i b) in
    rw (drop-append-le i b r front, take-append-le 4 (drop i b) r whole) refl

-- the bytes from a place on are the next ones and the rest
pub cut : (k i : ℕ) (b : List ℕ) → drop i b ≡ take k (drop i b) ++ drop (i + k) b
cut k i b =
    sym (take-append-drop k (drop i b)) ∙ ap (λ (x : List ℕ). take k (drop i b) ++ x) (drop-drop k i b)
