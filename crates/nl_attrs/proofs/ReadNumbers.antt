-- Payloads that are one number.
use Rattle.std.proofs.Common.{◌≡◌, ℕ, ◌^◌, ◌<◌, List, [], length, take, refl, sym, ap, ◌∙◌, arith}
use Rattle.std.specs.Prelude.{ℤ, FitsSigned}
use Rattle.std.specs.Int.{w32, w64, cast_signed, cast_unsigned, from_le_bytes}
use Rattle.std.proofs.Math.Facts.{Fits-of_z}
use Rattle.std.proofs.lemmas.Int.{of_z-to_z, to_z-of_z}
use Rattle.std.proofs.lemmas.List.{append-nil, take_all}
use Rattle.std.proofs.lemmas.Nat.{le_bytes_8, from_le_bytes-to_le_bytes_8}
use Rattle.nl_attrs.specs.Endian.{le16, le32, le64, le16_at, le32_at, le64_at}
use Rattle.nl_attrs.proofs.Lengths.{length-le64}
use Rattle.nl_attrs.proofs.Places.{IsBytes, le16-u16_at, le32-u32_at, u16_at-le16, u32_at-le32, u32_at-lt}

-- ---- what was read is the payload

pub whole16 : (b : List ℕ) → IsBytes b → length b ≡ 2 → b ≡ le16 (le16_at b 0)
whole16 b fits len = sym (le16-u16_at b 0 fits (omega arith) ∙ take_all 2 b (omega arith))

pub whole32 : (b : List ℕ) → IsBytes b → length b ≡ 4 → b ≡ le32 (le32_at b 0)
whole32 b fits len = sym (le32-u32_at b 0 fits (omega arith) ∙ take_all 4 b (omega arith))

pub whole64 : (b : List ℕ) → IsBytes b → length b ≡ 8 → b ≡ le64 (le64_at b 0)
unfolding le64 le64_at
whole64 b fits len =
    sym (le_bytes_8 b (from_le_bytes w64 (take 8 b)) len fits (ap (from_le_bytes w64) (take_all 8 b (omega arith))))

pub whole_signed : (b : List ℕ) → IsBytes b → length b ≡ 4 → b ≡ le32 (cast_unsigned w32 (cast_signed w32 (le32_at b 0)))
whole_signed b fits len =
    whole32 b fits len ∙ ap le32 (sym (of_z-to_z w32 (le32_at b 0) (u32_at-lt b 0 fits)))

-- ---- what was written is read

pub read16 : (b : List ℕ) (n : ℕ) → n < 2 ^ 16 → b ≡ le16 n → le16_at b 0 ≡ n
read16 b n lt e =
    ap (λ (x : List ℕ). le16_at x 0) (e ∙ sym (append-nil (le16 n))) ∙ u16_at-le16 [] n [] 0 refl lt

pub read32 : (b : List ℕ) (n : ℕ) → n < 2 ^ 32 → b ≡ le32 n → le32_at b 0 ≡ n
read32 b n lt e =
    ap (λ (x : List ℕ). le32_at x 0) (e ∙ sym (append-nil (le32 n))) ∙ u32_at-le32 n [] lt

pub read64 : (b : List ℕ) (n : ℕ) → n < 2 ^ 64 → b ≡ le64 n → le64_at b 0 ≡ n
unfolding le64 le64_at
read64 b n lt e =
    ap (from_le_bytes w64) (take_all 8 b (let len = ap length e in omega (arith, len, length-le64 n))) ∙ ap (from_le_bytes w64) e ∙ from_le_bytes-to_le_bytes_8 n lt

pub read_signed : (b : List ℕ) (n : ℤ) → FitsSigned w32 n → b ≡ le32 (cast_unsigned w32 n) → cast_signed w32 (le32_at b 0) ≡ n
read_signed b n fits e =
    ap (cast_signed w32) (read32 b (cast_unsigned w32 n) (Fits-of_z fits).fits e) ∙ to_z-of_z w32 n fits
