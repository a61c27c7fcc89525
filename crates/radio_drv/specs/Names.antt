-- Names of interfaces.
use Rattle.std.specs.Prelude.{◌≡◌, ℕ, ◌-◌, ◌≤◌, List, ◌++◌, length, take, replicate, All}
use Rattle.std.proofs.Common.{ap, ◌∙◌}

-- visible in ASCII
abbrev pub IsVisible : ℕ → Type 0
IsVisible byte = (33 ≤ byte) × (byte ≤ 126)

-- 1 to 15 visible bytes
pub record IsName (bytes : List ℕ) : Type 0 where
  pub some : 1 ≤ length bytes
  pub few : length bytes ≤ 15
  pub visible : All IsVisible bytes

-- so many bytes of a name, and zeros up to 15
pub record IsPadded (bytes : List ℕ) (count : ℕ) : Type 0 where
  pub name : IsName (take count bytes)
  pub counted : length (take count bytes) ≡ count
  pub padded : take count bytes ++ replicate (15 - count) 0 ≡ bytes

-- the bytes of the name give all of them back
pub padded_bytes : (bytes : List ℕ) (count : ℕ) → IsPadded bytes count → take count bytes ++ replicate (15 - length (take count bytes)) 0 ≡ bytes
padded_bytes bytes count is = ap (λ n. take count bytes ++ replicate (15 - n) 0) is.counted ∙ is.padded
