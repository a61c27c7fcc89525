-- The bytes of a piece, and the places at which they stand in a list of bytes.
use Rattle.std.proofs.Common.{◌≡◌, ℕ, zero, suc, ◌+◌, ◌*◌, ◌^◌, ◌<◌, ◌≤◌, List, [], ◌∷◌, ◌++◌, length, take, flat_map, get_or, All, sum_by, refl, sym, ap, ◌∙◌, subst, zero-add, add-zero, arith}
use Rattle.std.proofs.lemmas.List.{append-nil, get_or_append_left, get_or-append-add, length-append}
use Rattle.std.proofs.lemmas.List.Elements.{All-head, All-tail}
use Rattle.std.proofs.lemmas.List.Sums.{sum_by-cons}
use Rattle.byteorder.specs.Endian.{big_from, big_bytes}
use Rattle.byteorder.specs.Numbers.{big_number-reads_back, length-bytes_high_first}
use Rattle.db_writer.specs.Records.{be16, be32}

-- the bytes of a piece stand in b from place i on
pub record Holds (b : List ℕ) (i : ℕ) (piece : List ℕ) : Type 0 where
  pub in_range : i + length piece ≤ length b
  pub each : (k : ℕ) → k < length piece → get_or b (i + k) 0 ≡ get_or piece k 0

pub Holds-whole : (b : List ℕ) → Holds b 0 b
Holds-whole b = record { in_range = omega arith; each = λ k lt. ap (λ n. get_or b n 0) (zero-add k) }

pub Holds-front : (b : List ℕ) (i : ℕ) (xs ys : List ℕ) → Holds b i (xs ++ ys) → Holds b i xs
Holds-front b i xs ys h = record {
  in_range = omega (arith, length-append xs ys);
  each = λ k lt. h.each k (omega (arith, length-append xs ys)) ∙ get_or_append_left xs ys 0 k lt;
}

pub Holds-back : (b : List ℕ) (i j : ℕ) (xs ys : List ℕ) → j ≡ i + length xs → Holds b i (xs ++ ys) → Holds b j ys
Holds-back b i j xs ys e h = record {
  in_range = omega (arith, length-append xs ys);
  each = λ k lt.
      let place : j + k ≡ i + (length xs + k) = omega arith in
      let inside : length xs + k < length (xs ++ ys) = omega (arith, length-append xs ys) in
      ap (λ n. get_or b n 0) place ∙ h.each (length xs + k) inside ∙ get_or-append-add xs ys k 0;
}

pub Holds-cell : (b : List ℕ) (i x : ℕ) (xs : List ℕ) → Holds b i (x ∷ xs) → get_or b i 0 ≡ x
Holds-cell b i x xs h = ap (λ n. get_or b n 0) (sym (add-zero i)) ∙ h.each 0 (omega arith)

pub Holds-rest : (b : List ℕ) (i j x : ℕ) (xs : List ℕ) → j ≡ i + 1 → Holds b i (x ∷ xs) → Holds b j xs
Holds-rest b i j x xs e h = record {
  in_range = omega arith;
  each = λ k lt.
      let place : j + k ≡ i + suc k = omega arith in
      ap (λ n. get_or b n 0) place ∙ h.each (suc k) (omega arith);
}

-- numbers in the same bytes are the same
big_from-same : (n i j : ℕ) (b c : List ℕ) → ((k : ℕ) → k < n → get_or b (i + k) 0 ≡ get_or c (j + k) 0) → big_from i n b ≡ big_from j n c
big_from-same zero i j b c h = refl
big_from-same (suc n) i j b c h =
    let top : get_or b i 0 ≡ get_or c j 0 =
    ap (λ k. get_or b k 0) (sym (add-zero i)) ∙ h 0 (omega arith) ∙ ap (λ k. get_or c k 0) (add-zero j) in
    let rest = big_from-same n (suc i) (suc j) b c (λ k lt.
    let left : suc i + k ≡ i + suc k = omega arith in
    let right : j + suc k ≡ suc j + k = omega arith in
    ap (λ m. get_or b m 0) left ∙ h (suc k) (omega arith) ∙ ap (λ m. get_or c m 0) right) in
    rw (top, rest) refl

Holds-number : (n x i : ℕ) (b : List ℕ) → x < 256 ^ n → Holds b i (big_bytes n x) → big_from i n b ≡ x
Holds-number n x i b fits h =
    big_from-same n i 0 b (big_bytes n x) (λ k lt.
    h.each k (omega (arith, length-bytes_high_first n x)) ∙ ap (λ m. get_or (big_bytes n x) m 0) (sym (zero-add k)))
    ∙ ap (big_from 0 n) (sym (append-nil (big_bytes n x)))
    ∙ big_number-reads_back n x [] fits

pub Holds-be16 : (b : List ℕ) (i x : ℕ) → x < 2 ^ 16 → Holds b i (be16 x) → big_from i 2 b ≡ x
unfolding be16
Holds-be16 b i x fits h = Holds-number 2 x i b fits h

pub Holds-be32 : (b : List ℕ) (i x : ℕ) → x < 2 ^ 32 → Holds b i (be32 x) → big_from i 4 b ≡ x
unfolding be32
Holds-be32 b i x fits h = Holds-number 4 x i b fits h

pub length-be16 : (x : ℕ) → length (be16 x) ≡ 2
unfolding be16
length-be16 x = length-bytes_high_first 2 x

pub length-be32 : (x : ℕ) → length (be32 x) ≡ 4
unfolding be32
length-be32 x = length-bytes_high_first 4 x

-- the piece number k of joined pieces, each of so many words of 4 bytes
pub Holds-piece : {X : Type 0} (bytes : X → List ℕ) (words : X → ℕ) (b : List ℕ) (first p : ℕ) (xs : List X) (k : ℕ) (d : X) → Holds b (4 * first) (flat_map bytes xs) →
    All (λ x. length (bytes x) ≡ 4 * words x) xs → k < length xs → p ≡ first + sum_by words (take k xs) → Holds b (4 * p) (bytes (get_or xs k d))
Holds-piece bytes words b first p [] k d h lengths within is = absurd (omega arith)
Holds-piece bytes words b first p (x ∷ xs) zero d h lengths within is =
    let same : first ≡ p = omega arith in
    subst (λ n. Holds b (4 * n) (bytes x)) same (Holds-front b (4 * first) (bytes x) (flat_map bytes xs) h)
Holds-piece bytes words b first p (x ∷ xs) (suc k) d h lengths within is =
    let len = All-head (λ y. length (bytes y) ≡ 4 * words y) x xs lengths in
    let rest = Holds-back b (4 * first) (4 * (first + words x)) (bytes x) (flat_map bytes xs) (omega (arith, len)) h in
    let sum = sum_by-cons words x (take k xs) in
    Holds-piece bytes words b (first + words x) p xs k d rest (All-tail (λ y. length (bytes y) ≡ 4 * words y) x xs lengths) (omega arith) (omega (arith, sum, is))

-- joined pieces of so many words of 4 bytes each
pub length-pieces : {X : Type 0} (bytes : X → List ℕ) (words : X → ℕ) (xs : List X) → All (λ x. length (bytes x) ≡ 4 * words x) xs → length (flat_map bytes xs) ≡ 4 * sum_by words xs
length-pieces bytes words [] lengths = refl
length-pieces bytes words (x ∷ xs) lengths =
    let here = All-head (λ y. length (bytes y) ≡ 4 * words y) x xs lengths in
    let more = length-pieces bytes words xs (All-tail (λ y. length (bytes y) ≡ 4 * words y) x xs lengths) in
    omega (arith, length-append (bytes x) (flat_map bytes xs), here, more, sum_by-cons words x xs)

pub sum_by-eights : {X : Type 0} (xs : List X) → sum_by (λ x. 8) xs ≡ 8 * length xs
sum_by-eights [] = refl
sum_by-eights (x ∷ xs) = omega (arith, sum_by-cons (λ y. 8) x xs, sum_by-eights xs)
