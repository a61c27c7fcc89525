-- A nested attribute that is written where it stands.
use Rattle.std.proofs.Common.{◌≡◌, ℕ, ◌+◌, ◌≤◌, true, List, ◌++◌, length, take, drop, replicate, refl, sym, ap, ◌∙◌, append_assoc, arith}
use Rattle.std.specs.Int.{w16, to_le_bytes}
use Rattle.std.proofs.lemmas.List.{length-append, length-take, length-drop, take_at, drop_at, drop-drop}
use Rattle.nl_attrs.specs.Endian.{le16}
use Rattle.nl_attrs.specs.Attributes.{attr_bytes, kind_field, padding_length}
use Rattle.nl_attrs.specs.Nesting.{begun_bytes, nested_with}
use Rattle.nl_attrs.proofs.Lengths.{length-le16}

-- a number over the two bytes from a place on
pub written_over : (old part : List ℕ) (place k n : ℕ) → k ≡ 2 → part ≡ to_le_bytes w16 n → take place old ++ (part ++ drop k (drop place old)) ≡ take place old ++ (le16 n ++ drop (place + 2) old)
unfolding le16
written_over old part place k n k-is part-is = rw (k-is, part-is, drop-drop 2 place old) refl

-- what was written since it began, with its length
abbrev ended : List ℕ → ℕ → ℕ → List ℕ → List ℕ
ended before n kind payload = before ++ (le16 (4 + n) ++ (le16 (kind_field kind true) ++ (payload ++ replicate (padding_length n) 0)))

ended_is : (before : List ℕ) (n kind : ℕ) (payload : List ℕ) → n ≡ length payload → ended before n kind payload ≡ before ++ attr_bytes (nested_with kind payload)
unfolding attr_bytes
ended_is before n kind payload n-is = rw n-is refl

-- the buffer with the attribute's padding
padded_is : (old padded before payload : List ℕ) (n kind : ℕ) → old ≡ before ++ (begun_bytes kind ++ payload) → padded ≡ old ++ replicate (padding_length n) 0 → padded ≡ before ++ (le16 0 ++ (le16 (kind_field kind true) ++ (payload ++ replicate (padding_length n) 0)))
padded_is old padded before payload n kind old-is padded-is =
    rw (padded-is, old-is) (simp append_assoc)

pub nested_written : (old padded over before payload : List ℕ) (start n kind : ℕ) → start ≡ length before → old ≡ before ++ (begun_bytes kind ++ payload) → start + 4 + n ≡ length old → padded ≡ old ++ replicate (padding_length n) 0 → over ≡ take start padded ++ (le16 (4 + n) ++ drop (start + 2) padded)
    → take (length padded) (over ++ drop (length over) padded) ≡ before ++ attr_bytes (nested_with kind payload)
nested_written old padded over before payload start n kind start-is old-is n-is padded-is over-is =
    let tail : List ℕ = le16 (kind_field kind true) ++ (payload ++ replicate (padding_length n) 0) in
    let parts : padded ≡ before ++ (le16 0 ++ tail) = padded_is old padded before payload n kind old-is padded-is in
    let grouped : padded ≡ (before ++ le16 0) ++ tail = parts ∙ sym (append_assoc before (le16 0) tail) in
    let front : take start padded ≡ before = ap (take start) parts ∙ take_at before (le16 0 ++ tail) start (sym start-is) in
    let open_len : length (before ++ le16 0) ≡ start + 2 = simp (length-append, length-le16) (omega arith) in
    let back : drop (start + 2) padded ≡ tail = ap (drop (start + 2)) grouped ∙ drop_at (before ++ le16 0) tail (start + 2) open_len in
    let over_parts : over ≡ ended before n kind payload = over-is ∙ ap (λ (x : List ℕ). x ++ (le16 (4 + n) ++ drop (start + 2) padded)) front ∙ ap (λ (x : List ℕ). before ++ (le16 (4 + n) ++ x)) back in
    let same_len : length over ≡ length padded = ap length over_parts ∙ one_length before n kind payload ∙ sym (ap length parts) in
    let len : n ≡ length payload = omega (arith, ap length old-is, length_begun before kind payload) in
    take_at over (drop (length over) padded) (length padded) same_len ∙ over_parts ∙ ended_is before n kind payload len
  where
    one_length : (before : List ℕ) (n kind : ℕ) (payload : List ℕ) → length (ended before n kind payload) ≡ length (before ++ (le16 0 ++ (le16 (kind_field kind true) ++ (payload ++ replicate (padding_length n) 0))))
    one_length before n kind payload = simp (length-append, length-le16)

    length_begun : (before : List ℕ) (kind : ℕ) (payload : List ℕ) → length (before ++ (begun_bytes kind ++ payload)) ≡ length before + (4 + length payload)
    length_begun before kind payload = simp (length-append, length-le16) (omega arith)

-- two numbers more
pub four_more : (old one two : List ℕ) (m n : ℕ) → one ≡ old ++ le16 m → two ≡ one ++ le16 n → length two ≡ length old + 4
four_more old one two m n one-is two-is =
    rw (two-is, one-is) (simp (length-append, length-le16) (omega arith))

-- what is written over two bytes is as long, and a buffer with padding is no shorter
pub longer : (old padded over : List ℕ) (k place n : ℕ) → place + 4 ≤ length old → padded ≡ old ++ replicate k 0 → over ≡ take place padded ++ (le16 n ++ drop (place + 2) padded) → length old ≤ length (take (length padded) (over ++ drop (length over) padded))
longer old padded over k place n within padded-is over-is =
    let more : length padded ≡ length old + length (replicate {A = ℕ} k 0) = ap length padded-is ∙ length-append old (replicate k 0) in
    let same : length over ≡ length padded = rw over-is (simp (length-append, length-le16) (omega (arith, length-take place padded, length-drop (place + 2) padded))) in
    rw (take_at over (drop (length over) padded) (length padded) same) (omega arith)
