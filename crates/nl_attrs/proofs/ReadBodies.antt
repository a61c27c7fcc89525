-- Heads and bodies of messages are spelled as they were read.
use Rattle.std.proofs.Common.{◌≡◌, ℕ, ◌+◌, ◌^◌, ◌<◌, ◌≤◌, List, [], ◌∷◌, ◌++◌, length, get_or, drop, All, sym, ap, ◌∙◌, append_assoc, arith}
use Rattle.std.specs.Prelude.{ℤ, FitsSigned}
use Rattle.std.specs.Int.{w32, cast_unsigned, cast_signed}
use Rattle.std.proofs.Math.Facts.{sfits_to_z}
use Rattle.std.proofs.lemmas.Int.{of_z-to_z}
use Rattle.std.proofs.lemmas.List.{append-nil, drop_all, length-drop}
use Rattle.nl_attrs.specs.Endian.{AreBytes, le16, le32, le16_at, le32_at}
use Rattle.nl_attrs.specs.Attributes.{IsAttr, attrs_bytes}
use Rattle.nl_attrs.specs.Messages.{IsMsg, head_bytes, spelled}
use Rattle.nl_attrs.specs.declared.attr.Attr.{Attr}
use Rattle.nl_attrs.specs.declared.message.Msg.TheVariants.{Generic, Error, Done}
use Rattle.nl_attrs.proofs.Lengths.{length-spelled}
use Rattle.nl_attrs.proofs.Places.{IsBytes, bytes_at, le16-u16_at, le32-u32_at, u32_at-lt, cut}
use Rattle.nl_attrs.proofs.Written.{done_bytes, error_bytes}

five_parts : (b p q r s t b1 b2 b3 b4 b5 : List ℕ) → b ≡ p ++ b1 → b1 ≡ q ++ b2 → b2 ≡ r ++ b3 → b3 ≡ s ++ b4 → b4 ≡ t ++ b5 → b ≡ (p ++ (q ++ (r ++ (s ++ t)))) ++ b5
five_parts b p q r s t b1 b2 b3 b4 b5 e1 e2 e3 e4 e5 = rw (e1, e2, e3, e4, e5) (simp append_assoc)

-- the next number at a place, and the rest
next16 : (b : List ℕ) (i : ℕ) → IsBytes b → i + 2 ≤ length b → drop i b ≡ le16 (le16_at b i) ++ drop (i + 2) b
next16 b i fits long =
    cut 2 i b ∙ ap (λ (x : List ℕ). x ++ drop (i + 2) b) (sym (le16-u16_at b i fits long))

next32 : (b : List ℕ) (i : ℕ) → IsBytes b → i + 4 ≤ length b → drop i b ≡ le32 (le32_at b i) ++ drop (i + 4) b
next32 b i fits long =
    cut 4 i b ∙ ap (λ (x : List ℕ). x ++ drop (i + 4) b) (sym (le32-u32_at b i fits long))

pub head_taken : (b : List ℕ) → IsBytes b → 16 ≤ length b → b ≡ head_bytes (le32_at b 0) (le16_at b 4) (le16_at b 6) (le32_at b 8) (le32_at b 12) ++ drop 16 b
unfolding head_bytes
head_taken b fits long =
    five_parts b _ _ _ _ _ (drop 4 b) (drop 6 b) (drop 8 b) (drop 12 b) (drop 16 b) (next32 b 0 fits (omega arith)) (next16 b 4 fits (omega arith)) (next16 b 6 fits (omega arith)) (next32 b 8 fits (omega arith)) (next32 b 12 fits (omega arith))

-- ---- a code that was read

-- a signed number is passed on by its bits
pub code_as_read : (b : List ℕ) (code : ℤ) → IsBytes b → code ≡ cast_signed w32 (le32_at b 0) → cast_signed w32 (cast_unsigned w32 code) ≡ cast_signed w32 (le32_at b 0)
code_as_read b code fits is =
    ap (λ (z : ℤ). cast_signed w32 (cast_unsigned w32 z)) is ∙ ap (cast_signed w32) (of_z-to_z w32 (le32_at b 0) (u32_at-lt b 0 fits))

pub code_fits : (b : List ℕ) (code : ℤ) → IsBytes b → code ≡ cast_signed w32 (le32_at b 0) → FitsSigned w32 code
code_fits b code fits is = rw is (sfits_to_z (record { fits = u32_at-lt b 0 fits }))

code_bytes : (b : List ℕ) (code : ℤ) → IsBytes b → 4 ≤ length b → code ≡ cast_signed w32 (le32_at b 0) → b ≡ le32 (cast_unsigned w32 code) ++ drop 4 b
code_bytes b code fits long is =
    next32 b 0 fits long ∙ ap (λ (n : ℕ). le32 n ++ drop 4 b) (sym (ap (cast_unsigned w32) is ∙ of_z-to_z w32 (le32_at b 0) (u32_at-lt b 0 fits)))

pub done_taken : (flags seq pid : ℕ) (body : List ℕ) (code : ℤ) → IsBytes body → length body ≡ 4 → code ≡ cast_signed w32 (le32_at body 0) → head_bytes 20 3 flags seq pid ++ body ≡ spelled (Done flags seq pid code)
done_taken flags seq pid body code fits len is =
    let all : le32 (cast_unsigned w32 code) ≡ body = sym (append-nil (le32 (cast_unsigned w32 code))) ∙ ap (λ (x : List ℕ). le32 (cast_unsigned w32 code) ++ x) (sym (drop_all 4 body (omega arith))) ∙ sym (code_bytes body code fits (omega arith) is) in
    ap (λ (x : List ℕ). head_bytes 20 3 flags seq pid ++ x) (sym all) ∙ done_bytes flags seq pid code

pub error_taken : (flags seq pid : ℕ) (body : List ℕ) (code : ℤ) → IsBytes body → length body ≡ 20 → code ≡ cast_signed w32 (le32_at body 0) → head_bytes 36 2 flags seq pid ++ body ≡ spelled (Error flags seq pid code (drop 4 body))
error_taken flags seq pid body code fits len is =
    ap (λ (x : List ℕ). head_bytes 36 2 flags seq pid ++ x) (code_bytes body code fits (omega arith) is) ∙ sym (append_assoc (head_bytes 36 2 flags seq pid) (le32 (cast_unsigned w32 code)) (drop 4 body)) ∙ error_bytes flags seq pid code (drop 4 body) (omega (arith, length-drop 4 body))

-- ---- a family's body

-- four bytes, of which the last two are zero, and the attributes
generic_parts : (body : List ℕ) (attrs : List Attr) → 4 ≤ length body → le16_at body 2 ≡ 0 → drop 4 body ≡ attrs_bytes attrs → body ≡ get_or body 0 0 ∷ get_or body 1 0 ∷ 0 ∷ 0 ∷ attrs_bytes attrs
unfolding le16_at
generic_parts [] attrs long zero_field rest = absurd (omega arith)
generic_parts (a ∷ []) attrs long zero_field rest = absurd (omega arith)
generic_parts (a ∷ b ∷ []) attrs long zero_field rest = absurd (omega arith)
generic_parts (a ∷ b ∷ c ∷ []) attrs long zero_field rest = absurd (omega arith)
generic_parts (a ∷ b ∷ c ∷ d ∷ bytes) attrs long zero_field rest =
    let c_zero : c ≡ 0 = omega arith in
    let d_zero : d ≡ 0 = omega arith in
    λ i. a ∷ b ∷ c_zero i ∷ d_zero i ∷ rest i

pub generic_taken : (family flags seq pid : ℕ) (body : List ℕ) (attrs : List Attr) → 4 ≤ length body → le16_at body 2 ≡ 0 → drop 4 body ≡ attrs_bytes attrs
    → head_bytes (16 + length body) family flags seq pid ++ body ≡ spelled (Generic family flags seq pid (get_or body 0 0) (get_or body 1 0) attrs)
unfolding spelled
generic_taken family flags seq pid body attrs long zero_field rest =
    ap (λ (x : List ℕ). head_bytes (16 + length x) family flags seq pid ++ x) (generic_parts body attrs long zero_field rest)

pub read_generic_is : (family flags seq pid : ℕ) (body : List ℕ) (attrs : List Attr) → AreBytes body → 4 ≤ length body → le16_at body 2 ≡ 0 → drop 4 body ≡ attrs_bytes attrs → 16 ≤ family → family < 2 ^ 16 → flags < 2 ^ 16 → seq < 2 ^ 32 → pid < 2 ^ 32 → All IsAttr attrs → length body ≤ 65520
    → IsMsg (Generic family flags seq pid (get_or body 0 0) (get_or body 1 0) attrs)
read_generic_is family flags seq pid body attrs fits long zero_field rest family_high family_fits flags_fit seq_fits pid_fits each few =
    record {
      flags = flags_fit;
      seq = seq_fits;
      pid = pid_fits;
      body = (family_high, family_fits, bytes_at body fits 0, bytes_at body fits 1, each);
      short =
          rw length-spelled (let same = ap length (generic_parts body attrs long zero_field rest) in omega (arith, same));
    }
