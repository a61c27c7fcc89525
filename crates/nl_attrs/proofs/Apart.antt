-- No spelling begins another: numbers and attributes.
use Rattle.std.proofs.Common.{◌≡◌, ℕ, ◌+◌, ◌^◌, ◌<◌, Bool, true, false, List, ◌++◌, length, take, drop, replicate, refl, sym, ap, ◌∙◌, append_assoc, arith}
use Rattle.std.specs.Int.{w16, w32, from_le_bytes}
use Rattle.std.proofs.lemmas.List.{take_at, drop_at}
use Rattle.std.proofs.lemmas.Nat.{from_le_bytes-to_le_bytes_2, from_le_bytes-to_le_bytes_4}
use Rattle.nl_attrs.specs.Endian.{le16, le32}
use Rattle.nl_attrs.specs.Attributes.{IsAttr, padding_length, kind_field, attr_bytes}
use Rattle.nl_attrs.specs.declared.attr.Attr.{Attr}

pub same_front : (p q r s : List ℕ) → length p ≡ length q → p ++ r ≡ q ++ s → (p ≡ q) × (r ≡ s)
same_front p q r s len e =
    (sym (take_at p r (length q) len) ∙ ap (take (length q)) e ∙ take_at q s (length q) refl, sym (drop_at p r (length q) len) ∙ ap (drop (length q)) e ∙ drop_at q s (length q) refl)

pub le16-apart : (m n : ℕ) (r s : List ℕ) → m < 2 ^ 16 → n < 2 ^ 16 → le16 m ++ r ≡ le16 n ++ s → (m ≡ n) × (r ≡ s)
unfolding le16
le16-apart m n r s m_fits n_fits e =
    let parts = same_front (le16 m) (le16 n) r s refl e in
    (sym (from_le_bytes-to_le_bytes_2 m m_fits) ∙ ap (from_le_bytes w16) parts.0 ∙ from_le_bytes-to_le_bytes_2 n n_fits, parts.1)

pub le32-apart : (m n : ℕ) (r s : List ℕ) → m < 2 ^ 32 → n < 2 ^ 32 → le32 m ++ r ≡ le32 n ++ s → (m ≡ n) × (r ≡ s)
unfolding le32
le32-apart m n r s m_fits n_fits e =
    let parts = same_front (le32 m) (le32 n) r s refl e in
    (sym (from_le_bytes-to_le_bytes_4 m m_fits) ∙ ap (from_le_bytes w32) parts.0 ∙ from_le_bytes-to_le_bytes_4 n n_fits, parts.1)

pub kind_field-lt : (k : ℕ) (nested : Bool) → k < 16384 → kind_field k nested < 2 ^ 16
kind_field-lt k true lt = omega arith
kind_field-lt k false lt = omega arith

kind_field-same : (j k : ℕ) (m n : Bool) → j < 16384 → k < 16384 → kind_field j m ≡ kind_field k n → (j ≡ k) × (m ≡ n)
kind_field-same j k true true j_fits k_fits e = (omega arith, refl)
kind_field-same j k false false j_fits k_fits e = (omega arith, refl)
kind_field-same j k true false j_fits k_fits e = absurd (omega arith)
kind_field-same j k false true j_fits k_fits e = absurd (omega arith)

-- the padding, and what stands from the payload on and from the kind on
abbrev zeros_of : Attr → List ℕ
zeros_of a = replicate (padding_length (length a.payload)) 0

abbrev from_payload : Attr → List ℕ → List ℕ
from_payload a r = a.payload ++ (zeros_of a ++ r)

abbrev from_kind : Attr → List ℕ → List ℕ
from_kind a r = le16 (kind_field a.kind a.nested) ++ from_payload a r

pub attr_regrouped : (a : Attr) (r : List ℕ) → attr_bytes a ++ r ≡ le16 (4 + length a.payload) ++ (le16 (kind_field a.kind a.nested) ++ (a.payload ++ (replicate (padding_length (length a.payload)) 0 ++ r)))
unfolding attr_bytes
attr_regrouped a r = simp append_assoc

same_attr : (a b : Attr) → a.kind ≡ b.kind → a.nested ≡ b.nested → a.payload ≡ b.payload → a ≡ b
same_attr a b kind nested payload = λ i. record { kind = kind i; nested = nested i; payload = payload i }

pub attr-apart : (a b : Attr) (r s : List ℕ) → IsAttr a → IsAttr b → attr_bytes a ++ r ≡ attr_bytes b ++ s → (a ≡ b) × (r ≡ s)
attr-apart a b r s fits_a fits_b e =
    let short_a = fits_a.short in
    let short_b = fits_b.short in
    let grouped = sym (attr_regrouped a r) ∙ e ∙ attr_regrouped b s in
    let lengths = le16-apart (4 + length a.payload) (4 + length b.payload) (from_kind a r) (from_kind b s) (omega arith) (omega arith) grouped in
    let fields = le16-apart (kind_field a.kind a.nested) (kind_field b.kind b.nested) (from_payload a r) (from_payload b s) (kind_field-lt a.kind a.nested fits_a.kind) (kind_field-lt b.kind b.nested fits_b.kind) lengths.1 in
    let kinds = kind_field-same a.kind b.kind a.nested b.nested fits_a.kind fits_b.kind fields.0 in
    let long : length a.payload ≡ length b.payload = omega (arith, lengths.0) in
    let payloads = same_front a.payload b.payload (zeros_of a ++ r) (zeros_of b ++ s) long fields.1 in
    let zeros : length (zeros_of a) ≡ length (zeros_of b) = ap (λ (k : ℕ). length {A = ℕ} (replicate (padding_length k) 0)) long in
    let rests = same_front (zeros_of a) (zeros_of b) r s zeros payloads.1 in
    (same_attr a b kinds.0 kinds.1 payloads.0, rests.1)
