-- What stands at the front of bytes is spelled as it was read.
use Rattle.std.proofs.Common.{◌≡◌, ℕ, zero, suc, ◌+◌, ◌-◌, ◌%◌, ◌^◌, ◌<◌, ◌≤◌, Bool, true, false, eqb, leb, List, [], ◌∷◌, ◌++◌, length, take, drop, replicate, refl, sym, ap, ◌∙◌, append_assoc, arith}
use Rattle.std.proofs.lemmas.Bool.{eqb-true, and_parts, leb-true, leb-false}
use Rattle.std.proofs.lemmas.List.{length-take, length-drop, flat_map_more, append-nil, nil_from_length}
use Rattle.nl_attrs.specs.Endian.{le16, le16_at}
use Rattle.nl_attrs.specs.Attributes.{aligned, padding_length, padding_at, is_zero, bit14, kind_field, attr_bytes, attrs_bytes}
use Rattle.nl_attrs.specs.inner.Reading.{BeginsAttr}
use Rattle.nl_attrs.specs.declared.attr.Attr.{Attr}
use Rattle.nl_attrs.proofs.Places.{IsBytes, le16-u16_at, cut}

pub zeros_from_test : (bs : List ℕ) → is_zero bs ≡ true → bs ≡ replicate (length bs) 0
zeros_from_test [] e = refl
zeros_from_test (b ∷ bs) e =
    let both = and_parts (eqb b 0) (is_zero bs) e in
    let first : b ≡ 0 = eqb-true b 0 both.0 in
    let others = zeros_from_test bs both.1 in
    λ i. first i ∷ others i

pub test_of_zeros : (n : ℕ) → is_zero (replicate n 0) ≡ true
test_of_zeros zero = refl
test_of_zeros (suc n) = test_of_zeros n

-- the bytes of an attribute's parts are joined
four_parts : (b p q r s b1 b2 b3 b4 : List ℕ) → b ≡ p ++ b1 → b1 ≡ q ++ b2 → b2 ≡ r ++ b3 → b3 ≡ s ++ b4 → b ≡ (p ++ (q ++ (r ++ s))) ++ b4
four_parts b p q r s b1 b2 b3 b4 e1 e2 e3 e4 = rw (e1, e2, e3, e4) (simp append_assoc)

pub attr_taken : (b : List ℕ) (a : Attr) (n : ℕ) → IsBytes b → BeginsAttr b → n ≡ le16_at b 0 → kind_field a.kind a.nested ≡ le16_at b 2 → a.payload ≡ take (n - 4) (drop 4 b) → b ≡ attr_bytes a ++ drop (aligned n) b
unfolding attr_bytes
attr_taken b a n fits begins n-is kind-is payload-is =
    let header = begins.header in
    let long : 4 ≤ n = rw n-is begins.long in
    let within : aligned n ≤ length b = rw n-is begins.within in
    let len : length a.payload ≡ n - 4 = rw payload-is (omega (arith, length-take (n - 4) (drop 4 b), length-drop 4 b)) in
    let total : 4 + length a.payload ≡ le16_at b 0 = omega arith in
    let first : b ≡ le16 (4 + length a.payload) ++ drop 2 b = cut 2 0 b ∙ ap (λ (x : List ℕ). x ++ drop 2 b) (sym (ap le16 total ∙ le16-u16_at b 0 fits (omega arith))) in
    let second : drop 2 b ≡ le16 (kind_field a.kind a.nested) ++ drop 4 b = cut 2 2 b ∙ ap (λ (x : List ℕ). x ++ drop 4 b) (sym (ap le16 kind-is ∙ le16-u16_at b 2 fits (omega arith))) in
    let at_end : 4 + (n - 4) ≡ n = omega arith in
    let third : drop 4 b ≡ a.payload ++ drop n b = cut (n - 4) 4 b ∙ ap (λ (k : ℕ). take (n - 4) (drop 4 b) ++ drop k b) at_end ∙ ap (λ (x : List ℕ). x ++ drop n b) (sym payload-is) in
    let zero : is_zero (padding_at b n) ≡ true = rw n-is begins.zero in
    let pad_len : length (padding_at b n) ≡ padding_length (length a.payload) = omega (arith, length-take (padding_length n) (drop n b), length-drop n b) in
    let zeros : padding_at b n ≡ replicate (padding_length (length a.payload)) 0 = zeros_from_test (padding_at b n) zero ∙ ap (λ (k : ℕ). replicate k 0) pad_len in
    let up : n + padding_length n ≡ aligned n = omega arith in
    let fourth : drop n b ≡ replicate (padding_length (length a.payload)) 0 ++ drop (aligned n) b = cut (padding_length n) n b ∙ ap (λ (k : ℕ). padding_at b n ++ drop k b) up ∙ ap (λ (x : List ℕ). x ++ drop (aligned n) b) zeros in
    four_parts b _ _ _ _ (drop 2 b) (drop 4 b) (drop n b) (drop (aligned n) b) first second third fourth

kind_field_by : (field : ℕ) (nested : Bool) → field < 2 ^ 16 → bit14 field ≡ 0 → (nested ≡ true → 32768 ≤ field) → (nested ≡ false → field < 32768) → kind_field (field % 16384) nested ≡ field
kind_field_by field true fits bit set clear = let high = set refl in omega arith
kind_field_by field false fits bit set clear = let low = clear refl in omega arith

-- a kind's two parts give it back, where bit 14 isn't set
pub kind_field_of : (field : ℕ) → field < 2 ^ 16 → bit14 field ≡ 0 → kind_field (field % 16384) (leb 32768 field) ≡ field
kind_field_of field fits bit = kind_field_by field (leb 32768 field) fits bit (leb-true 32768 field) (leb-false 32768 field)

-- ---- a list that is read from its front

pub one_more : (bytes : List ℕ) (attrs : List Attr) (rest : List ℕ) (a : Attr) (after : List ℕ) → bytes ≡ attrs_bytes attrs ++ rest → rest ≡ attr_bytes a ++ after → bytes ≡ attrs_bytes (attrs ++ a ∷ []) ++ after
one_more bytes attrs rest a after joined parts =
    joined ∙ ap (λ (x : List ℕ). attrs_bytes attrs ++ x) parts ∙ sym (append_assoc (attrs_bytes attrs) (attr_bytes a) after) ∙ ap (λ (x : List ℕ). x ++ after) (flat_map_more attr_bytes [] attrs a)

-- nothing is left
pub at_end : (bytes : List ℕ) (attrs : List Attr) (rest : List ℕ) → bytes ≡ attrs_bytes attrs ++ rest → length rest ≡ 0 → bytes ≡ attrs_bytes attrs
at_end bytes attrs rest joined none =
    joined ∙ ap (λ (x : List ℕ). attrs_bytes attrs ++ x) (nil_from_length rest none) ∙ append-nil (attrs_bytes attrs)
