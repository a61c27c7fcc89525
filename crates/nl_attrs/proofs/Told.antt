-- All bytes are attributes, or have a first breach.
use Rattle.std.proofs.Common.{◌≡◌, ℕ, zero, suc, ◌-◌, ◌%◌, ◌<◌, ◌≤◌, ◌⊎◌, Bool, true, false, leb, List, [], ◌∷◌, ◌++◌, length, take, drop, refl, sym, ap, ◌∙◌, inl, inr, append_assoc, arith}
use Rattle.std.proofs.lemmas.Bool.{cases_lt}
use Rattle.std.proofs.lemmas.List.{length-append, length-take}
use Rattle.std.proofs.lemmas.List.Elements.{All-nil, All-cons, All-take, All-drop}
use Rattle.nl_attrs.specs.Endian.{AreBytes, le16_at}
use Rattle.nl_attrs.specs.Attributes.{IsAttr, IsBroken, HasAttrs, HasBreach, aligned, padding_at, is_zero, bit14, attr_bytes, attrs_bytes}
use Rattle.nl_attrs.specs.inner.Reading.{BeginsAttr}
use Rattle.nl_attrs.specs.declared.attr.Attr.{Attr}
use Rattle.nl_attrs.proofs.Places.{bytes_at, u16_at-lt}
use Rattle.nl_attrs.proofs.Lengths.{length-attr_bytes}
use Rattle.nl_attrs.proofs.Taken.{attr_taken, kind_field_of}

by_padding : (b : List ℕ) (zeros : Bool) → is_zero (padding_at b (le16_at b 0)) ≡ zeros → 4 ≤ length b → 4 ≤ le16_at b 0 → aligned (le16_at b 0) ≤ length b → bit14 (le16_at b 2) ≡ 0 → BeginsAttr b ⊎ IsBroken b
by_padding b true e header long within bit = inl (record { header = header; long = long; within = within; bit = bit; zero = e })
by_padding b false e header long within bit = inr (inr (inr (inr (inr e))))

by_bit : (b : List ℕ) → 4 ≤ length b → 4 ≤ le16_at b 0 → aligned (le16_at b 0) ≤ length b → BeginsAttr b ⊎ IsBroken b
by_bit b header long within =
    elim (cases_lt (bit14 (le16_at b 2)) 1) [
      | inl clear ↦ by_padding b (is_zero (padding_at b (le16_at b 0))) refl header long within (omega arith)
      | inr set ↦ inr (inr (inr (inr (inl (omega arith)))))
    ]

-- an attribute stands at the front, or none
pub attr_or_broken : (b : List ℕ) → BeginsAttr b ⊎ IsBroken b
attr_or_broken b =
    elim (cases_lt (length b) 4) [
      | inl short ↦ inr (inl short)
      | inr header ↦
          elim (cases_lt (le16_at b 0) 4) [
            | inl below ↦ inr (inr (inl below))
            | inr long ↦
                elim (cases_lt (length b) (aligned (le16_at b 0))) [
                  | inl past ↦ inr (inr (inr (inl past)))
                  | inr within ↦ by_bit b header long within
                ]
          ]
    ]

-- the attribute that was read from the front
pub IsAttr-front : (b : List ℕ) (a : Attr) (n : ℕ) → AreBytes b → n ≡ le16_at b 0 → a.kind ≡ le16_at b 2 % 16384 → a.payload ≡ take (n - 4) (drop 4 b) → IsAttr a
IsAttr-front b a n fits n-is kind-is payload-is =
    let lt = u16_at-lt b 0 (bytes_at b fits) in
    record {
      kind = omega arith;
      short = rw payload-is (omega (arith, length-take (n - 4) (drop 4 b)));
      bytes = rw payload-is (All-take (λ x. x < 256) (n - 4) (drop 4 b) (All-drop (λ x. x < 256) 4 b fits));
    }

-- an attribute at the front of bytes, and what stands behind it
record Front (b : List ℕ) : Type 0 where
  attr : Attr
  rest : List ℕ
  is : IsAttr attr
  parts : b ≡ attr_bytes attr ++ rest
  bytes : AreBytes rest

front : (b : List ℕ) → AreBytes b → BeginsAttr b → Front b
front b fits begins =
    let a : Attr = record { kind = le16_at b 2 % 16384; nested = leb 32768 (le16_at b 2); payload = take (le16_at b 0 - 4) (drop 4 b) } in
    record {
      attr = a;
      rest = drop (aligned (le16_at b 0)) b;
      is = IsAttr-front b a (le16_at b 0) fits refl refl refl;
      parts = attr_taken b a (le16_at b 0) (bytes_at b fits) begins refl (kind_field_of (le16_at b 2) (u16_at-lt b 2 (bytes_at b fits)) begins.bit) refl;
      bytes = All-drop (λ x. x < 256) (aligned (le16_at b 0)) b fits;
    }

-- one attribute more at the front
more_attrs : (b : List ℕ) (f : Front b) → HasAttrs f.rest → HasAttrs b
more_attrs b f has =
    (f.attr ∷ has.0, All-cons IsAttr f.attr has.0 f.is has.1, f.parts ∙ ap (λ (x : List ℕ). attr_bytes f.attr ++ x) has.2)

more_before : (b : List ℕ) (f : Front b) → HasBreach f.rest → HasBreach b
more_before b f has =
    let breach = has.1 in (
      length (attrs_bytes (f.attr ∷ breach.before)),
      record {
        before = f.attr ∷ breach.before;
        rest = breach.rest;
        joined =
            f.parts ∙ ap (λ (x : List ℕ). attr_bytes f.attr ++ x) breach.joined ∙ sym (append_assoc (attr_bytes f.attr) (attrs_bytes breach.before) breach.rest);
        each = All-cons IsAttr f.attr breach.before f.is breach.each;
        here = refl;
        left = breach.left;
        broken = breach.broken;
      },
    )

at_once : (x : ℕ) (b : List ℕ) → IsBroken (x ∷ b) → HasBreach (x ∷ b)
at_once x b broken = (
  0,
  record {
    before = [];
    rest = x ∷ b;
    joined = refl;
    each = All-nil IsAttr;
    here = refl;
    left = omega arith;
    broken = broken;
  },
)

told : (n : ℕ) (b : List ℕ) → length b ≤ n → AreBytes b → HasAttrs b ⊎ HasBreach b
told n [] few fits = inl ([], All-nil IsAttr, refl)
told zero (x ∷ b) few fits = absurd (omega arith)
told (suc n) (x ∷ b) few fits =
    elim (attr_or_broken (x ∷ b)) [
      | inl begins ↦
          (let f = front (x ∷ b) fits begins in
          let less : length f.rest ≤ n = omega (arith, ap length f.parts, length-append (attr_bytes f.attr) f.rest, length-attr_bytes f.attr) in
          elim (told n f.rest less f.bytes) [
            | inl has ↦ inl (more_attrs (x ∷ b) f has)
            | inr breach ↦ inr (more_before (x ∷ b) f breach)
          ])
      | inr broken ↦ inr (at_once x b broken)
    ]

pub attrs_told : (b : List ℕ) → AreBytes b → HasAttrs b ⊎ HasBreach b
attrs_told b fits = told (length b) b (omega arith) fits
