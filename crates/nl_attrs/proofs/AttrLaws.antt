-- What is an attribute's spelling is no breach, and a list of attributes is read in one way.
use Rattle.std.proofs.Common.{◌≡◌, ℕ, ◌+◌, ◌<◌, Bool, true, false, List, [], ◌++◌, length, take, replicate, All, refl, sym, ap, subst, ◌∙◌, inl, inr, append_assoc, arith, ◌∷◌}
use Rattle.std.proofs.lemmas.List.{append-nil, length-append, length-replicate, take_at, drop_at}
use Rattle.std.proofs.lemmas.List.Elements.{recursion_from_All, All-head}
use Rattle.nl_attrs.specs.Endian.{le16, le16_at}
use Rattle.nl_attrs.specs.Attributes.{IsAttr, IsBroken, IsFirstBreach, aligned, padding_length, padding_at, bit14, kind_field, attr_bytes, attrs_bytes}
use Rattle.nl_attrs.specs.inner.Reading.{BeginsAttr}
use Rattle.nl_attrs.specs.declared.attr.Attr.{Attr}
use Rattle.nl_attrs.proofs.Lengths.{length-le16, length-attr_bytes}
use Rattle.nl_attrs.proofs.Places.{u16_at-le16}
use Rattle.nl_attrs.proofs.Taken.{test_of_zeros}
use Rattle.nl_attrs.proofs.Apart.{attr_regrouped, kind_field-lt, attr-apart}
use Rattle.nl_attrs.proofs.OneReading.{Stops, one_reading}

bit14-kind_field : (k : ℕ) (nested : Bool) → k < 16384 → bit14 (kind_field k nested) ≡ 0
bit14-kind_field k true lt = omega arith
bit14-kind_field k false lt = omega arith

length_at-attr : (a : Attr) (r : List ℕ) → IsAttr a → le16_at (attr_bytes a ++ r) 0 ≡ 4 + length a.payload
length_at-attr a r fits =
    let short = fits.short in
    ap (λ (b : List ℕ). le16_at b 0) (attr_regrouped a r) ∙ u16_at-le16 [] (4 + length a.payload) _ 0 refl (omega arith)

kind_at-attr : (a : Attr) (r : List ℕ) → IsAttr a → le16_at (attr_bytes a ++ r) 2 ≡ kind_field a.kind a.nested
kind_at-attr a r fits =
    ap (λ (b : List ℕ). le16_at b 2) (attr_regrouped a r) ∙ u16_at-le16 (le16 (4 + length a.payload)) (kind_field a.kind a.nested) _ 2 (length-le16 (4 + length a.payload)) (kind_field-lt a.kind a.nested fits.kind)

-- the padding stands behind the header and the payload
padding-attr : (a : Attr) (r : List ℕ) → padding_at (attr_bytes a ++ r) (4 + length a.payload) ≡ replicate (padding_length (length a.payload)) 0
unfolding attr_bytes
padding-attr a r =
    let front : List ℕ = le16 (4 + length a.payload) ++ (le16 (kind_field a.kind a.nested) ++ a.payload) in
    let zeros : List ℕ = replicate (padding_length (length a.payload)) 0 in
    let grouped : attr_bytes a ++ r ≡ front ++ (zeros ++ r) = simp append_assoc in
    let front_len : length front ≡ 4 + length a.payload = simp (length-append, length-le16) (omega arith) in
    let count : length zeros ≡ padding_length (4 + length a.payload) = rw length-replicate (omega arith) in
    ap (λ (b : List ℕ). padding_at b (4 + length a.payload)) grouped ∙ ap (take (padding_length (4 + length a.payload))) (drop_at front (zeros ++ r) (4 + length a.payload) front_len) ∙ take_at zeros r (padding_length (4 + length a.payload)) count

pub begins-attr : (a : Attr) (r : List ℕ) → IsAttr a → BeginsAttr (attr_bytes a ++ r)
begins-attr a r fits =
    let len = length_at-attr a r fits in
    let bytes : length (attr_bytes a ++ r) ≡ aligned (4 + length a.payload) + length r = rw (length-append, length-attr_bytes) refl in
    record {
      header = omega (arith, bytes);
      long = rw len (omega arith);
      within = rw (len, bytes) (omega arith);
      bit = rw (kind_at-attr a r fits) (bit14-kind_field a.kind a.nested fits.kind);
      zero = rw (len, padding-attr a r) (test_of_zeros (padding_length (length a.payload)));
    }

pub never_both : (b : List ℕ) → BeginsAttr b → IsBroken b → ⊥
never_both b begins broken =
    let header = begins.header in
    let long = begins.long in
    let within = begins.within in
    let bit = begins.bit in
    let zero = begins.zero in
    elim broken [
      | inl short ↦ omega arith
      | inr (inl below) ↦ omega arith
      | inr (inr (inl past)) ↦ omega arith
      | inr (inr (inr (inl set))) ↦ omega arith
      | inr (inr (inr (inr dirty))) ↦ cc
    ]

-- no attribute begins at a breach, or where nothing is left
pub broken-stops : (b : List ℕ) → IsBroken b → Stops attr_bytes IsAttr b
broken-stops b broken a t fits e =
    never_both (attr_bytes a ++ t) (begins-attr a t fits) (let P : List ℕ → Type 0 = IsBroken in subst P e broken)

pub nil-stops : Stops attr_bytes IsAttr []
nil-stops a t fits e =
    absurd (omega (arith, ap length e, length-append (attr_bytes a) t, length-attr_bytes a))

pub one_list : (xs ys : List Attr) → All IsAttr xs → All IsAttr ys → attrs_bytes xs ≡ attrs_bytes ys → xs ≡ ys
one_list xs ys fit_xs fit_ys e =
    (one_reading attr_bytes IsAttr attr-apart xs ys [] [] (recursion_from_All IsAttr xs fit_xs) (recursion_from_All IsAttr ys fit_ys) nil-stops nil-stops (append-nil (attrs_bytes xs) ∙ e ∙ sym (append-nil (attrs_bytes ys)))).0

-- where a list is spelled there is no breach
pub no_breach : (bytes : List ℕ) (place : ℕ) (attrs : List Attr) → IsFirstBreach bytes place → All IsAttr attrs → bytes ≡ attrs_bytes attrs → ⊥
no_breach bytes place attrs breach fit e =
    let same = one_reading attr_bytes IsAttr attr-apart attrs breach.before [] breach.rest (recursion_from_All IsAttr attrs fit) (recursion_from_All IsAttr breach.before breach.each) nil-stops (broken-stops breach.rest breach.broken) (append-nil (attrs_bytes attrs) ∙ sym e ∙ breach.joined) in
    omega (arith, breach.left, ap length same.1)

-- the first breach has one place
pub one_place : (bytes : List ℕ) (j k : ℕ) → IsFirstBreach bytes j → IsFirstBreach bytes k → j ≡ k
one_place bytes j k one other =
    let same = one_reading attr_bytes IsAttr attr-apart one.before other.before one.rest other.rest (recursion_from_All IsAttr one.before one.each) (recursion_from_All IsAttr other.before other.each) (broken-stops one.rest one.broken) (broken-stops other.rest other.broken) (sym one.joined ∙ other.joined) in
    one.here ∙ ap (λ (xs : List Attr). length (attrs_bytes xs)) same.0 ∙ sym other.here

-- what attributes were read from, up to one more, begins with an attribute
begins_before : (payload : List ℕ) (attrs : List Attr) (rest : List ℕ) → payload ≡ attrs_bytes attrs ++ rest → All IsAttr attrs → BeginsAttr rest → BeginsAttr payload
begins_before payload [] rest joined each begins = let P : List ℕ → Type 0 = BeginsAttr in subst P (sym joined) begins
begins_before payload (a ∷ attrs) rest joined each begins =
    let P : List ℕ → Type 0 = BeginsAttr in
    subst P (sym (joined ∙ append_assoc (attr_bytes a) (attrs_bytes attrs) rest)) (begins-attr a (attrs_bytes attrs ++ rest) (All-head IsAttr a attrs each))

pub memory_wanted : (payload : List ℕ) (attrs : List Attr) (a : Attr) (rest more : List ℕ) → payload ≡ attrs_bytes attrs ++ rest → All IsAttr attrs → IsAttr a → rest ≡ attr_bytes a ++ more → (0 < length payload) × (IsBroken payload → ⊥)
memory_wanted payload attrs a rest more joined each is parts =
    let begins : BeginsAttr rest = let P : List ℕ → Type 0 = BeginsAttr in subst P (sym parts) (begins-attr a more is) in
    let front = begins_before payload attrs rest joined each begins in
    let header = front.header in
    (omega arith, never_both payload front)
