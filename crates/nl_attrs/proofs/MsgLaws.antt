-- A message's spelling is whole and shows no fault.
use Rattle.std.proofs.Common.{◌≡◌, ℕ, ◌+◌, ◌%◌, ◌≤◌, false, leb, List, [], ◌∷◌, ◌++◌, length, None, refl, sym, ap, ◌∙◌, arith}
use Rattle.std.specs.Int.{w32, cast_unsigned}
use Rattle.std.proofs.lemmas.Bool.{eq-eqb, ne_eqb, le-ltb, and_right}
use Rattle.std.proofs.lemmas.List.{append-nil, length-append, take_at, drop_at}
use Rattle.nl_attrs.specs.Endian.{le32, le16_at, le32_at}
use Rattle.nl_attrs.specs.Attributes.{attr_bytes, attrs_bytes}
use Rattle.nl_attrs.specs.Faults.{length_fault, type_fault, length_at, type_at, body_at}
use Rattle.nl_attrs.specs.inner.Reading.{IsGoodHead}
use Rattle.nl_attrs.specs.Messages.{IsMsg, FitsBody, head_bytes, spelled, body_of, type_of, header_flags, seq_of, pid_of}
use Rattle.nl_attrs.specs.declared.attr.Attr.{Attr}
use Rattle.nl_attrs.specs.declared.message.Msg.{Msg}
use Rattle.nl_attrs.specs.declared.message.Msg.TheVariants.{Generic, Error, Done}
use Rattle.nl_attrs.proofs.Lengths.{length-le32, length-attr_bytes, length-head_bytes, length-spelled}
use Rattle.nl_attrs.proofs.Places.{u16_at-le16, u32_at-le32}
use Rattle.nl_attrs.proofs.MsgApart.{FitsHead-msg, head_regrouped, msg_regrouped}

-- attributes fill whole words
attrs_words : (attrs : List Attr) → length (attrs_bytes attrs) % 4 ≡ 0
attrs_words [] = refl
attrs_words (a ∷ attrs) =
    omega (arith, attrs_words attrs, length-append (attr_bytes a) (attrs_bytes attrs), length-attr_bytes a)

-- at least four bytes, and whole words
body_words : (m : Msg) → FitsBody m → (4 ≤ length (body_of m)) × (length (body_of m) % 4 ≡ 0)
body_words (Generic family flags seq pid cmd version attrs) fits =
    let words = attrs_words attrs in
    (omega arith, omega arith)
body_words (Error flags seq pid code head) fits =
    let len = length-append (le32 (cast_unsigned w32 code)) head in
    let sixteen = fits.1 in
    (omega (arith, len, length-le32), omega (arith, len, length-le32))
body_words (Done flags seq pid code) fits = (omega (arith, length-le32), omega (arith, length-le32))

pub no_length_fault : (n : ℕ) → 20 ≤ n → n % 4 ≡ 0 → n ≤ 65536 → length_fault n ≡ None
unfolding length_fault
no_length_fault n long words short = rw (le-ltb n 20 long, eq-eqb (n % 4) 0 words, le-ltb 65536 n short) refl

family_no_fault : (n k : ℕ) → 16 ≤ k → type_fault n k ≡ None
unfolding type_fault
family_no_fault n k high =
    rw (ne_eqb k 2 (λ e. omega arith), ne_eqb k 3 (λ e. omega arith), le-ltb k 2 (omega arith), le-ltb k 16 high, and_right (leb 4 k) false refl) refl

error_no_fault : type_fault 36 2 ≡ None
unfolding type_fault
error_no_fault = refl

done_no_fault : type_fault 20 3 ≡ None
unfolding type_fault
done_no_fault = refl

no_type_fault : (m : Msg) → FitsBody m → type_fault (16 + length (body_of m)) (type_of m) ≡ None
no_type_fault (Generic family flags seq pid cmd version attrs) fits =
    family_no_fault (16 + length (body_of (Generic family flags seq pid cmd version attrs))) family fits.0
no_type_fault (Error flags seq pid code head) fits =
    let sixteen = fits.1 in
    let len : 16 + length (body_of (Error flags seq pid code head)) ≡ 36 = omega (arith, length-append (le32 (cast_unsigned w32 code)) head, length-le32) in
    ap (λ (n : ℕ). type_fault n 2) len ∙ error_no_fault
no_type_fault (Done flags seq pid code) fits =
    let len : 16 + length (body_of (Done flags seq pid code)) ≡ 20 = omega (arith, length-le32) in
    ap (λ (n : ℕ). type_fault n 3) len ∙ done_no_fault

pub length_at-msg : (m : Msg) (r : List ℕ) → IsMsg m → length_at (spelled m ++ r) ≡ length (spelled m)
length_at-msg m r is =
    let fits = FitsHead-msg m is in
    ap (λ (b : List ℕ). le32_at b 0) (msg_regrouped m r ∙ head_regrouped _ _ _ _ _ (body_of m ++ r)) ∙ u32_at-le32 (16 + length (body_of m)) _ fits.len_fits ∙ sym (length-spelled m)

pub type_at-msg : (m : Msg) (r : List ℕ) → IsMsg m → type_at (spelled m ++ r) ≡ type_of m
type_at-msg m r is =
    let fits = FitsHead-msg m is in
    ap (λ (b : List ℕ). le16_at b 4) (msg_regrouped m r ∙ head_regrouped _ _ _ _ _ (body_of m ++ r)) ∙ u16_at-le16 (le32 (16 + length (body_of m))) (type_of m) _ 4 (length-le32 (16 + length (body_of m))) fits.kind_fits

pub body_at-msg : (m : Msg) (r : List ℕ) → IsMsg m → body_at (spelled m ++ r) ≡ body_of m
unfolding spelled
body_at-msg m r is =
    rw (length_at-msg m r is, take_at (spelled m) r (length (spelled m)) refl, drop_at (head_bytes (16 + length (body_of m)) (type_of m) (header_flags m) (seq_of m) (pid_of m)) (body_of m) 16 (length-head_bytes _ _ _ _ _)) refl

pub good-msg : (m : Msg) (r : List ℕ) → IsMsg m → IsGoodHead (length_at (spelled m ++ r)) (type_at (spelled m ++ r))
good-msg m r is =
    let words = body_words m is.body in
    let four = words.0 in
    let whole = words.1 in
    let len = length-spelled m in
    rw (length_at-msg m r is, type_at-msg m r is) (record {
      good_length = no_length_fault (length (spelled m)) (omega arith) (omega arith) is.short;
      good_type = rw len (no_type_fault m is.body);
    })

pub length-msg : (m : Msg) → IsMsg m → 20 ≤ length (spelled m)
length-msg m is = let four = (body_words m is.body).0 in omega (arith, length-spelled m)

pub words-msg : (m : Msg) → IsMsg m → length (spelled m) % 4 ≡ 0
words-msg m is = let whole = (body_words m is.body).1 in omega (arith, length-spelled m)

pub length_stated : (m : Msg) → IsMsg m → length_at (spelled m) ≡ length (spelled m)
length_stated m is =
    ap (λ (b : List ℕ). length_at b) (sym (append-nil (spelled m))) ∙ length_at-msg m [] is
