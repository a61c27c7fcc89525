-- The first 16 bytes of a message are its head.
use Rattle.std.proofs.Common.{◌≡◌, ℕ, ◌+◌, ◌≤◌, List, [], ◌∷◌, length, take, All, refl, sym, ap, ◌∙◌, arith}
use Rattle.std.specs.Prelude.{ℤ}
use Rattle.std.proofs.lemmas.List.{length-append, take_at}
use Rattle.std.proofs.lemmas.List.Elements.{All-nil, All-cons}
use Rattle.nl_attrs.specs.Attributes.{attr_bytes, attrs_bytes}
use Rattle.nl_attrs.specs.Messages.{head_bytes, spelled, body_of, type_of, header_flags, seq_of, pid_of}
use Rattle.nl_attrs.specs.Overlong.{IsShort}
use Rattle.nl_attrs.specs.declared.attr.Attr.{Attr}
use Rattle.nl_attrs.specs.declared.message.Msg.{Msg}
use Rattle.nl_attrs.specs.declared.message.Msg.TheVariants.{Generic, Error, Done}
use Rattle.nl_attrs.specs.inner.Heads.{IsHeadOf}
use Rattle.nl_attrs.specs.inner.Reading.{IsntLong}
use Rattle.nl_attrs.proofs.Lengths.{length-le32, length-attr_bytes, length-head_bytes, length-spelled}

-- attributes that fit a message are short
pub short_each : (attrs : List Attr) → length (attrs_bytes attrs) ≤ 65516 → All IsShort attrs
short_each [] few = All-nil IsShort
short_each (a ∷ attrs) few =
    let bytes = length-append (attr_bytes a) (attrs_bytes attrs) in
    let first = length-attr_bytes a in
    All-cons IsShort a attrs (omega arith) (short_each attrs (omega arith))

pub length-generic : (family flags seq pid cmd version : ℕ) (attrs : List Attr) → length (spelled (Generic family flags seq pid cmd version attrs)) ≡ 20 + length (attrs_bytes attrs)
length-generic family flags seq pid cmd version attrs =
    length-spelled (Generic family flags seq pid cmd version attrs) ∙ omega arith

pub head-front : (m : Msg) → take 16 (spelled m) ≡ head_bytes (length (spelled m)) (type_of m) (header_flags m) (seq_of m) (pid_of m)
unfolding spelled
head-front m =
    take_at (head_bytes (16 + length (body_of m)) (type_of m) (header_flags m) (seq_of m) (pid_of m)) (body_of m) 16 (length-head_bytes _ _ _ _ _) ∙ ap (λ (n : ℕ). head_bytes n (type_of m) (header_flags m) (seq_of m) (pid_of m)) (sym (length-spelled m))

-- ---- the fields of each kind of message

pub isnt_long : (m : Msg) → length (spelled m) ≤ 65536 → IsntLong m
isnt_long (Generic family flags seq pid cmd version attrs) few =
    let len = length-generic family flags seq pid cmd version attrs in
    omega arith
isnt_long (Error flags seq pid code head) few = tt
isnt_long (Done flags seq pid code) few = tt

pub generic_head : (family flags seq pid cmd version n : ℕ) (attrs : List Attr) → n ≡ length (attrs_bytes attrs) → IsHeadOf (Generic family flags seq pid cmd version attrs) (record { length = 20 + n; kind = family; flags = flags; seq = seq; pid = pid })
generic_head family flags seq pid cmd version n attrs is =
    record {
      length_is =
          ap (λ (k : ℕ). 20 + k) is ∙ sym (length-generic family flags seq pid cmd version attrs);
      kind_is = refl;
      flags_is = refl;
      seq_is = refl;
      pid_is = refl;
    }

pub error_head : (flags seq pid n : ℕ) (code : ℤ) (head : List ℕ) → n ≡ length head → IsHeadOf (Error flags seq pid code head) (record { length = 20 + n; kind = 2; flags = flags; seq = seq; pid = pid })
error_head flags seq pid n code head is =
    record {
      length_is =
          rw (length-spelled, length-append, length-le32) (omega arith);
      kind_is = refl;
      flags_is = refl;
      seq_is = refl;
      pid_is = refl;
    }

pub done_head : (flags seq pid : ℕ) (code : ℤ) → IsHeadOf (Done flags seq pid code) (record { length = 20; kind = 3; flags = flags; seq = seq; pid = pid })
done_head flags seq pid code =
    record {
      length_is = rw (length-spelled, length-le32) refl;
      kind_is = refl;
      flags_is = refl;
      seq_is = refl;
      pid_is = refl;
    }
