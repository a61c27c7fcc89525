-- How long the pieces are.
use Rattle.std.proofs.Common.{◌≡◌, ℕ, ◌+◌, length, refl, arith}
use Rattle.std.proofs.lemmas.List.{length-append, length-replicate}
use Rattle.nl_attrs.specs.Endian.{le16, le32, le64}
use Rattle.nl_attrs.specs.Attributes.{aligned, attr_bytes}
use Rattle.nl_attrs.specs.Messages.{head_bytes, spelled, body_of}
use Rattle.nl_attrs.specs.declared.attr.Attr.{Attr}
use Rattle.nl_attrs.specs.declared.message.Msg.{Msg}

pub length-le16 : (n : ℕ) → length (le16 n) ≡ 2
unfolding le16
length-le16 n = refl

pub length-le32 : (n : ℕ) → length (le32 n) ≡ 4
unfolding le32
length-le32 n = refl

pub length-le64 : (n : ℕ) → length (le64 n) ≡ 8
unfolding le64
length-le64 n = refl

pub length-attr_bytes : (a : Attr) → length (attr_bytes a) ≡ aligned (4 + length a.payload)
unfolding attr_bytes
length-attr_bytes a = simp (length-append, length-le16, length-replicate) (omega arith)

pub length-head_bytes : (len kind flags seq pid : ℕ) → length (head_bytes len kind flags seq pid) ≡ 16
unfolding head_bytes
length-head_bytes len kind flags seq pid = simp (length-append, length-le16, length-le32) (omega arith)

pub length-spelled : (m : Msg) → length (spelled m) ≡ 16 + length (body_of m)
unfolding spelled
length-spelled m =
    simp (length-append, length-head_bytes) (omega arith)
