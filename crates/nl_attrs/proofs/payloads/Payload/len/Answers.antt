use Rattle.std.proofs.Common.{◌<◌, [], ◌∷◌, sym, arith}
use Rattle.std.proofs.lemmas.List.Elements.{All-nil}
use Rattle.nl_attrs.proofs.Lengths.{length-le16, length-le32, length-le64}
use Rattle.nl_attrs.proofs.ByteLaws.{AreBytes-append, AreBytes-cons, AreBytes-le16, AreBytes-le32, AreBytes-le64}
use Rattle.nl_attrs.proofs.payloads.Payload.len.Goals as goal

pub returns-in-U16-clause-len : goal.returns-in-U16-clause-len
returns-in-U16-clause-len c = rw c.in-U16.is (sym (length-le16 _))

pub returns-in-U16-clause-bytes : goal.returns-in-U16-clause-bytes
returns-in-U16-clause-bytes c = rw c.in-U16.is (AreBytes-le16 _)

pub returns-in-U32-clause-len : goal.returns-in-U32-clause-len
returns-in-U32-clause-len c = rw c.in-U32.is (sym (length-le32 _))

pub returns-in-U32-clause-bytes : goal.returns-in-U32-clause-bytes
returns-in-U32-clause-bytes c = rw c.in-U32.is (AreBytes-le32 _)

pub returns-in-U64-clause-len : goal.returns-in-U64-clause-len
returns-in-U64-clause-len c = rw c.in-U64.is (sym (length-le64 _))

pub returns-in-U64-clause-bytes : goal.returns-in-U64-clause-bytes
returns-in-U64-clause-bytes c = rw c.in-U64.is (AreBytes-le64 _)

pub returns-in-I32-clause-len : goal.returns-in-I32-clause-len
returns-in-I32-clause-len c = rw c.in-I32.is (sym (length-le32 _))

pub returns-in-I32-clause-bytes : goal.returns-in-I32-clause-bytes
returns-in-I32-clause-bytes c = rw c.in-I32.is (AreBytes-le32 _)

pub returns-in-Text-clause-bytes : goal.returns-in-Text-clause-bytes
returns-in-Text-clause-bytes c =
    rw c.in-Text.is (AreBytes-append c.in-Text.text.now (0 ∷ []) c.byte_count.ensures.bytes (AreBytes-cons 0 [] (omega arith) (All-nil (λ b. b < 256))))
