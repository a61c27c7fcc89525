-- What is spelled is bytes.
use Rattle.std.proofs.Common.{ℕ, ◌+◌, ◌<◌, List, [], ◌∷◌, ◌++◌, length, replicate, All, arith}
use Rattle.std.specs.Int.{w32, byte_at, cast_unsigned}
use Rattle.std.proofs.lemmas.List.Elements.{All-nil, All-cons, All-head, All-tail, All-append, All-replicate}
use Rattle.nl_attrs.specs.Endian.{AreBytes, le16, le32, le64}
use Rattle.nl_attrs.specs.Attributes.{IsAttr, padding_length, kind_field, attr_bytes, attrs_bytes}
use Rattle.nl_attrs.specs.Messages.{IsMsg, FitsBody, head_bytes, spelled, body_of, type_of, header_flags, seq_of, pid_of}
use Rattle.nl_attrs.specs.declared.attr.Attr.{Attr}
use Rattle.nl_attrs.specs.declared.message.Msg.{Msg}
use Rattle.nl_attrs.specs.declared.message.Msg.TheVariants.{Generic, Error, Done}

pub AreBytes-append : (xs ys : List ℕ) → AreBytes xs → AreBytes ys → AreBytes (xs ++ ys)
AreBytes-append xs ys = All-append (λ b. b < 256) xs ys

pub AreBytes-cons : (x : ℕ) (xs : List ℕ) → x < 256 → AreBytes xs → AreBytes (x ∷ xs)
AreBytes-cons x xs = All-cons (λ b. b < 256) x xs

pub AreBytes-le16 : (n : ℕ) → AreBytes (le16 n)
unfolding le16
AreBytes-le16 n = AreBytes-cons (byte_at 0 n) (byte_at 1 n ∷ []) (omega arith) (AreBytes-cons (byte_at 1 n) [] (omega arith) (All-nil (λ b. b < 256)))

pub AreBytes-le32 : (n : ℕ) → AreBytes (le32 n)
unfolding le32
AreBytes-le32 n =
    AreBytes-cons (byte_at 0 n) (byte_at 1 n ∷ byte_at 2 n ∷ byte_at 3 n ∷ []) (omega arith) (AreBytes-cons (byte_at 1 n) (byte_at 2 n ∷ byte_at 3 n ∷ []) (omega arith) (AreBytes-cons (byte_at 2 n) (byte_at 3 n ∷ []) (omega arith) (AreBytes-cons (byte_at 3 n) [] (omega arith) (All-nil (λ b. b < 256)))))

pub AreBytes-le64 : (n : ℕ) → AreBytes (le64 n)
unfolding le64
AreBytes-le64 n =
    let t7 : List ℕ = byte_at 7 n ∷ [] in
    let t6 : List ℕ = byte_at 6 n ∷ t7 in
    let t5 : List ℕ = byte_at 5 n ∷ t6 in
    let t4 : List ℕ = byte_at 4 n ∷ t5 in
    let t3 : List ℕ = byte_at 3 n ∷ t4 in
    let t2 : List ℕ = byte_at 2 n ∷ t3 in
    let t1 : List ℕ = byte_at 1 n ∷ t2 in
    let t0 : List ℕ = byte_at 0 n ∷ t1 in
    AreBytes-cons (byte_at 0 n) t1 (omega arith) (AreBytes-cons (byte_at 1 n) t2 (omega arith) (AreBytes-cons (byte_at 2 n) t3 (omega arith) (AreBytes-cons (byte_at 3 n) t4 (omega arith) (AreBytes-cons (byte_at 4 n) t5 (omega arith) (AreBytes-cons (byte_at 5 n) t6 (omega arith) (AreBytes-cons (byte_at 6 n) t7 (omega arith) (AreBytes-cons (byte_at 7 n) [] (omega arith) (All-nil (λ b. b < 256)))))))))

pub AreBytes-attr : (a : Attr) → IsAttr a → AreBytes (attr_bytes a)
unfolding attr_bytes
AreBytes-attr a is =
    let zeros : List ℕ = replicate (padding_length (length a.payload)) 0 in
    let field : List ℕ = le16 (kind_field a.kind a.nested) in
    AreBytes-append (le16 (4 + length a.payload)) (field ++ (a.payload ++ zeros)) (AreBytes-le16 (4 + length a.payload)) (AreBytes-append field (a.payload ++ zeros) (AreBytes-le16 (kind_field a.kind a.nested)) (AreBytes-append a.payload zeros is.bytes (All-replicate (λ b. b < 256) (padding_length (length a.payload)) 0 (omega arith))))

pub AreBytes-attrs : (attrs : List Attr) → All IsAttr attrs → AreBytes (attrs_bytes attrs)
AreBytes-attrs [] each = All-nil (λ b. b < 256)
AreBytes-attrs (a ∷ attrs) each =
    AreBytes-append (attr_bytes a) (attrs_bytes attrs) (AreBytes-attr a (All-head IsAttr a attrs each)) (AreBytes-attrs attrs (All-tail IsAttr a attrs each))

AreBytes-body : (m : Msg) → FitsBody m → AreBytes (body_of m)
AreBytes-body (Generic family flags seq pid cmd version attrs) fits =
    let rest : List ℕ = attrs_bytes attrs in
    AreBytes-cons cmd (version ∷ 0 ∷ 0 ∷ rest) fits.2 (AreBytes-cons version (0 ∷ 0 ∷ rest) fits.3 (AreBytes-cons 0 (0 ∷ rest) (omega arith) (AreBytes-cons 0 rest (omega arith) (AreBytes-attrs attrs fits.4))))
AreBytes-body (Error flags seq pid code head) fits =
    AreBytes-append (le32 (cast_unsigned w32 code)) head (AreBytes-le32 (cast_unsigned w32 code)) fits.2
AreBytes-body (Done flags seq pid code) fits = AreBytes-le32 (cast_unsigned w32 code)

AreBytes-head : (len kind flags seq pid : ℕ) → AreBytes (head_bytes len kind flags seq pid)
unfolding head_bytes
AreBytes-head len kind flags seq pid =
    let ends : List ℕ = le32 seq ++ le32 pid in
    AreBytes-append (le32 len) (le16 kind ++ (le16 flags ++ ends)) (AreBytes-le32 len) (AreBytes-append (le16 kind) (le16 flags ++ ends) (AreBytes-le16 kind) (AreBytes-append (le16 flags) ends (AreBytes-le16 flags) (AreBytes-append (le32 seq) (le32 pid) (AreBytes-le32 seq) (AreBytes-le32 pid))))

pub AreBytes-msg : (m : Msg) → IsMsg m → AreBytes (spelled m)
unfolding spelled
AreBytes-msg m is =
    AreBytes-append (head_bytes (16 + length (body_of m)) (type_of m) (header_flags m) (seq_of m) (pid_of m)) (body_of m) (AreBytes-head (16 + length (body_of m)) (type_of m) (header_flags m) (seq_of m) (pid_of m)) (AreBytes-body m is.body)
