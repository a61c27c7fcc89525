-- Steps of the writing loops.
use Rattle.std.proofs.Common.{◌≡◌, ℕ, ◌+◌, ◌^◌, ◌<◌, ◌≤◌, List, [], ◌∷◌, ◌++◌, length, get_or, take, drop, All, refl, sym, ap, ◌∙◌, inl, inr, append_assoc, arith}
use Rattle.std.specs.Prelude.{ℤ, FitsSigned}
use Rattle.std.specs.Int.{w32, cast_unsigned}
use Rattle.std.proofs.lemmas.List.{length-append, append-nil, take-append-drop, drop_more, take_more}
use Rattle.std.proofs.lemmas.List.Concat.{flat_map-append}
use Rattle.nl_attrs.specs.Endian.{AreBytes, le32}
use Rattle.nl_attrs.specs.Attributes.{aligned, attr_bytes, attrs_bytes}
use Rattle.nl_attrs.specs.Overlong.{IsShort, IsFirstLong, IsEncodeFault}
use Rattle.nl_attrs.specs.inner.Reading.{HasBytes, IsTooBig}
use Rattle.nl_attrs.specs.inner.Heads.{IsHeadOf, headed_bytes}
use Rattle.nl_attrs.specs.Messages.{head_bytes, body_of, spelled, IsMsg}
use Rattle.nl_attrs.specs.declared.attr.Attr.{Attr}
use Rattle.nl_attrs.specs.declared.fault.EncodeFault.TheVariants.{Overlong}
use Rattle.nl_attrs.specs.declared.message.Head.{Head}
use Rattle.nl_attrs.specs.declared.message.Msg.{Msg}
use Rattle.nl_attrs.specs.declared.message.Msg.TheVariants.{Generic, Error, Done}
use Rattle.nl_attrs.proofs.Lengths.{length-le32, length-attr_bytes, length-spelled}

-- where the loop stops
pub first_long_at : (attrs : List Attr) (i : ℕ) (a : Attr) → i < length attrs → a ≡ get_or attrs i a → All IsShort (take i attrs) → 65531 < length a.payload → IsFirstLong attrs (length a.payload)
first_long_at attrs i a lt is short long =
    record {
      before = take i attrs;
      long = a;
      after = drop (i + 1) attrs;
      joined =
          sym (take-append-drop i attrs) ∙ ap (λ (xs : List Attr). take i attrs ++ xs) (drop_more attrs i a lt ∙ ap (λ (x : Attr). x ∷ drop (i + 1) attrs) (sym is));
      others = short;
      above = long;
      is = refl;
    }

pub length-attrs_more : (attrs : List Attr) (i : ℕ) (a : Attr) → i < length attrs → a ≡ get_or attrs i a → length (attrs_bytes (take (i + 1) attrs)) ≡ length (attrs_bytes (take i attrs)) + aligned (4 + length a.payload)
length-attrs_more attrs i a lt is =
    rw (take_more attrs i a lt, ← is, flat_map-append attr_bytes (take i attrs) (a ∷ []), length-append, append-nil, length-attr_bytes) refl

-- ---- whole messages

pub done_bytes : (flags seq pid : ℕ) (code : ℤ) → head_bytes 20 3 flags seq pid ++ le32 (cast_unsigned w32 code) ≡ spelled (Done flags seq pid code)
unfolding spelled
done_bytes flags seq pid code = rw length-le32 refl

pub error_bytes : (flags seq pid : ℕ) (code : ℤ) (head : List ℕ) → length head ≡ 16 → (head_bytes 36 2 flags seq pid ++ le32 (cast_unsigned w32 code)) ++ head ≡ spelled (Error flags seq pid code head)
unfolding spelled
error_bytes flags seq pid code head len = rw (append_assoc, length-append, length-le32, len) refl

pub done_is : (flags seq pid : ℕ) (code : ℤ) → flags < 2 ^ 16 → seq < 2 ^ 32 → pid < 2 ^ 32 → FitsSigned w32 code → IsMsg (Done flags seq pid code)
done_is flags seq pid code flags_fit seq_fits pid_fits code_fits =
    record {
      flags = flags_fit;
      seq = seq_fits;
      pid = pid_fits;
      body = code_fits;
      short = rw (length-spelled, length-le32) (omega arith);
    }

pub error_is : (flags seq pid : ℕ) (code : ℤ) (head : List ℕ) → flags < 2 ^ 16 → seq < 2 ^ 32 → pid < 2 ^ 32 → FitsSigned w32 code → length head ≡ 16 → AreBytes head → IsMsg (Error flags seq pid code head)
error_is flags seq pid code head flags_fit seq_fits pid_fits code_fits len bytes =
    record {
      flags = flags_fit;
      seq = seq_fits;
      pid = pid_fits;
      body = (code_fits, len, bytes);
      short = rw (length-spelled, length-append, length-le32, len) (omega arith);
    }

pub generic_is : (family flags seq pid cmd version : ℕ) (attrs : List Attr) → family < 2 ^ 16 → flags < 2 ^ 16 → seq < 2 ^ 32 → pid < 2 ^ 32 → (16 ≤ family) × All (λ a. a.kind < 16384) attrs → cmd < 256 → version < 256 → All IsShort attrs → All HasBytes attrs → 20 + length (attrs_bytes attrs) ≤ 65536
    → IsMsg (Generic family flags seq pid cmd version attrs)
generic_is family flags seq pid cmd version attrs family_fits flags_fit seq_fits pid_fits in_range cmd_fits version_fits short bytes few =
    record {
      flags = flags_fit;
      seq = seq_fits;
      pid = pid_fits;
      body =
          (in_range.0, family_fits, cmd_fits, version_fits, λ k d lt. record { kind = in_range.1 k d lt; short = short k d lt; bytes = bytes k d lt });
      short = rw length-spelled (omega (arith, few));
    }

-- a message of a family has 20 bytes before its attributes
pub too_big : (n : ℕ) (family flags seq pid cmd version : ℕ) (attrs : List Attr) → IsTooBig attrs n → IsEncodeFault (Generic family flags seq pid cmd version attrs) (Overlong n)
too_big n family flags seq pid cmd version attrs is =
    elim is [
      | inl long ↦ inl long
      | inr message ↦
          let bytes : length (spelled (Generic family flags seq pid cmd version attrs)) ≡ 20 + length (attrs_bytes attrs) = rw length-spelled (omega arith) in
          inr (message.0, rw bytes message.1)
    ]

-- the head and the body are the message
pub whole_written : (m : Msg) (head : Head) → IsHeadOf m head → headed_bytes head (body_of m) ≡ spelled m
unfolding spelled
whole_written m head is =
    rw (is.length_is, is.kind_is, is.flags_is, is.seq_is, is.pid_is, length-spelled m) refl

pub message_written : (m n : Msg) (head : Head) (out new body : List ℕ) → m ≡ n → IsHeadOf m head → new ≡ out ++ headed_bytes head body → body ≡ body_of n → new ≡ out ++ spelled m
message_written m n head out new body m-is is e body-is =
    let same : body ≡ body_of m = body-is ∙ ap body_of (sym m-is) in
    e ∙ ap (λ (x : List ℕ). out ++ headed_bytes head x) same ∙ ap (λ (x : List ℕ). out ++ x) (whole_written m head is)
