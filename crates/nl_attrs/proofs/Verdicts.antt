-- At the front of bytes is what is undecided, a message or a fault, and each stream has its messages.
use Rattle.std.proofs.Common.{◌≡◌, ℕ, zero, suc, ◌+◌, ◌<◌, ◌≤◌, ◌⊎◌, List, [], ◌∷◌, ◌++◌, length, take, drop, All, Option, Some, None, refl, sym, ap, subst, ◌∙◌, inl, inr, append_assoc, arith}
use Rattle.std.specs.Prelude.{ℤ, MatchOption}
use Rattle.std.specs.Int.{w32, cast_signed}
use Rattle.std.proofs.lemmas.Bool.{cases_lt, cases_eq}
use Rattle.std.proofs.lemmas.List.{length-append, length-take, length-drop, take-append-drop, drop_at}
use Rattle.std.proofs.lemmas.List.Elements.{All-nil, All-cons, All-head, All-tail, All-append, All-take, All-drop}
use Rattle.nl_attrs.specs.Endian.{AreBytes, le16_at, le32_at}
use Rattle.nl_attrs.specs.Messages.{IsMsg, head_bytes, spelled, all_spelled}
use Rattle.nl_attrs.specs.Faults.{IsFault, IsUndecided, IsFamilyWhole, length_at, type_at, body_at, length_fault, type_fault}
use Rattle.nl_attrs.specs.Streams.{AreMessages, HasMessage, IsFaulty, joined}
use Rattle.nl_attrs.specs.inner.Reading.{IsWhole}
use Rattle.nl_attrs.specs.declared.fault.AttrFault.{AttrFault}
use Rattle.nl_attrs.specs.declared.fault.AttrFault.TheVariants.{BadAttr}
use Rattle.nl_attrs.specs.declared.message.Msg.{Msg}
use Rattle.nl_attrs.specs.declared.message.Msg.TheVariants.{Error, Done}
use Rattle.nl_attrs.proofs.Places.{bytes_at, u16_at-lt, u32_at-lt}
use Rattle.nl_attrs.proofs.Judged.{length_good, error_length, done_length, family_type}
use Rattle.nl_attrs.proofs.Fronts.{length_at-front, type_at-front}
use Rattle.nl_attrs.proofs.ReadBodies.{head_taken, error_taken, done_taken, generic_taken, read_generic_is, code_fits}
use Rattle.nl_attrs.proofs.Written.{done_is, error_is}
use Rattle.nl_attrs.proofs.MsgLaws.{length-msg}
use Rattle.nl_attrs.proofs.Told.{attrs_told}

-- the bytes of a whole message, by its length and its type
headed : (b : List ℕ) (n kind : ℕ) → AreBytes b → 16 ≤ length b → le32_at b 0 ≡ n → le16_at b 4 ≡ kind → b ≡ head_bytes n kind (le16_at b 6) (le32_at b 8) (le32_at b 12) ++ drop 16 b
headed b n kind fits long n-is kind-is =
    head_taken b (bytes_at b fits) long ∙ ap (λ (k : ℕ). head_bytes k (le16_at b 4) (le16_at b 6) (le32_at b 8) (le32_at b 12) ++ drop 16 b) n-is ∙ ap (λ (k : ℕ). head_bytes n k (le16_at b 6) (le32_at b 8) (le32_at b 12) ++ drop 16 b) kind-is

-- the message that the first n bytes are
found : (held : List ℕ) (n : ℕ) (m : Msg) → IsMsg m → take n held ≡ spelled m → HasMessage held
found held n m is e =
    (m, drop n held, is, sym (take-append-drop n held) ∙ ap (λ (x : List ℕ). x ++ drop n held) e)

done_found : (held : List ℕ) (n : ℕ) → AreBytes held → IsWhole held n → type_at held ≡ 3 → HasMessage held
done_found held n fits whole kind =
    let b : List ℕ = take n held in
    let b_fits : AreBytes b = All-take (λ x. x < 256) n held fits in
    let good = whole.good in
    let is = whole.is in
    let within = whole.within in
    let twenty : n ≡ 20 = whole.is ∙ done_length (length_at held) (type_at held) kind good.good_type in
    let len : length b ≡ 20 = omega (arith, length-take n held) in
    let body : List ℕ = drop 16 b in
    let body_len : length body ≡ 4 = omega (arith, length-drop 16 b) in
    let body_fits = bytes_at body (All-drop (λ x. x < 256) 16 b b_fits) in
    let code : ℤ = cast_signed w32 (le32_at body 0) in
    let spelt = headed b 20 3 b_fits (omega arith) (length_at-front held n whole ∙ sym is ∙ twenty) (type_at-front held n whole ∙ kind) ∙ done_taken (le16_at b 6) (le32_at b 8) (le32_at b 12) body code body_fits body_len refl in
    found held n (Done (le16_at b 6) (le32_at b 8) (le32_at b 12) code) (done_is _ _ _ code (u16_at-lt b 6 (bytes_at b b_fits)) (u32_at-lt b 8 (bytes_at b b_fits)) (u32_at-lt b 12 (bytes_at b b_fits)) (code_fits body code body_fits refl)) spelt

error_found : (held : List ℕ) (n : ℕ) → AreBytes held → IsWhole held n → type_at held ≡ 2 → HasMessage held
error_found held n fits whole kind =
    let b : List ℕ = take n held in
    let b_fits : AreBytes b = All-take (λ x. x < 256) n held fits in
    let good = whole.good in
    let is = whole.is in
    let within = whole.within in
    let thirty_six : n ≡ 36 = whole.is ∙ error_length (length_at held) (type_at held) kind good.good_type in
    let len : length b ≡ 36 = omega (arith, length-take n held) in
    let body : List ℕ = drop 16 b in
    let body_len : length body ≡ 20 = omega (arith, length-drop 16 b) in
    let body_bytes : AreBytes body = All-drop (λ x. x < 256) 16 b b_fits in
    let body_fits = bytes_at body body_bytes in
    let code : ℤ = cast_signed w32 (le32_at body 0) in
    let head_len : length (drop 4 body) ≡ 16 = omega (arith, length-drop 4 body) in
    let spelt = headed b 36 2 b_fits (omega arith) (length_at-front held n whole ∙ sym is ∙ thirty_six) (type_at-front held n whole ∙ kind) ∙ error_taken (le16_at b 6) (le32_at b 8) (le32_at b 12) body code body_fits body_len refl in
    found held n (Error (le16_at b 6) (le32_at b 8) (le32_at b 12) code (drop 4 body)) (error_is _ _ _ code (drop 4 body) (u16_at-lt b 6 (bytes_at b b_fits)) (u32_at-lt b 8 (bytes_at b b_fits)) (u32_at-lt b 12 (bytes_at b b_fits)) (code_fits body code body_fits refl) head_len (All-drop (λ x. x < 256) 4 body body_bytes)) spelt

-- a message of a family is whole: it is judged by its reserved number, and then by its attributes
family_told : (held : List ℕ) (n : ℕ) → AreBytes held → IsWhole held n → 16 ≤ type_at held → HasMessage held ⊎ IsFaulty held
family_told held n fits whole high =
    let b : List ℕ = take n held in
    let b_fits : AreBytes b = All-take (λ x. x < 256) n held fits in
    let good = whole.good in
    let is = whole.is in
    let within = whole.within in
    let long = whole.long in
    let short = whole.short in
    let len : length b ≡ n = omega (arith, length-take n held) in
    let body : List ℕ = drop 16 b in
    let body_len : 16 + length body ≡ n = omega (arith, length-drop 16 b) in
    let body_bytes : AreBytes body = All-drop (λ x. x < 256) 16 b b_fits in
    let kind : le16_at b 4 ≡ type_at held = type_at-front held n whole in
    let family : IsFamilyWhole held = record { good_length = good.good_length; good_type = good.good_type; whole = omega arith; family = high } in
    let at_body : body_at held ≡ body = ap (λ (k : ℕ). drop 16 (take k held)) (sym is) in
    elim (cases_eq (le16_at body 2) 0) [
      | inr reserved ↦ inr (BadAttr 18, inr (inr (record { message = family; place = 18; bad = rw at_body (inl (reserved, refl)); is = refl })))
      | inl zero_field ↦
          elim (attrs_told (drop 4 body) (All-drop (λ x. x < 256) 4 body body_bytes)) [
            | inr breach ↦ inr (BadAttr (20 + breach.0), inr (inr (record { message = family; place = 20 + breach.0; bad = rw at_body (inr (zero_field, (breach.0, breach.1, refl))); is = refl })))
            | inl has ↦
                (let spelt = headed b (16 + length body) (type_at held) b_fits (omega arith) (length_at-front held n whole ∙ sym is ∙ sym body_len) kind ∙ generic_taken (type_at held) (le16_at b 6) (le32_at b 8) (le32_at b 12) body has.0 (omega arith) zero_field has.2 in
                inl (found held n _ (read_generic_is (type_at held) (le16_at b 6) (le32_at b 8) (le32_at b 12) body has.0 body_bytes (omega arith) zero_field has.2 high (u16_at-lt held 4 (bytes_at held fits)) (u16_at-lt b 6 (bytes_at b b_fits)) (u32_at-lt b 8 (bytes_at b b_fits)) (u32_at-lt b 12 (bytes_at b b_fits)) has.1 (omega arith)) spelt))
          ]
    ]

whole_told : (held : List ℕ) (n : ℕ) → AreBytes held → IsWhole held n → HasMessage held ⊎ IsFaulty held
whole_told held n fits whole =
    elim (cases_eq (type_at held) 2) [
      | inl error ↦ inl (error_found held n fits whole error)
      | inr not_error ↦
          elim (cases_eq (type_at held) 3) [
            | inl done ↦ inl (done_found held n fits whole done)
            | inr not_done ↦ family_told held n fits whole (family_type (length_at held) (type_at held) not_error not_done whole.good.good_type)
          ]
    ]

by_type : (held : List ℕ) (fault : Option AttrFault) → AreBytes held → 6 ≤ length held → length_fault (length_at held) ≡ None → type_fault (length_at held) (type_at held) ≡ fault → IsUndecided held ⊎ (HasMessage held ⊎ IsFaulty held)
by_type held (Some f) fits six good bad = inr (inr (f, inr (inl (record { seen = six; good_length = good; bad = bad }))))
by_type held None fits six good kind_good =
    let long = length_good (length_at held) good in
    elim (cases_lt (length held) (length_at held)) [
      | inl less ↦ inl (inr (record { seen = omega arith; good_length = good; good_type = λ _. kind_good; left = less }))
      | inr whole ↦ inr (whole_told held (length_at held) fits (record { is = refl; good = record { good_length = good; good_type = kind_good }; long = long.0; short = long.2; within = whole }))
    ]

by_length : (held : List ℕ) (fault : Option AttrFault) → AreBytes held → 4 ≤ length held → length_fault (length_at held) ≡ fault → IsUndecided held ⊎ (HasMessage held ⊎ IsFaulty held)
by_length held (Some f) fits four bad = inr (inr (f, inl (record { seen = four; bad = bad })))
by_length held None fits four good =
    let long = (length_good (length_at held) good).0 in
    elim (cases_lt (length held) 6) [
      | inl few ↦ inl (inr (record { seen = four; good_length = good; good_type = λ six. absurd (omega arith); left = omega arith }))
      | inr six ↦ by_type held (type_fault (length_at held) (type_at held)) fits six good refl
    ]

pub verdict : (held : List ℕ) → AreBytes held → IsUndecided held ⊎ (HasMessage held ⊎ IsFaulty held)
verdict held fits =
    elim (cases_lt (length held) 4) [
      | inl few ↦ inl (inl few)
      | inr four ↦ by_length held (length_fault (length_at held)) fits four refl
    ]

-- ---- streams

abbrev HasMessages : List ℕ → Type 0
HasMessages stream = (ms : List Msg) × (f : Option AttrFault) × AreMessages stream ms f

at_front : (stream : List ℕ) (f : Option AttrFault) → MatchOption f (IsUndecided stream) (IsFault stream) → HasMessages stream
at_front stream f last = ([], f, record { rest = stream; parts = refl; each = All-nil IsMsg; last = last })

one_more : (stream : List ℕ) (m : Msg) (rest : List ℕ) → IsMsg m → stream ≡ spelled m ++ rest → HasMessages rest → HasMessages stream
one_more stream m rest is e has =
    let messages = has.2 in (
      m ∷ has.0,
      has.1,
      record {
        rest = messages.rest;
        parts =
            e ∙ ap (λ (x : List ℕ). spelled m ++ x) messages.parts ∙ sym (append_assoc (spelled m) (all_spelled has.0) messages.rest);
        each = All-cons IsMsg m has.0 is messages.each;
        last = messages.last;
      },
    )

rest_bytes : (stream front rest : List ℕ) → stream ≡ front ++ rest → AreBytes stream → AreBytes rest
rest_bytes stream front rest e fits =
    let all : AreBytes (front ++ rest) = let P : List ℕ → Type 0 = AreBytes in subst P e fits in
    let behind : AreBytes (drop (length front) (front ++ rest)) = All-drop (λ x. x < 256) (length front) (front ++ rest) all in
    let P : List ℕ → Type 0 = AreBytes in
    subst P (drop_at front rest (length front) refl) behind

told : (n : ℕ) (stream : List ℕ) → length stream ≤ n → AreBytes stream → HasMessages stream
told zero stream few fits = at_front stream None (inl (omega arith))
told (suc n) stream few fits =
    elim (verdict stream fits) [
      | inl undecided ↦ at_front stream None undecided
      | inr (inr fault) ↦ at_front stream (Some fault.0) fault.1
      | inr (inl message) ↦
          (let bytes = length-append (spelled message.0) message.1 in
          let long = length-msg message.0 message.2 in
          let same = ap length message.3 in
          one_more stream message.0 message.1 message.2 message.3 (told n message.1 (omega arith) (rest_bytes stream (spelled message.0) message.1 message.3 fits)))
    ]

joined_bytes : (pieces : List (List ℕ)) → All AreBytes pieces → AreBytes (joined pieces)
joined_bytes [] all = All-nil (λ x. x < 256)
joined_bytes (piece ∷ pieces) all =
    All-append (λ x. x < 256) piece (joined pieces) (All-head AreBytes piece pieces all) (joined_bytes pieces (All-tail AreBytes piece pieces all))

pub messages_told : (pieces : List (List ℕ)) → All AreBytes pieces → HasMessages (joined pieces)
messages_told pieces all = told (length (joined pieces)) (joined pieces) (omega arith) (joined_bytes pieces all)
