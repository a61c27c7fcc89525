-- Where a message stands there is no fault, a fault is one, and it stays.
use Rattle.std.proofs.Common.{◌≡◌, ℕ, ◌+◌, ◌≤◌, List, ◌++◌, length, Option, Some, None, refl, sym, ap, subst, ◌∙◌, inl, inr, arith}
use Rattle.std.proofs.lemmas.List.{length-append, take-append-le}
use Rattle.nl_attrs.specs.Endian.{le16_at}
use Rattle.nl_attrs.specs.Messages.{IsMsg, FitsBody, spelled, body_of, type_of}
use Rattle.nl_attrs.specs.Faults.{length_at, type_at, body_at, IsBadBody, IsFault, IsUndecided, IsFamilyWhole}
use Rattle.nl_attrs.specs.declared.fault.AttrFault.{AttrFault}
use Rattle.nl_attrs.specs.declared.fault.AttrFault.TheVariants.{BadAttr}
use Rattle.nl_attrs.specs.declared.message.Msg.{Msg}
use Rattle.nl_attrs.specs.declared.message.Msg.TheVariants.{Generic, Error, Done}
use Rattle.nl_attrs.proofs.Places.{u16_at-append, u32_at-append}
use Rattle.nl_attrs.proofs.Judged.{length_good}
use Rattle.nl_attrs.proofs.AttrLaws.{no_breach, one_place}
use Rattle.nl_attrs.proofs.OneReading.{Stops}
use Rattle.nl_attrs.proofs.MsgLaws.{length_at-msg, type_at-msg, body_at-msg, good-msg, length-msg}

-- ---- a message has none

pub never_undecided : (m : Msg) (r : List ℕ) → IsMsg m → IsUndecided (spelled m ++ r) → ⊥
never_undecided m r is undecided =
    let long = length-msg m is in
    let bytes = length-append (spelled m) r in
    elim undecided [
      | inl few ↦ omega arith
      | inr begun ↦ let left = begun.left in omega (arith, length_at-msg m r is)
    ]

good_body : (m : Msg) (place : ℕ) → FitsBody m → 16 ≤ type_of m → IsBadBody (body_of m) place → ⊥
unfolding le16_at
good_body (Generic family flags seq pid cmd version attrs) place fits family_high bad =
    elim bad [
      | inl reserved ↦ reserved.0 refl
      | inr broken ↦ no_breach _ broken.1.0 attrs broken.1.1 fits.4 refl
    ]
good_body (Error flags seq pid code head) place fits family_high bad = omega arith
good_body (Done flags seq pid code) place fits family_high bad = omega arith

pub never_faulty : (m : Msg) (r : List ℕ) (fault : AttrFault) → IsMsg m → IsFault (spelled m ++ r) fault → ⊥
never_faulty m r fault is faulty =
    let good = good-msg m r is in
    let good_length = good.good_length in
    let good_type = good.good_type in
    elim faulty [
      | inl of_length ↦ (let bad = of_length.bad in cc)
      | inr (inl of_type) ↦ (let bad = of_type.bad in cc)
      | inr (inr of_body) ↦ good_body m of_body.place is.body (rw (sym (type_at-msg m r is)) of_body.message.family) (rw (sym (body_at-msg m r is)) of_body.bad)
    ]

pub undecided-stops : (b : List ℕ) → IsUndecided b → Stops spelled IsMsg b
undecided-stops b undecided m t is e =
    never_undecided m t is (let P : List ℕ → Type 0 = IsUndecided in subst P e undecided)

pub fault-stops : (b : List ℕ) (fault : AttrFault) → IsFault b fault → Stops spelled IsMsg b
fault-stops b fault faulty m t is e =
    never_faulty m t fault is (let P : List ℕ → Type 0 = λ x. IsFault x fault in subst P e faulty)

-- ---- a fault is one

one_bad_body : (body : List ℕ) (j k : ℕ) → IsBadBody body j → IsBadBody body k → j ≡ k
one_bad_body body j k one other =
    elim one [
      | inl r ↦ elim other [ inl s ↦ r.1 ∙ sym s.1 | inr s ↦ absurd (r.0 s.0) ]
      | inr r ↦
          elim other [
            | inl s ↦ absurd (s.0 r.0)
            | inr s ↦ r.1.2 ∙ ap (λ (n : ℕ). 20 + n) (one_place _ r.1.0 s.1.0 r.1.1 s.1.1) ∙ sym s.1.2
          ]
    ]

same_some : {A : Type 0} (o : Option A) (x y : A) → o ≡ Some x → o ≡ Some y → x ≡ y
same_some o x y e f = cc

some_none : {A : Type 0} (o : Option A) (x : A) → o ≡ Some x → o ≡ None → ⊥
some_none o x e f = cc

pub one_fault : (b : List ℕ) (f g : AttrFault) → IsFault b f → IsFault b g → f ≡ g
one_fault b f g one other =
    elim one [
      | inl r ↦
          elim other [
            | inl s ↦ same_some _ f g r.bad s.bad
            | inr (inl s) ↦ absurd (some_none _ f r.bad s.good_length)
            | inr (inr s) ↦ absurd (some_none _ f r.bad s.message.good_length)
          ]
      | inr (inl r) ↦
          elim other [
            | inl s ↦ absurd (some_none _ g s.bad r.good_length)
            | inr (inl s) ↦ same_some _ f g r.bad s.bad
            | inr (inr s) ↦ absurd (some_none _ f r.bad s.message.good_type)
          ]
      | inr (inr r) ↦
          elim other [
            | inl s ↦ absurd (some_none _ g s.bad r.message.good_length)
            | inr (inl s) ↦ absurd (some_none _ g s.bad r.message.good_type)
            | inr (inr s) ↦ r.is ∙ ap BadAttr (one_bad_body _ r.place s.place r.bad s.bad) ∙ sym s.is
          ]
    ]

-- what is undecided is no whole message
pub undecided_not_whole : (b : List ℕ) → IsUndecided b → IsFamilyWhole b → ⊥
undecided_not_whole b undecided message =
    let whole = message.whole in
    elim undecided [
      | inl few ↦ (let long = (length_good _ message.good_length).0 in omega arith)
      | inr begun ↦ (let left = begun.left in omega arith)
    ]

-- what is undecided shows no fault
pub undecided_no_fault : (b : List ℕ) (f : AttrFault) → IsUndecided b → IsFault b f → ⊥
undecided_no_fault b f undecided faulty =
    elim undecided [
      | inl few ↦
          elim faulty [
            | inl r ↦ (let seen = r.seen in omega arith)
            | inr (inl r) ↦ (let seen = r.seen in omega arith)
            | inr (inr r) ↦ undecided_not_whole b (inl few) r.message
          ]
      | inr begun ↦
          elim faulty [
            | inl r ↦ some_none _ f r.bad begun.good_length
            | inr (inl r) ↦ some_none _ f r.bad (begun.good_type r.seen)
            | inr (inr r) ↦ undecided_not_whole b (inr begun) r.message
          ]
    ]

-- ---- a fault stays, whatever follows

length_at-more : (b more : List ℕ) → 4 ≤ length b → length_at (b ++ more) ≡ length_at b
length_at-more b more long = u32_at-append b more 0 (omega arith)

type_at-more : (b more : List ℕ) → 6 ≤ length b → type_at (b ++ more) ≡ type_at b
type_at-more b more long = u16_at-append b more 4 (omega arith)

pub fault_stays : (b more : List ℕ) (f : AttrFault) → IsFault b f → IsFault (b ++ more) f
fault_stays b more f faulty =
    let bytes = length-append b more in
    elim faulty [
      | inl r ↦ (let seen = r.seen in inl (record { seen = omega arith; bad = rw (length_at-more b more seen) r.bad }))
      | inr (inl r) ↦
          (let seen = r.seen in
          let four : 4 ≤ length b = omega arith in
          let len = length_at-more b more four in
          let kind = type_at-more b more seen in
          inr (inl (record { seen = omega arith; good_length = rw len r.good_length; bad = rw (len, kind) r.bad })))
      | inr (inr r) ↦
          (let whole = r.message.whole in
          let long = (length_good _ r.message.good_length).0 in
          let len = length_at-more b more (omega arith) in
          let kind = type_at-more b more (omega arith) in
          let body : body_at (b ++ more) ≡ body_at b = rw (len, take-append-le (length_at b) b more whole) refl in
          inr (inr (record {
            message = record {
              good_length = rw len r.message.good_length;
              good_type = rw (len, kind) r.message.good_type;
              whole = omega arith;
              family = rw kind r.message.family;
            };
            place = r.place;
            bad = rw body r.bad;
            is = r.is;
          })))
    ]
