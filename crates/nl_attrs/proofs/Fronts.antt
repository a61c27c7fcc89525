-- The message at the front of bytes, and the bytes of that message alone.
use Rattle.std.proofs.Common.{◌≡◌, ℕ, ◌≤◌, List, length, take, drop, refl, sym, ap, ◌∙◌, inr, arith}
use Rattle.std.proofs.lemmas.List.{length-take, take-append-drop}
use Rattle.nl_attrs.specs.Endian.{le16_at, le32_at}
use Rattle.nl_attrs.specs.Faults.{IsFamilyWhole, length_at, type_at}
use Rattle.nl_attrs.specs.inner.Reading.{IsGoodSoFar, IsWhole, IsBodyRefusal, IsNextRefusal}
use Rattle.nl_attrs.specs.declared.fault.AttrFault.TheVariants.{Truncated, BadLength, Overlong, BadType, BadAttr}
use Rattle.nl_attrs.specs.declared.fault.NextFault.{NextFault}
use Rattle.nl_attrs.specs.declared.fault.NextFault.TheVariants.{Bad, OutOfMemory}
use Rattle.nl_attrs.proofs.Places.{u16_at-append, u32_at-append}
use Rattle.nl_attrs.proofs.Judged.{length_good}

pub whole_found : (held : List ℕ) (n : ℕ) → IsGoodSoFar held → 4 ≤ length held → n ≡ length_at held → n ≤ length held → IsWhole held n
whole_found held n good four is within =
    let no_fault = good.good_length four in
    let length_facts = length_good (length_at held) no_fault in
    let long : 20 ≤ n = rw is length_facts.0 in
    record {
      is = is;
      good = record { good_length = no_fault; good_type = good.good_type (omega arith) };
      long = long;
      short = rw is length_facts.2;
      within = within;
    }

pub length_at-front : (held : List ℕ) (n : ℕ) → IsWhole held n → length_at (take n held) ≡ length_at held
length_at-front held n whole =
    let long = whole.long in
    let within = whole.within in
    sym (u32_at-append (take n held) (drop n held) 0 (omega (arith, length-take n held))) ∙ ap (λ (b : List ℕ). le32_at b 0) (take-append-drop n held)

pub type_at-front : (held : List ℕ) (n : ℕ) → IsWhole held n → type_at (take n held) ≡ type_at held
type_at-front held n whole =
    let long = whole.long in
    let within = whole.within in
    sym (u16_at-append (take n held) (drop n held) 4 (omega (arith, length-take n held))) ∙ ap (λ (b : List ℕ). le16_at b 4) (take-append-drop n held)

pub whole_front : (held : List ℕ) (n : ℕ) → IsWhole held n → IsWhole (take n held) (length (take n held))
whole_front held n whole =
    let len = length_at-front held n whole in
    let kind = type_at-front held n whole in
    let long = whole.long in
    let within = whole.within in
    let short = whole.short in
    let count : length (take n held) ≡ n = omega (arith, length-take n held) in
    record {
      is = count ∙ whole.is ∙ sym len;
      good = rw (len, kind) whole.good;
      long = omega arith;
      short = omega arith;
      within = omega arith;
    }

-- the whole message is of a family
family_whole : (held : List ℕ) (n : ℕ) → IsWhole held n → 16 ≤ type_at (take n held) → IsFamilyWhole held
family_whole held n whole family =
    let within = whole.within in
    let len = whole.is in
    record {
      good_length = whole.good.good_length;
      good_type = whole.good.good_type;
      whole = omega arith;
      family = rw (sym (type_at-front held n whole)) family;
    }

pub refusal : (held : List ℕ) (n : ℕ) (fault : NextFault) → IsWhole held n → IsBodyRefusal (type_at (take n held)) (drop 16 (take n held)) fault → IsNextRefusal held fault
refusal held n (Bad (Truncated k)) whole is = absurd is
refusal held n (Bad (BadLength k)) whole is = absurd is
refusal held n (Bad (Overlong k)) whole is = absurd is
refusal held n (Bad (BadType t)) whole is = absurd is
refusal held n (Bad (BadAttr place)) whole is =
    inr (inr (record {
      message = family_whole held n whole is.0;
      place = place;
      bad = rw (sym whole.is) is.1;
      is = refl;
    }))
refusal held n OutOfMemory whole is = family_whole held n whole is
