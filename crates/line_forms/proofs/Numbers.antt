-- The numbers that words spell.
use Rattle.std.proofs.Common.{◌≡◌, ◌≢◌, ℕ, ◌+◌, ◌-◌, ◌<◌, ◌≤◌, ◌^◌, zero, suc, List, [], ◌∷◌, Bool, true, false, length, get_or, take, Some, None, refl, ap, ◌∙◌, sym, subst, arith, ◌⊎◌, inl, inr}
use Rattle.std.specs.Prelude.{◌*◌, decimal, ◌&&◌, nat_le, nat_lt, if◌then◌else◌}
use Rattle.std.specs.Char.{is_ascii_digit}
use Rattle.std.specs.Str.{all_ascii_digits}
use Rattle.std.specs.Str.Parse.{digits_value}
use Rattle.std.proofs.lemmas.Bool.{and_parts, cases_eq, leb-true, ltb-true}
use Rattle.std.proofs.lemmas.Bool.Decides.{nat_tests}
use Rattle.std.proofs.lemmas.Fmt.{decimal-digits_value, decimal_nonempty, digits_decimal, digits_value-decimal, first_decimal, decimal_digit}
use Rattle.std.proofs.lemmas.Str.{digit_value_digit}
use Rattle.std.proofs.lemmas.Str.Parse.{IsNumeralModel, digits_value-take-le, numerals_by_value, tells_all_ascii_digits}
use Rattle.std.proofs.lemmas.Int.Digits.{digits_value_more}
use Rattle.std.proofs.lemmas.List.{get_or_default, take_all}
use Rattle.line_forms.specs.Spelling.{begins_number, number_of_word}

own : IsNumeralModel (λ ds. all_ascii_digits ds ≡ true) (digits_value 10)
own = numerals_by_value (λ ds. all_ascii_digits ds ≡ true) tells_all_ascii_digits

pub true_or_false : (b : Bool) → (b ≡ true) ⊎ (b ≡ false)
true_or_false true = inl refl
true_or_false false = inr refl

-- ---- as the program reads them

begins-some : (ds : List ℕ) → begins_number ds ≡ true → 0 < length ds
begins-some [] h = absurd cc
begins-some (d ∷ ds) h = omega arith

begins-digit : (ds : List ℕ) → begins_number ds ≡ true → get_or ds 0 0 ≢ 43
begins-digit [] h = absurd cc
begins-digit (d ∷ ds) h = λ e. grind (arith, nat_tests)

unread : (a b c : Bool) (v : ℕ) → (a ≡ true → b ≡ true → c ≡ true → ⊥) → None ≡ (if a && b && c then Some v else None)
unread true true true v h = absurd (h refl refl refl)
unread true true false v h = refl
unread true false c v h = refl
unread false b c v h = refl

pub number_of-none : (ds : List ℕ) → begins_number ds ≡ false → None ≡ number_of_word ds
unfolding number_of_word
number_of-none ds h = unread (all_ascii_digits ds) (begins_number ds) (nat_lt (digits_value 10 ds) (2 ^ 64)) (digits_value 10 ds) (λ a b c. absurd cc)

below-from : (v : ℕ) → v < 2 ^ 64 → nat_lt v (2 ^ 64) ≡ true
below-from v h = grind (arith, nat_tests)

joined : (a b : Bool) → a ≡ true → b ≡ true → (a && b) ≡ true
joined true true one two = refl
joined true false one two = absurd cc
joined false b one two = absurd cc

digit-range : (c : ℕ) → is_ascii_digit c ≡ true → (48 ≤ c) × (c ≤ 57)
digit-range c is = let p = and_parts (nat_le 48 c) (nat_le c 57) is in (leb-true 48 c p.0, leb-true c 57 p.1)

digit-at : (ds : List ℕ) (i : ℕ) → i < length ds → all_ascii_digits ds ≡ true → is_ascii_digit (get_or ds i 0) ≡ true
digit-at [] i lt all = absurd (omega arith)
digit-at (d ∷ ds) zero lt all = (and_parts (is_ascii_digit d) (all_ascii_digits ds) all).0
digit-at (d ∷ ds) (suc i) lt all = digit-at ds i (omega arith) (and_parts (is_ascii_digit d) (all_ascii_digits ds) all).1

digits-more : (ds : List ℕ) (i n : ℕ) → n ≡ i + 1 → i < length ds → all_ascii_digits (take i ds) ≡ true → is_ascii_digit (get_or ds i 0) ≡ true → all_ascii_digits (take n ds) ≡ true
digits-more ds i zero e lt all is = absurd (omega arith)
digits-more [] i (suc n) e lt all is = absurd (omega arith)
digits-more (d ∷ ds) zero (suc zero) e lt all is = joined (is_ascii_digit d) true is refl
digits-more (d ∷ ds) zero (suc (suc n)) e lt all is = absurd (omega arith)
digits-more (d ∷ ds) (suc i) (suc n) e lt all is =
    let p = and_parts (is_ascii_digit d) (all_ascii_digits (take i ds)) all in
    joined (is_ascii_digit d) (all_ascii_digits (take n ds)) p.0 (digits-more ds i n (omega arith) (omega arith) p.1 is)

-- the first so many bytes are digits, and this is their value
pub record AreDigits (ds : List ℕ) (i v : ℕ) : Type 0 where
  pub digits : all_ascii_digits (take i ds) ≡ true
  pub value : v ≡ digits_value 10 (take i ds)
  pub fits : v < 2 ^ 64

pub digits-none : (ds : List ℕ) → AreDigits ds 0 0
digits-none ds = record { digits = refl; value = refl; fits = omega arith }

pub digits-next : (ds : List ℕ) (i v next d : ℕ) → i < length ds → AreDigits ds i v → (is_ascii_digit (get_or ds i d) ≡ true) × (next ≡ v * 10 + (get_or ds i d - 48)) → next < 2 ^ 64 → AreDigits ds (i + 1) next
digits-next ds i v next d lt are (is, sum) fits = record {
  digits = digits-more ds i (i + 1) refl lt are.digits here;
  value = omega (arith, sum, are.value, digits_value_more 10 ds i lt, digit_value_digit (get_or ds i 0) (digit-range (get_or ds i 0) here), same);
  fits = fits;
}
  where
    same : get_or ds i d ≡ get_or ds i 0
    same = get_or_default ds i d 0 lt

    here : is_ascii_digit (get_or ds i 0) ≡ true
    here = subst (λ c. is_ascii_digit c ≡ true) same is

-- where one more byte is no digit, or the value doesn't fit, no number is spelled
pub number_of-stopped : (ds : List ℕ) (i v d : ℕ) → i < length ds → AreDigits ds i v → (is_ascii_digit (get_or ds i d) ≡ true → 2 ^ 64 ≤ v * 10 + (get_or ds i d - 48)) → None ≡ number_of_word ds
unfolding number_of_word
number_of-stopped ds i v d lt are stops = unread (all_ascii_digits ds) (begins_number ds) (nat_lt (digits_value 10 ds) (2 ^ 64)) (digits_value 10 ds) none
  where
    same : get_or ds i d ≡ get_or ds i 0
    same = get_or_default ds i d 0 lt

    none : all_ascii_digits ds ≡ true → begins_number ds ≡ true → nat_lt (digits_value 10 ds) (2 ^ 64) ≡ true → ⊥
    none a b c =
        let here = digit-at ds i lt a in
        let large = stops (subst (λ x. is_ascii_digit x ≡ true) (sym same) here) in
        let fits : digits_value 10 ds < 2 ^ 64 = ltb-true _ _ c in
        let few : 1 ≤ 10 = omega arith in
        omega (arith, large, are.value, digits_value_more 10 ds i lt, digit_value_digit (get_or ds i 0) (digit-range (get_or ds i 0) here), same, fits, digits_value-take-le 10 ds (i + 1) few)

pub number_of-all : (ds : List ℕ) (i v : ℕ) → length ds ≤ i → begins_number ds ≡ true → AreDigits ds i v → Some v ≡ number_of_word ds
unfolding number_of_word
number_of-all ds i v past begins are =
    let whole : take i ds ≡ ds = take_all i ds past in
    let digits : all_ascii_digits ds ≡ true = subst (λ l. all_ascii_digits l ≡ true) whole are.digits in
    let value : v ≡ digits_value 10 ds = are.value ∙ ap (λ l. digits_value 10 l) whole in
    rw (digits, begins, below-from (digits_value 10 ds) (subst (λ n. n < 2 ^ 64) value are.fits)) (ap (λ (n : ℕ). Some n) value)

-- ---- as they are spelled

begins-alone : (d : ℕ) (ds : List ℕ) → (d ≡ 48 → length (d ∷ ds) ≡ 1) → all_ascii_digits (d ∷ ds) ≡ true → begins_number (d ∷ ds) ≡ true
begins-alone d [] h digits = grind (arith, nat_tests)
begins-alone d (e ∷ es) h digits = grind (arith, nat_tests)

begins-from : (ds : List ℕ) → all_ascii_digits ds ≡ true → 0 < length ds → (get_or ds 0 0 ≡ 48 → length ds ≡ 1) → begins_number ds ≡ true
begins-from [] digits some h = absurd (omega arith)
begins-from (d ∷ ds) digits some h = begins-alone d ds h digits

leads : (ds : List ℕ) → begins_number ds ≡ true → get_or ds 0 0 ≡ 48 → length ds ≡ 1
leads [] h = absurd cc
leads (d ∷ []) h = λ e. refl
leads (d ∷ e ∷ es) h = λ zero. grind (arith, nat_tests)

decimal-leads : (n : ℕ) → n < 2 ^ 64 → get_or (decimal n) 0 0 ≡ 48 → length (decimal n) ≡ 1
decimal-leads n fits e = elim (cases_eq n 0) [
  | inl none ↦ rw (none, decimal_digit 0 (omega arith)) refl
  | inr some ↦ let first = first_decimal n (omega arith) fits in absurd (omega arith)
]

-- what spells a number is read as it
pub number_of-again : (n : ℕ) → n < 2 ^ 64 → number_of_word (decimal n) ≡ Some n
unfolding number_of_word
number_of-again n fits =
    let digits : all_ascii_digits (decimal n) ≡ true = digits_decimal own n fits in
    let value : digits_value 10 (decimal n) ≡ n = digits_value-decimal own n fits in
    let begins : begins_number (decimal n) ≡ true = begins-from (decimal n) digits (decimal_nonempty n fits) (decimal-leads n fits) in
    rw (digits, begins, value, below-from n fits) refl

taken : (a b c : Bool) (v n : ℕ) → (if a && b && c then Some v else None) ≡ Some n → (a ≡ true) × (b ≡ true) × (c ≡ true) × (v ≡ n)
taken true true true v n e = (refl, refl, refl, cc)
taken true true false v n e = absurd cc
taken true false c v n e = absurd cc
taken false b c v n e = absurd cc

pub record ReadsNumber (ds : List ℕ) (n : ℕ) : Type 0 where
  pub spelled : ds ≡ decimal n
  pub fits : n < 2 ^ 64

-- what is read as a number spells it
pub number_of-reads : (ds : List ℕ) (n : ℕ) → number_of_word ds ≡ Some n → ReadsNumber ds n
unfolding number_of_word
number_of-reads ds n e =
    let t = taken (all_ascii_digits ds) (begins_number ds) (nat_lt (digits_value 10 ds) (2 ^ 64)) (digits_value 10 ds) n e in
    let fits : digits_value 10 ds < 2 ^ 64 = ltb-true _ _ t.2 in
    record {
      spelled = rw (← t.3) (sym (decimal-digits_value own ds t.0 (begins-some ds t.1) (leads ds t.1) fits));
      fits = rw (← t.3) fits;
    }
