-- The numbers of a printed text, and what they say.
use Rattle.std.proofs.Common.{◌≡◌, ℕ, ◌+◌, ◌-◌, ◌*◌, ◌/◌, ◌%◌, ◌^◌, ◌<◌, ◌≤◌, ◌≢◌, List, [], ◌∷◌, ◌++◌, length, All, arith, ap, ◌∙◌, inl, inr}
use Rattle.std.specs.Prelude.{fold}
use Rattle.std.proofs.lemmas.Bool.{cases_eq, ne_eqb}
use Rattle.std.proofs.Common.{eq-eqb}
use Rattle.std.proofs.lemmas.Fmt.{decimal_by_steps, decimal_nonempty, length-decimal-le}
use Rattle.std.proofs.lemmas.List.Elements.{All-append, All-cons, All-nil}
use Rattle.std.proofs.lemmas.List.Sums.{fold-append}
use Rattle.std.specs.Fmt.{decimal}
use Rattle.db_text.specs.PrintedNumbers.{dbm_of, mhz_of, thousandths}
use Rattle.text_lines.specs.Spelling.{IsDecimalText, IsDigit, IsNumber, scaled, value_of_digits}

-- ---- whole numbers

-- these digits say the number
record Says (n : ℕ) (ds : List ℕ) : Type 0 where
  each : All IsDigit ds
  value : value_of_digits ds ≡ n

one_digit : (n : ℕ) → n < 10 → All IsDigit ((48 + n) ∷ [])
one_digit n low = All-cons IsDigit (48 + n) [] (omega arith, omega arith) (All-nil IsDigit)

says_one : (n : ℕ) → n < 10 → Says n ((48 + n) ∷ [])
says_one n low = record { each = one_digit n low; value = omega arith }

more_digits : (ds : List ℕ) (d : ℕ) → value_of_digits (ds ++ (48 + d) ∷ []) ≡ value_of_digits ds * 10 + d
more_digits ds d = fold-append (λ value digit. value * 10 + (digit - 48)) 0 ds ((48 + d) ∷ []) ∙ last (value_of_digits ds) d
  where
    last : (v d : ℕ) → v * 10 + (48 + d - 48) ≡ v * 10 + d
    last v d = omega arith

says_more : (n : ℕ) (ds : List ℕ) → 10 ≤ n → Says (n / 10) ds → Says n (ds ++ (48 + n % 10) ∷ [])
says_more n ds high says = record {
  each = All-append IsDigit ds ((48 + n % 10) ∷ []) says.each (one_digit (n % 10) (omega arith));
  value = let v = says.value in let e = more_digits ds (n % 10) in omega (arith, v, e);
}

says_decimal : (n : ℕ) → n < 2 ^ 64 → Says n (decimal n)
says_decimal n small = decimal_by_steps Says says_one says_more n small

pub decimal_digits : (n : ℕ) → n < 2 ^ 64 → All IsDigit (decimal n)
decimal_digits n small = (says_decimal n small).each

pub decimal_value : (n : ℕ) → n < 2 ^ 64 → value_of_digits (decimal n) ≡ n
decimal_value n small = (says_decimal n small).value

pub decimal_number : (n : ℕ) → n < 2 ^ 64 → IsNumber (decimal n)
decimal_number n small = record { some = decimal_nonempty n small; each = decimal_digits n small }

pub decimal_short : (n : ℕ) → n < 2 ^ 64 → length (decimal n) ≤ 20
decimal_short n small = length-decimal-le 20 n (omega arith) (omega arith) small

-- ---- thousandths

-- these digits behind a point say so many thousandths
record SaysThousandths (n : ℕ) (ds : List ℕ) : Type 0 where
  each : All IsDigit ds
  short : length ds ≤ 3
  value : (v : ℕ) → fold (λ value digit. value * 10 + (digit - 48)) v ds * 10 ^ (3 - length ds) ≡ v * 1000 + n
  shorter : n % 10 ≡ 0 → length ds ≤ 2
  hundredths : n % 10 ≡ 0 → (v : ℕ) → 10 * (fold (λ value digit. value * 10 + (digit - 48)) v ds * 10 ^ (2 - length ds)) ≡ v * 1000 + n

says_none : (n : ℕ) → n ≡ 0 → SaysThousandths n []
says_none n zero = record {
  each = All-nil IsDigit;
  short = omega arith;
  value = λ v. omega (arith, zero);
  shorter = λ even. omega arith;
  hundredths = λ even v. omega (arith, zero);
}

digit_of : (d : ℕ) → d < 10 → IsDigit (48 + d)
digit_of d low = (omega arith, omega arith)

says_tenths : (n : ℕ) → n < 1000 → n % 100 ≡ 0 → SaysThousandths n ((48 + n / 100) ∷ [])
says_tenths n small none = record {
  each = one_digit (n / 100) (omega arith);
  short = omega arith;
  value = λ v. omega (arith, none);
  shorter = λ even. omega arith;
  hundredths = λ even v. omega (arith, none);
}

says_hundredths : (n : ℕ) → n < 1000 → n % 10 ≡ 0 → SaysThousandths n ((48 + n / 100) ∷ (48 + n / 10 % 10) ∷ [])
says_hundredths n small none = record {
  each = All-cons IsDigit (48 + n / 100) ((48 + n / 10 % 10) ∷ []) (digit_of (n / 100) (omega arith)) (one_digit (n / 10 % 10) (omega arith));
  short = omega arith;
  value = λ v. omega (arith, none);
  shorter = λ even. omega arith;
  hundredths = λ even v. omega (arith, none);
}

says_all : (n : ℕ) → n < 1000 → n % 10 ≢ 0 → SaysThousandths n ((48 + n / 100) ∷ (48 + n / 10 % 10) ∷ (48 + n % 10) ∷ [])
says_all n small some = record {
  each = All-cons IsDigit (48 + n / 100) ((48 + n / 10 % 10) ∷ (48 + n % 10) ∷ []) (digit_of (n / 100) (omega arith))
      (All-cons IsDigit (48 + n / 10 % 10) ((48 + n % 10) ∷ []) (digit_of (n / 10 % 10) (omega arith)) (one_digit (n % 10) (omega arith)));
  short = omega arith;
  value = λ v. omega arith;
  shorter = λ even. absurd (some even);
  hundredths = λ even v. absurd (some even);
}

says_thousandths : (n : ℕ) → n < 1000 → SaysThousandths n (thousandths n)
says_thousandths n small = elim (cases_eq n 0) [
  | inl zero ↦ rw (eq-eqb n 0 zero) (says_none n zero)
  | inr some ↦ rw (ne_eqb n 0 some) (elim (cases_eq (n % 100) 0) [
    | inl none ↦ rw (eq-eqb (n % 100) 0 none) (says_tenths n small none)
    | inr more ↦ rw (ne_eqb (n % 100) 0 more) (elim (cases_eq (n % 10) 0) [
      | inl none ↦ rw (eq-eqb (n % 10) 0 none) (says_hundredths n small none)
      | inr all ↦ rw (ne_eqb (n % 10) 0 all) (says_all n small all)
    ])
  ])
]

-- ---- MHz and dBm

pub mhz_decimal : (khz : ℕ) → khz < 2 ^ 32 → IsDecimalText 3 (mhz_of khz)
mhz_decimal khz small =
    let said = says_thousandths (khz % 1000) (omega arith) in
    record { whole = decimal_number (khz / 1000) (omega arith); fraction = said.each; short = said.short }

pub mhz_value : (khz : ℕ) → khz < 2 ^ 32 → khz ≡ scaled 3 (mhz_of khz)
mhz_value khz small =
    let said = says_thousandths (khz % 1000) (omega arith) in
    let whole = decimal_value (khz / 1000) (omega arith) in
    let joined = fold-append (λ value digit. value * 10 + (digit - 48)) 0 (decimal (khz / 1000)) (thousandths (khz % 1000)) in
    let e : scaled 3 (mhz_of khz) ≡ khz / 1000 * 1000 + khz % 1000 =
    ap (λ n. n * 10 ^ (3 - length (thousandths (khz % 1000)))) joined ∙ rw whole (said.value (khz / 1000)) in
    omega (arith, e)

pub dbm_decimal : (mbm : ℕ) → mbm < 2 ^ 16 → IsDecimalText 2 (dbm_of mbm)
dbm_decimal mbm small =
    let said = says_thousandths (mbm % 100 * 10) (omega arith) in
    record { whole = decimal_number (mbm / 100) (omega arith); fraction = said.each; short = said.shorter (omega arith) }

pub dbm_value : (mbm : ℕ) → mbm < 2 ^ 16 → mbm ≡ scaled 2 (dbm_of mbm)
dbm_value mbm small =
    let said = says_thousandths (mbm % 100 * 10) (omega arith) in
    let whole = decimal_value (mbm / 100) (omega arith) in
    let joined = fold-append (λ value digit. value * 10 + (digit - 48)) 0 (decimal (mbm / 100)) (thousandths (mbm % 100 * 10)) in
    let e : 10 * scaled 2 (dbm_of mbm) ≡ mbm / 100 * 1000 + mbm % 100 * 10 =
    ap (λ n. 10 * (n * 10 ^ (2 - length (thousandths (mbm % 100 * 10))))) joined ∙ rw whole (said.hundredths (omega arith) (mbm / 100)) in
    omega (arith, e)

pub short_thousandths : (n : ℕ) → n < 1000 → length (thousandths n) ≤ 3
short_thousandths n small = (says_thousandths n small).short
