-- Decimals: what is read is spelled so, and what is spelled so is read.
use Rattle.std.proofs.Common.{◌≡◌, ℕ, ◌<◌, ◌≤◌, List, [], ◌∷◌, ◌++◌, Bool, true, false, cond, length, Option, Some, refl, ap, ◌∙◌, sym, arith, rules}
use Rattle.std.specs.Prelude.{All, ◌==◌}
use Rattle.std.proofs.lemmas.Bool.Decides.{nat_tests}
use Rattle.std.proofs.lemmas.Option.{some_pair_parts}
use Rattle.reg_base.specs.Texts.{◌>>=◌}
use Rattle.text_lines.specs.inner.Reading.{decimal_at, decimal_from, fraction_at, is_digit, digits_at, scaled_within}
use Rattle.text_lines.specs.Spelling.{Decimal, IsDecimalText, IsDigit, IsNumber, fraction_text, scaled}
use Rattle.text_lines.proofs.Digits.{NoDigit, number_at-again, number_at-reads}
use Rattle.text_lines.proofs.Values.{scaled_within-again, scaled_within-reads}
use Rattle.text_lines.proofs.Words.{bind_some}

abbrev pub decimal : List ℕ → List ℕ → Decimal
decimal whole fraction = record { whole = whole; fraction = fraction }

-- ---- the fraction

point : (f : List ℕ) → 0 < length f → fraction_text f ≡ 46 ∷ f
point [] some = absurd (omega arith)
point (d ∷ ds) some = refl

pub record ReadsFraction (bs fraction rest : List ℕ) : Type 0 where
  pub each : All IsDigit fraction
  pub parts : bs ≡ fraction_text fraction ++ rest

no_digits : All IsDigit []
no_digits = search rules

no_fraction : (bs fraction rest : List ℕ) → [] ≡ fraction → bs ≡ rest → ReadsFraction bs fraction rest
no_fraction bs fraction rest e f = rw (← e, ← f) (record { each = no_digits; parts = refl })

abbrev some_pair : List ℕ → List ℕ → Option (List ℕ × List ℕ)
some_pair xs ys = Some (xs, ys)

fraction_or : (b : ℕ) (bs fraction rest : List ℕ) (t : Bool) → t ≡ (b == 46) → cond t (digits_at bs) (some_pair [] (b ∷ bs)) ≡ Some (fraction, rest) → ReadsFraction (b ∷ bs) fraction rest
fraction_or b bs fraction rest true is e =
    let here : b ≡ 46 = grind (arith, nat_tests) in
    let read = number_at-reads bs fraction rest e in
    record { each = read.number.each; parts = rw (here, point fraction read.number.some) (ap (λ (xs : List ℕ). 46 ∷ xs) read.parts) }
fraction_or b bs fraction rest false is e = let p = some_pair_parts [] fraction (b ∷ bs) rest e in no_fraction (b ∷ bs) fraction rest p.0 p.1

pub fraction_at-reads : (bs fraction rest : List ℕ) → fraction_at bs ≡ Some (fraction, rest) → ReadsFraction bs fraction rest
unfolding fraction_at
fraction_at-reads [] fraction rest e = let p = some_pair_parts [] fraction [] rest e in no_fraction [] fraction rest p.0 p.1
fraction_at-reads (b ∷ bs) fraction rest e = fraction_or b bs fraction rest (b == 46) refl e

-- neither a digit nor a point stands first
abbrev pub EndsDecimal : List ℕ → Type 0
EndsDecimal [] = Unit {0}
EndsDecimal (b ∷ bs) = (is_digit b ≡ false) × ((b == 46) ≡ false)

pub ends-digits : (rest : List ℕ) → EndsDecimal rest → NoDigit rest
ends-digits [] h = tt
ends-digits (b ∷ bs) h = h.0

pub fraction_at-again : (fraction rest : List ℕ) → All IsDigit fraction → EndsDecimal rest → fraction_at (fraction_text fraction ++ rest) ≡ Some (fraction, rest)
unfolding fraction_at
fraction_at-again [] [] each ends = refl
fraction_at-again [] (b ∷ bs) each ends = rw ends.1 refl
fraction_at-again (d ∷ ds) rest each ends = number_at-again (d ∷ ds) rest (record { some = omega arith; each = each }) (ends-digits rest ends)

-- a fraction begins with no digit
pub fraction-no_digit : (fraction rest : List ℕ) → EndsDecimal rest → NoDigit (fraction_text fraction ++ rest)
fraction-no_digit [] rest ends = ends-digits rest ends
fraction-no_digit (d ∷ ds) rest ends = refl

-- ---- behind the digits before the point

abbrev closed_decimal : List ℕ → ℕ → Option (ℕ × List ℕ)
closed_decimal rest value = Some (value, rest)

abbrev with_fraction : ℕ → ℕ → List ℕ → List ℕ × List ℕ → Option (ℕ × List ℕ)
with_fraction places most whole fraction = scaled_within places most whole fraction.0 >>= closed_decimal fraction.1

pub record ReadsDecimal (places most : ℕ) (whole bs : List ℕ) (v : ℕ) (rest : List ℕ) : Type 0 where
  pub fraction : List ℕ
  pub is : IsDecimalText places (decimal whole fraction)
  pub parts : bs ≡ fraction_text fraction ++ rest
  pub value : v ≡ scaled places (decimal whole fraction)
  pub small : v ≤ most

pub decimal_from-reads : (places most : ℕ) (whole bs : List ℕ) (value : ℕ) (rest : List ℕ) → IsNumber whole → decimal_from places most whole bs ≡ Some (value, rest) → ReadsDecimal places most whole bs value rest
unfolding decimal_from
decimal_from-reads places most whole bs value rest number e =
    let one = bind_some (fraction_at bs) (with_fraction places most whole) (value, rest) e in
    let two = bind_some (scaled_within places most whole one.0.0) (closed_decimal one.0.1) (value, rest) one.2 in
    let p = some_pair_parts two.0 value one.0.1 rest two.2 in
    let fraction = fraction_at-reads bs one.0.0 one.0.1 one.1 in
    let limits = scaled_within-reads places most whole one.0.0 two.0 two.1 in
    record {
      fraction = one.0.0;
      is = record { whole = number; fraction = fraction.each; short = limits.0 };
      parts = fraction.parts ∙ rw p.1 refl;
      value = sym p.0 ∙ limits.1;
      small = rw (← p.0) limits.2;
    }

pub decimal_from-again : (places most : ℕ) (n : Decimal) (rest : List ℕ) → IsDecimalText places n → scaled places n ≤ most → EndsDecimal rest → decimal_from places most n.whole (fraction_text n.fraction ++ rest) ≡ Some (scaled places n, rest)
unfolding decimal_from
decimal_from-again places most n rest is small ends =
    rw (fraction_at-again n.fraction rest is.fraction ends, scaled_within-again places most n.whole n.fraction is.short small) refl

-- ---- the whole decimal

abbrev with_whole : ℕ → ℕ → List ℕ × List ℕ → Option (ℕ × List ℕ)
with_whole places most whole = decimal_from places most whole.0 whole.1

-- a decimal and what is behind it
abbrev pub decimal_cells : Decimal → List ℕ → List ℕ
decimal_cells n rest = n.whole ++ (fraction_text n.fraction ++ rest)

pub record SpellsDecimal (places most : ℕ) (bs : List ℕ) (v : ℕ) (rest : List ℕ) : Type 0 where
  pub text : Decimal
  pub is : IsDecimalText places text
  pub parts : bs ≡ decimal_cells text rest
  pub value : v ≡ scaled places text
  pub small : v ≤ most

pub decimal_at-reads : (places most : ℕ) (bs : List ℕ) (value : ℕ) (rest : List ℕ) → decimal_at places most bs ≡ Some (value, rest) → SpellsDecimal places most bs value rest
unfolding decimal_at
decimal_at-reads places most bs value rest e =
    let one = bind_some (digits_at bs) (with_whole places most) (value, rest) e in
    let whole = number_at-reads bs one.0.0 one.0.1 one.1 in
    let more = decimal_from-reads places most one.0.0 one.0.1 value rest whole.number one.2 in
    record {
      text = decimal one.0.0 more.fraction;
      is = more.is;
      parts = whole.parts ∙ ap (λ (xs : List ℕ). one.0.0 ++ xs) more.parts;
      value = more.value;
      small = more.small;
    }

pub decimal_at-again : (places most : ℕ) (n : Decimal) (rest : List ℕ) → IsDecimalText places n → scaled places n ≤ most → EndsDecimal rest → decimal_at places most (decimal_cells n rest) ≡ Some (scaled places n, rest)
unfolding decimal_at
decimal_at-again places most n rest is small ends =
    rw (number_at-again n.whole (fraction_text n.fraction ++ rest) is.whole (fraction-no_digit n.fraction rest ends)) (decimal_from-again places most n rest is small ends)
