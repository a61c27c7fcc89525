-- Powers: what is read is spelled so, and what is spelled so is read.
use Rattle.std.proofs.Common.{◌≡◌, ◌≢◌, ℕ, ◌<◌, ◌≤◌, List, [], ◌∷◌, ◌++◌, Bool, true, false, cond, Option, Some, None, refl, ap, ◌∙◌, sym, subst, arith, append_assoc}
use Rattle.std.specs.Prelude.{codes, All, ◌==◌}
use Rattle.std.proofs.lemmas.Bool.{ne_eqb}
use Rattle.std.proofs.lemmas.Bool.Decides.{nat_tests}
use Rattle.std.proofs.lemmas.List.Elements.{All-head, All-tail}
use Rattle.std.proofs.lemmas.Option.{some_pair_parts}
use Rattle.freq_range.specs.Power.{IsMilliwatts}
use Rattle.text_lines.specs.declared.power_reader.Amount.{Amount}
use Rattle.text_lines.specs.declared.power_reader.Amount.TheVariants.{Mbm, Milliwatts}
use Rattle.reg_base.specs.Texts.{◌>>=◌}
use Rattle.text_lines.specs.inner.Reading.{IsAmount, MeansMbm, after_byte, after_word, amount_at, amount_from, behind_gain, decimal_from, mbm_of, milliwatts_of, digits_at, or_all, power_at, value_within}
use Rattle.text_lines.specs.Spelling.{Gain, IsDecimalText, IsDigit, IsNumber, IsPower, Power, fraction_text, gain_text, power_part, power_text, scaled, value_of_digits}
use Rattle.text_lines.specs.Spelling.Gain.{NoGain, UnknownGain, ZeroGain}
use Rattle.text_lines.specs.Spelling.Power.{Dbm, Milliwatts as OfMilliwatts}
use Rattle.text_lines.proofs.Decimals.{EndsDecimal, decimal, decimal_from-again, decimal_from-reads, fraction-no_digit}
use Rattle.text_lines.proofs.Digits.{number_at-again, number_at-reads}
use Rattle.text_lines.proofs.Values.{value_within-again, value_within-reads}
use Rattle.text_lines.proofs.Words.{after_byte-again, after_byte-reads, after_word-again, after_word-reads, bind_some}

-- ---- a gain

gain_or : (bs : List ℕ) (o p : Option (List ℕ)) → ((rest : List ℕ) → o ≡ Some rest → bs ≡ codes "N/A," ++ rest) → ((rest : List ℕ) → p ≡ Some rest → bs ≡ codes "0," ++ rest) → (gain : Gain) × (bs ≡ gain_text gain ++ or_all o (or_all p bs))
gain_or bs (Some rest) p h k = (UnknownGain, h rest refl)
gain_or bs None (Some rest) h k = (ZeroGain, k rest refl)
gain_or bs None None h k = (NoGain, refl)

behind_gain-reads : (bs : List ℕ) → (gain : Gain) × (bs ≡ gain_text gain ++ behind_gain bs)
unfolding behind_gain
behind_gain-reads bs = gain_or bs (after_word (codes "N/A,") bs) (after_word (codes "0,") bs) (after_word-reads (codes "N/A,") bs) (after_word-reads (codes "0,") bs)

-- no comma stands first
abbrev NoComma : List ℕ → Type 0
NoComma [] = Unit {0}
NoComma (b ∷ bs) = b ≢ 44

after_byte-other : (byte b : ℕ) (bs : List ℕ) → b ≢ byte → after_byte byte (b ∷ bs) ≡ None
unfolding after_byte
after_byte-other byte b bs h = rw (ne_eqb b byte h) refl

no_comma_behind : (tail : List ℕ) → NoComma tail → after_byte 44 tail ≡ None
unfolding after_byte
no_comma_behind [] h = refl
no_comma_behind (b ∷ bs) h = rw (ne_eqb b 44 h) refl

digits-no_unknown : (d : ℕ) (ds : List ℕ) → IsDigit d → after_word (codes "N/A,") (d ∷ ds) ≡ None
unfolding after_word
digits-no_unknown d ds h = rw (after_byte-other 78 d ds (λ e. absurd (omega (arith, e, h.1)))) refl

digit-no_comma : (d : ℕ) (ds : List ℕ) → IsDigit d → NoComma (d ∷ ds)
digit-no_comma d ds h = λ e. absurd (omega (arith, e, h.0))

zero_or : (d : ℕ) (tail : List ℕ) (o : Option (List ℕ)) → after_byte 48 (d ∷ tail) ≡ o → NoComma tail → (o >>= after_word (codes ",")) ≡ None
unfolding after_word
zero_or d tail None e h = refl
zero_or d tail (Some rest) e h =
    let same : d ∷ tail ≡ 48 ∷ rest = after_byte-reads 48 (d ∷ tail) rest e in
    let behind : tail ≡ rest = ap (λ (xs : List ℕ). rest_of xs) same in
    rw (← behind, no_comma_behind tail h) refl
  where
    rest_of : List ℕ → List ℕ
    rest_of [] = []
    rest_of (x ∷ xs) = xs

digits-no_zero : (d : ℕ) (tail : List ℕ) → NoComma tail → after_word (codes "0,") (d ∷ tail) ≡ None
unfolding after_word
digits-no_zero d tail h = zero_or d tail (after_byte 48 (d ∷ tail)) refl h

behind_digit : (ds tail : List ℕ) → All IsDigit ds → NoComma tail → NoComma (ds ++ tail)
behind_digit [] tail each h = h
behind_digit (d ∷ ds) tail each h = digit-no_comma d (ds ++ tail) (All-head IsDigit d ds each)

digits-no_gain : (digits tail : List ℕ) → IsNumber digits → NoComma tail → behind_gain (digits ++ tail) ≡ digits ++ tail
unfolding behind_gain
digits-no_gain [] tail number h = absurd (omega (arith, number.some))
digits-no_gain (d ∷ ds) tail number h =
    rw (digits-no_unknown d (ds ++ tail) (All-head IsDigit d ds number.each), digits-no_zero d (ds ++ tail) (behind_digit ds tail (All-tail IsDigit d ds number.each) h)) refl

behind_gain-again : (gain : Gain) (digits tail : List ℕ) → IsNumber digits → NoComma tail → behind_gain (gain_text gain ++ (digits ++ tail)) ≡ digits ++ tail
unfolding behind_gain after_word after_byte
behind_gain-again NoGain digits tail number h = digits-no_gain digits tail number h
behind_gain-again UnknownGain digits tail number h = refl
behind_gain-again ZeroGain digits tail number h = refl

-- ---- an amount

-- the text is that of the amount
abbrev pub IsAmountOf : Power → Amount → Type 0
IsAmountOf (Dbm n) (Mbm v) = IsDecimalText 2 n × (v ≡ scaled 2 n) × (v ≤ 65535)
IsAmountOf (OfMilliwatts digits) (Milliwatts mw) = IsNumber digits × (mw ≡ value_of_digits digits) × IsMilliwatts mw
IsAmountOf power amount = ⊥

pub record ReadsAmount (bs : List ℕ) (amount : Amount) (rest : List ℕ) : Type 0 where
  pub power : Power
  pub is : IsAmountOf power amount
  pub parts : bs ≡ power_text power ++ rest

at_amount : (bs : List ℕ) (a amount : Amount) (behind rest : List ℕ) (power : Power) → ◌≡◌ {A = Option (Amount × List ℕ)} (Some (a, behind)) (Some (amount, rest)) → IsAmountOf power a → bs ≡ power_text power ++ behind → ReadsAmount bs amount rest
at_amount bs a amount behind rest power e is parts =
    let p = some_pair_parts a amount behind rest e in
    record { power = power; is = subst (IsAmountOf power) p.0 is; parts = parts ∙ ap (λ (xs : List ℕ). power_text power ++ xs) p.1 }

abbrev some_amount : Amount → List ℕ → Option (Amount × List ℕ)
some_amount amount rest = Some (amount, rest)

some_unless : (v : ℕ) (behind : List ℕ) (amount : Amount) (rest : List ℕ) (t : Bool) → t ≡ (v == 0) → cond t None (some_amount (Milliwatts v) behind) ≡ Some (amount, rest) → (0 < v) × (some_amount (Milliwatts v) behind ≡ Some (amount, rest))
some_unless v behind amount rest true is e = absurd cc
some_unless v behind amount rest false is e = (positive, e)
  where
    positive : 0 < v
    positive = grind (arith, nat_tests)

abbrev milliwatts_or : List ℕ → ℕ → Option (Amount × List ℕ)
milliwatts_or rest value = cond (value == 0) None (some_amount (Milliwatts value) rest)

amount_from-reads : (digits bs : List ℕ) (o : Option (List ℕ)) (amount : Amount) (rest : List ℕ) → IsNumber digits → ((behind : List ℕ) → o ≡ Some behind → bs ≡ codes "mW" ++ behind) → amount_from digits bs o ≡ Some (amount, rest) → ReadsAmount (digits ++ bs) amount rest
amount_from-reads digits bs (Some behind) amount rest number h e =
    let one = bind_some (value_within 1000000 digits) (milliwatts_or behind) (amount, rest) e in
    let value = value_within-reads 1000000 digits one.0 one.1 in
    let some = some_unless one.0 behind amount rest (one.0 == 0) refl one.2 in
    let joined : digits ++ bs ≡ digits ++ codes "mW" ++ behind = ap (λ (xs : List ℕ). digits ++ xs) (h behind refl) ∙ simp append_assoc in
    at_amount (digits ++ bs) (Milliwatts one.0) amount behind rest (OfMilliwatts digits) some.1 (number, value.0, record { least = some.0; most = value.1 }) joined
amount_from-reads digits bs None amount rest number h e =
    let one = bind_some (decimal_from 2 65535 digits bs) mbm_of (amount, rest) e in
    let read = decimal_from-reads 2 65535 digits bs one.0.0 one.0.1 number one.1 in
    let joined : digits ++ bs ≡ digits ++ fraction_text read.fraction ++ one.0.1 = ap (λ (xs : List ℕ). digits ++ xs) read.parts ∙ simp append_assoc in
    at_amount (digits ++ bs) (Mbm one.0.0) amount one.0.1 rest (Dbm (decimal digits read.fraction)) one.2 (read.is, read.value, read.small) joined

abbrev from_digits : List ℕ × List ℕ → Option (Amount × List ℕ)
from_digits digits = amount_from digits.0 digits.1 (after_word (codes "mW") digits.1)

amount_at-reads : (bs : List ℕ) (amount : Amount) (rest : List ℕ) → amount_at bs ≡ Some (amount, rest) → ReadsAmount bs amount rest
unfolding amount_at
amount_at-reads bs amount rest e =
    let one = bind_some (digits_at bs) from_digits (amount, rest) e in
    let number = number_at-reads bs one.0.0 one.0.1 one.1 in
    let read = amount_from-reads one.0.0 one.0.1 (after_word (codes "mW") one.0.1) amount rest number.number (after_word-reads (codes "mW") one.0.1) one.2 in
    record { power = read.power; is = read.is; parts = number.parts ∙ read.parts }

-- what stands behind the first digits of a power and the bracket
abbrev behind_whole : Power → List ℕ → List ℕ
behind_whole (Dbm n) rest = fraction_text n.fraction ++ 41 ∷ rest
behind_whole (OfMilliwatts digits) rest = codes "mW" ++ 41 ∷ rest

abbrev whole_of : Power → List ℕ
whole_of (Dbm n) = n.whole
whole_of (OfMilliwatts digits) = digits

power-cells : (power : Power) (rest : List ℕ) → power_text power ++ 41 ∷ rest ≡ whole_of power ++ behind_whole power rest
power-cells (Dbm n) rest = append_assoc n.whole (fraction_text n.fraction) (41 ∷ rest)
power-cells (OfMilliwatts digits) rest = append_assoc digits (codes "mW") (41 ∷ rest)

whole-number : (power : Power) (amount : Amount) → IsAmountOf power amount → IsNumber (whole_of power)
whole-number (Dbm n) (Mbm v) h = h.0.whole
whole-number (Dbm n) (Milliwatts mw) h = absurd h
whole-number (OfMilliwatts digits) (Mbm v) h = absurd h
whole-number (OfMilliwatts digits) (Milliwatts mw) h = h.0

fraction-no_comma : (fraction rest : List ℕ) → NoComma (fraction_text fraction ++ 41 ∷ rest)
fraction-no_comma [] rest = λ e. absurd (omega (arith, e))
fraction-no_comma (d ∷ ds) rest = λ e. absurd (omega (arith, e))

whole-no_comma : (power : Power) (rest : List ℕ) → NoComma (behind_whole power rest)
whole-no_comma (Dbm n) rest = fraction-no_comma n.fraction rest
whole-no_comma (OfMilliwatts digits) rest = λ e. absurd (omega (arith, e))

fraction-no_unit : (fraction rest : List ℕ) → after_word (codes "mW") (fraction_text fraction ++ 41 ∷ rest) ≡ None
unfolding after_word after_byte
fraction-no_unit [] rest = refl
fraction-no_unit (d ∷ ds) rest = refl

milliwatts_of-again : (digits rest : List ℕ) (mw : ℕ) → mw ≡ value_of_digits digits → IsMilliwatts mw → milliwatts_of digits rest ≡ Some (Milliwatts mw, rest)
milliwatts_of-again digits rest mw is h =
    let within : value_within 1000000 digits ≡ Some mw = value_within-again 1000000 digits (rw (← is) h.most) ∙ ap (λ (n : ℕ). Some n) (sym is) in
    let some : (mw == 0) ≡ false = ne_eqb mw 0 (λ e. absurd (omega (arith, e, h.least))) in
    rw (within, some) refl

amount_at-again : (power : Power) (amount : Amount) (rest : List ℕ) → IsAmountOf power amount → amount_at (whole_of power ++ behind_whole power rest) ≡ Some (amount, 41 ∷ rest)
unfolding amount_at
amount_at-again (Dbm n) (Mbm v) rest h =
    let ends : EndsDecimal (41 ∷ rest) = (refl, refl) in
    let small : scaled 2 n ≤ 65535 = rw (← h.1) h.2 in
    rw (
      number_at-again n.whole (fraction_text n.fraction ++ 41 ∷ rest) h.0.whole (fraction-no_digit n.fraction (41 ∷ rest) ends),
      fraction-no_unit n.fraction rest,
      decimal_from-again 2 65535 n (41 ∷ rest) h.0 small ends,
      ← h.1,
    ) refl
amount_at-again (Dbm n) (Milliwatts mw) rest h = absurd h
amount_at-again (OfMilliwatts digits) (Mbm v) rest h = absurd h
amount_at-again (OfMilliwatts digits) (Milliwatts mw) rest h =
    rw (number_at-again digits (codes "mW" ++ 41 ∷ rest) h.0 refl, after_word-again (codes "mW") (41 ∷ rest)) (milliwatts_of-again digits (41 ∷ rest) mw h.1 h.2)

-- ---- the power

abbrev closed_power : Amount × List ℕ → List ℕ → Option (Amount × List ℕ)
closed_power amount rest = Some (amount.0, rest)

abbrev with_amount : Amount × List ℕ → Option (Amount × List ℕ)
with_amount amount = after_byte 41 amount.1 >>= closed_power amount

abbrev behind_opening : List ℕ → Option (Amount × List ℕ)
behind_opening one = amount_at (behind_gain one) >>= with_amount

pub record ReadsPower (bs : List ℕ) (amount : Amount) (rest : List ℕ) : Type 0 where
  pub gain : Gain
  pub power : Power
  pub is : IsAmountOf power amount
  pub parts : bs ≡ power_part gain power ++ rest

power_part-cells : (gain : Gain) (power : Power) (rest : List ℕ) → power_part gain power ++ rest ≡ codes ",(" ++ (gain_text gain ++ (power_text power ++ 41 ∷ rest))
power_part-cells gain power rest = simp append_assoc

power_joined : (bs one two three rest : List ℕ) (gain : Gain) (power : Power) → bs ≡ codes ",(" ++ one → one ≡ gain_text gain ++ two → two ≡ power_text power ++ three → three ≡ 41 ∷ rest → bs ≡ power_part gain power ++ rest
power_joined bs one two three rest gain power a b c d = a ∙ rw (b, c, d) (sym (power_part-cells gain power rest))

pub power_at-reads : (bs : List ℕ) (amount : Amount) (rest : List ℕ) → power_at bs ≡ Some (amount, rest) → ReadsPower bs amount rest
unfolding power_at
power_at-reads bs amount rest e =
    let one = bind_some (after_word (codes ",(") bs) behind_opening (amount, rest) e in
    let two = bind_some (amount_at (behind_gain one.0)) with_amount (amount, rest) one.2 in
    let three = bind_some (after_byte 41 two.0.1) (closed_power two.0) (amount, rest) two.2 in
    let p = some_pair_parts two.0.0 amount three.0 rest three.2 in
    let gain = behind_gain-reads one.0 in
    let read = amount_at-reads (behind_gain one.0) two.0.0 two.0.1 two.1 in
    let close : two.0.1 ≡ 41 ∷ rest = after_byte-reads 41 two.0.1 three.0 three.1 ∙ ap (λ (xs : List ℕ). 41 ∷ xs) p.1 in
    record {
      gain = gain.0;
      power = read.power;
      is = subst (IsAmountOf read.power) p.0 read.is;
      parts = power_joined bs one.0 (behind_gain one.0) two.0.1 rest gain.0 read.power (after_word-reads (codes ",(") bs one.0 one.1) gain.1 read.parts close;
    }

pub power_at-again : (gain : Gain) (power : Power) (amount : Amount) (rest : List ℕ) → IsAmountOf power amount → power_at (power_part gain power ++ rest) ≡ Some (amount, rest)
unfolding power_at
power_at-again gain power amount rest h =
    let number = whole-number power amount h in
    rw (
      power_part-cells gain power rest,
      power-cells power rest,
      after_word-again (codes ",(") (gain_text gain ++ (whole_of power ++ behind_whole power rest)),
      behind_gain-again gain (whole_of power) (behind_whole power rest) number (whole-no_comma power rest),
      amount_at-again power amount rest h,
      after_byte-again 41 rest,
    ) refl

-- ---- amounts in mBm

pub amount-means : (power : Power) (amount : Amount) (mbm : ℕ) → IsAmountOf power amount → MeansMbm amount mbm → IsPower power mbm
amount-means (Dbm n) (Mbm v) mbm h e = (h.0, e ∙ h.1, rw e h.2)
amount-means (Dbm n) (Milliwatts mw) mbm h e = absurd h
amount-means (OfMilliwatts digits) (Mbm v) mbm h e = absurd h
amount-means (OfMilliwatts digits) (Milliwatts mw) mbm h e = (h.0, rw (← h.1) e)

pub power-amount : (power : Power) (mbm : ℕ) → IsPower power mbm → (amount : Amount) × IsAmountOf power amount × MeansMbm amount mbm
power-amount (Dbm n) mbm h = (Mbm mbm, h, refl)
power-amount (OfMilliwatts digits) mbm h = (Milliwatts (value_of_digits digits), (h.0, refl, h.1.in_range), h.1)

pub amount-range : (power : Power) (amount : Amount) → IsAmountOf power amount → IsAmount amount
amount-range (Dbm n) (Mbm v) h = h.2
amount-range (Dbm n) (Milliwatts mw) h = absurd h
amount-range (OfMilliwatts digits) (Mbm v) h = absurd h
amount-range (OfMilliwatts digits) (Milliwatts mw) h = h.2
