-- The printed line of a rule is the line of that rule.
use Rattle.std.proofs.Common.{◌≡◌, ℕ, ◌/◌, ◌^◌, ◌<◌, ◌≤◌, List, [], ◌∷◌, ◌++◌, length, All, Option, None, arith, refl, sym, subst, append_assoc, inl, inr}
use Rattle.std.specs.Prelude.{codes}
use Rattle.std.specs.Fmt.{decimal}
use Rattle.std.proofs.lemmas.List.Elements.{All-cons, All-weaker}
use Rattle.freq_range.specs.Valid.{IsValidRule}
use Rattle.freq_range.specs.declared.rule.Rule.{Rule}
use Rattle.db_text.specs.Printed.{wmm_name}
use Rattle.db_text.specs.PrintedNumbers.{dbm_of, dbm_text, mhz_of, decimal_mhz_text}
use Rattle.db_text.specs.PrintedRules.{flags_part, name_part, printed_rule, rule_part}
use Rattle.text_lines.specs.Spelling.{Decimal, IsDecimalText, IsDigit, IsWmmName, IsNameByte, IsRuleLine, RuleText, band_text, decimal_text, fraction_text, power_part, words_text}
use Rattle.text_lines.specs.Spelling.Gain.{NoGain}
use Rattle.text_lines.specs.Spelling.Power.{Dbm}
use Rattle.db_text.proofs.PlainLines.{Prints, joined, prints_digits}
use Rattle.db_text.proofs.PrintedDigits.{dbm_decimal, dbm_value, decimal_digits, decimal_short, mhz_decimal, mhz_value}
use Rattle.db_text.proofs.PrintedWords.{IsNamed, printed_are_words, printed_flags, printed_kept, printed_names, printed_words, prints_words}

-- ---- names

pub wmm_name-prints : (k : ℕ) → k < 2 ^ 64 → Prints (wmm_name k) (wmm_name k) 21
unfolding wmm_name
wmm_name-prints k small =
    joined (codes "w") (decimal k) (codes "w") (decimal k) 1 20 21 (record { plain = refl; solid = refl; short = omega arith })
    (prints_digits (decimal k) 20 (decimal_digits k small) (decimal_short k small)) (omega arith)

pub wmm_name-is : (k : ℕ) → k < 2 ^ 64 → IsWmmName (wmm_name k)
unfolding wmm_name
wmm_name-is k small = record {
  some = omega arith;
  few = let short = decimal_short k small in omega (arith, short);
  each = All-cons IsNameByte 119 (decimal k) (inr (inl (omega arith, omega arith)))
      (All-weaker IsDigit IsNameByte (λ b digit. inr (inr (inl digit))) (decimal k) (decimal_digits k small));
}

-- ---- numbers

prints_fraction : (ds : List ℕ) → All IsDigit ds → length ds ≤ 3 → Prints (fraction_text ds) (fraction_text ds) 4
prints_fraction [] each short = record { plain = refl; solid = refl; short = omega arith }
prints_fraction (d ∷ ds) each short =
    joined (codes ".") (d ∷ ds) (codes ".") (d ∷ ds) 1 3 4 (record { plain = refl; solid = refl; short = omega arith }) (prints_digits (d ∷ ds) 3 each short) (omega arith)

prints_decimal : (n : Decimal) (places : ℕ) → IsDecimalText places n → places ≤ 3 → length n.whole ≤ 20 → Prints (decimal_text n) (decimal_text n) 24
prints_decimal n places is few short =
    let less = is.short in
    joined n.whole (fraction_text n.fraction) n.whole (fraction_text n.fraction) 20 4 24 (prints_digits n.whole 20 is.whole.each short)
    (prints_fraction n.fraction is.fraction (omega (arith, few, less))) (omega arith)

prints_mhz : (khz : ℕ) → khz < 2 ^ 32 → Prints (decimal_mhz_text khz) (decimal_text (mhz_of khz)) 24
unfolding decimal_mhz_text
prints_mhz khz small = prints_decimal (mhz_of khz) 3 (mhz_decimal khz small) (omega arith) (decimal_short (khz / 1000) (omega arith))

prints_dbm : (mbm : ℕ) → mbm < 2 ^ 16 → Prints (dbm_text mbm) (decimal_text (dbm_of mbm)) 24
unfolding dbm_text
prints_dbm mbm small = prints_decimal (dbm_of mbm) 2 (dbm_decimal mbm small) (omega arith) (decimal_short (mbm / 100) (omega arith))

-- ---- the line

unfoldable text_of : Rule → Option (List ℕ) → RuleText
text_of rule name = record {
  band = record { start = mhz_of rule.start_khz; end = mhz_of rule.end_khz; width = mhz_of rule.max_bw_khz };
  gain = NoGain;
  power = Dbm (dbm_of rule.eirp_mbm);
  words = printed_words rule.flags name;
}

-- what counts of the printed line
unfoldable pub squeezed_rule : Rule → Option (List ℕ) → List ℕ
unfolding text_of
squeezed_rule rule name = let t = text_of rule name in band_text t.band ++ power_part t.gain t.power ++ words_text t.words

regroup : (x d w : List ℕ) → x ++ codes "),(" ++ d ++ codes ")" ++ w ≡ (x ++ codes ")") ++ (codes ",(" ++ [] ++ d ++ codes ")") ++ w
regroup x d w = simp append_assoc

same_prints : {a b p q : List ℕ} (n : ℕ) → a ≡ b → p ≡ q → Prints b p n → Prints a q n
same_prints {a} {b} {p} {q} n e f prints = subst (λ t. Prints a t n) f (subst (λ t. Prints t p n) (sym e) prints)

-- the band, the power and the words, one after another
rule_pieces : (a b c d w p q r t v : List ℕ) → Prints a p 24 → Prints b q 24 → Prints c r 24 → Prints d t 24 → Prints w v 92
    → Prints (codes "(" ++ a ++ codes " - " ++ b ++ codes " @ " ++ c ++ codes "), (" ++ d ++ codes ")" ++ w) (codes "(" ++ p ++ codes "-" ++ q ++ codes "@" ++ r ++ codes "),(" ++ t ++ codes ")" ++ v) 200
rule_pieces a b c d w p q r t v one two three four five =
    let s1 = joined (codes "(") a (codes "(") p 1 24 25 (record { plain = refl; solid = refl; short = omega arith }) one (omega arith) in
    let s2 = joined _ (codes " - ") _ (codes "-") 25 3 28 s1 (record { plain = refl; solid = refl; short = omega arith }) (omega arith) in
    let s3 = joined _ b _ q 28 24 52 s2 two (omega arith) in
    let s4 = joined _ (codes " @ ") _ (codes "@") 52 3 55 s3 (record { plain = refl; solid = refl; short = omega arith }) (omega arith) in
    let s5 = joined _ c _ r 55 24 79 s4 three (omega arith) in
    let s6 = joined _ (codes "), (") _ (codes "),(") 79 4 83 s5 (record { plain = refl; solid = refl; short = omega arith }) (omega arith) in
    let s7 = joined _ d _ t 83 24 107 s6 four (omega arith) in
    let s8 = joined _ (codes ")") _ (codes ")") 107 1 108 s7 (record { plain = refl; solid = refl; short = omega arith }) (omega arith) in
    joined _ w _ v 108 92 200 s8 five (omega arith)

pub prints_rule : (rule : Rule) (name : Option (List ℕ)) → IsValidRule rule → IsNamed name → Prints (printed_rule rule name) (squeezed_rule rule name) 200
unfolding rule_part squeezed_rule text_of
prints_rule rule name valid named =
    let e1 = valid.in_order in
    let e2 = valid.wide_enough in
    let e3 = valid.end_fits in
    let pieces = rule_pieces (decimal_mhz_text rule.start_khz) (decimal_mhz_text rule.end_khz) (decimal_mhz_text rule.max_bw_khz) (dbm_text rule.eirp_mbm) (flags_part rule.flags ++ name_part name)
    (decimal_text (mhz_of rule.start_khz)) (decimal_text (mhz_of rule.end_khz)) (decimal_text (mhz_of rule.max_bw_khz)) (decimal_text (dbm_of rule.eirp_mbm)) (words_text (printed_words rule.flags name))
    (prints_mhz rule.start_khz (omega (arith, e1, e3))) (prints_mhz rule.end_khz e3) (prints_mhz rule.max_bw_khz (omega (arith, e1, e2, e3)))
    (prints_dbm rule.eirp_mbm valid.power_fits) (prints_words rule.flags name named) in
    same_prints 200
    (append_assoc (codes "(" ++ decimal_mhz_text rule.start_khz ++ codes " - " ++ decimal_mhz_text rule.end_khz ++ codes " @ " ++ decimal_mhz_text rule.max_bw_khz ++ codes "), (" ++ dbm_text rule.eirp_mbm ++ codes ")")
    (flags_part rule.flags) (name_part name))
    (regroup (codes "(" ++ decimal_text (mhz_of rule.start_khz) ++ codes "-" ++ decimal_text (mhz_of rule.end_khz) ++ codes "@" ++ decimal_text (mhz_of rule.max_bw_khz))
    (decimal_text (dbm_of rule.eirp_mbm)) (words_text (printed_words rule.flags name)))
    pieces

-- the rule without its WMM rule, as its line says it
abbrev pub bare_rule : Rule → Rule
bare_rule rule = record rule { wmm = None }

pub printed_rule_line : (rule : Rule) (name : Option (List ℕ)) → IsValidRule rule → rule.cac_s ≡ 0 → IsNamed name → IsRuleLine (squeezed_rule rule name) (bare_rule rule) name
unfolding squeezed_rule text_of
printed_rule_line rule name valid no_time named = record {
  text = text_of rule name;
  is = record {
    spelled = refl;
    band = record {
      start_decimal = mhz_decimal rule.start_khz (let e1 = valid.in_order in let e3 = valid.end_fits in omega (arith, e1, e3));
      end_decimal = mhz_decimal rule.end_khz valid.end_fits;
      width_decimal = mhz_decimal rule.max_bw_khz (let e1 = valid.in_order in let e2 = valid.wide_enough in let e3 = valid.end_fits in omega (arith, e1, e2, e3));
      start_khz = mhz_value rule.start_khz (let e1 = valid.in_order in let e3 = valid.end_fits in omega (arith, e1, e3));
      end_khz = mhz_value rule.end_khz valid.end_fits;
      width_khz = mhz_value rule.max_bw_khz (let e1 = valid.in_order in let e2 = valid.wide_enough in let e3 = valid.end_fits in omega (arith, e1, e2, e3));
      above_zero = valid.above_zero;
      in_order = valid.in_order;
      wide_enough = valid.wide_enough;
      end_fits = valid.end_fits;
    };
    power = (dbm_decimal rule.eirp_mbm valid.power_fits, dbm_value rule.eirp_mbm valid.power_fits, let fits = valid.power_fits in omega (arith, fits));
    words = printed_are_words rule.flags name named;
    flags = printed_flags rule.flags name;
    check_time = no_time;
    wmm = refl;
  };
  kept = printed_kept rule.flags name;
  named = printed_names rule.flags name;
}
