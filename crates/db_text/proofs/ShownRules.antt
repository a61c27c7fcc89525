-- The bytes and the length of a rule's printed line.
use Rattle.std.proofs.Common.{◌≡◌, ℕ, ◌+◌, ◌/◌, ◌^◌, ◌<◌, ◌≤◌, ◌&&◌, ◌==◌, Bool, true, false, not, List, [], ◌∷◌, ◌++◌, length, get_or, All, arith, refl, ◌∙◌}
use Rattle.std.specs.Prelude.{codes, nat_le}
use Rattle.std.specs.List.{list_all}
use Rattle.std.proofs.lemmas.Bool.Decides.{nat_tests}
use Rattle.std.proofs.lemmas.Fmt.{length-decimal-le}
use Rattle.std.proofs.lemmas.List.{length-append}
use Rattle.std.proofs.lemmas.List.Elements.{All-head, All-tail}
use Rattle.std.proofs.lemmas.List.Folds.{list_all-append}
use Rattle.std.proofs.lemmas.List.Sums.{AllPass-from_list_all}
use Rattle.freq_range.specs.declared.flags.RuleFlags.{RuleFlags}
use Rattle.freq_range.specs.declared.rule.Rule.{Rule}
use Rattle.text_lines.specs.Spelling.{Decimal, IsDecimalText, IsDigit, decimal_text, fraction_text}
use Rattle.text_lines.specs.declared.form.Flag.{Flag}
use Rattle.text_lines.specs.declared.form.Flag.TheVariants.{NoOfdm, NoOutdoor, Dfs, NoIr, AutoBw}
use Rattle.db_text.specs.PrintedNumbers.{dbm_of, dbm_text, mhz_of, decimal_mhz_text}
use Rattle.db_text.specs.PrintedRules.{IsShownByte, flag_part, flags_part, rule_part}
use Rattle.db_text.proofs.PlainLines.{both}
use Rattle.db_text.proofs.PrintedDigits.{dbm_decimal, mhz_decimal}

abbrev is_shown : ℕ → Bool
is_shown b = nat_le 32 b && nat_le b 126 && not (b == 59) && not (b == 35)

-- the bytes of the piece are shown, and there are at most so many
pub record Shows (piece : List ℕ) (n : ℕ) : Type 0 where
  pub shown : list_all is_shown piece ≡ true
  pub short : length piece ≤ n

more : (a b : List ℕ) (m n k : ℕ) → Shows a m → Shows b n → m + n ≤ k → Shows (a ++ b) k
more a b m n k one two le = record {
  shown = list_all-append is_shown a b ∙ both (list_all is_shown a) (list_all is_shown b) one.shown two.shown;
  short = let len = length-append a b in let s = one.short in let t = two.short in omega (arith, len, s, t);
}

-- ---- bytes

shown_byte : (b : ℕ) → is_shown b ≡ true → IsShownByte b
shown_byte b is = record { from_blank = grind (arith, nat_tests); to_tilde = grind (arith, nat_tests); no_semicolon = grind (arith, nat_tests); no_hash = grind (arith, nat_tests) }

pub all_shown : (piece : List ℕ) (n : ℕ) → Shows piece n → All IsShownByte piece
all_shown piece n shows k d less = shown_byte (get_or piece k d) (AllPass-from_list_all is_shown piece shows.shown k d less)

-- ---- numbers

shown_digit : (d : ℕ) → 48 ≤ d → d ≤ 57 → is_shown d ≡ true
shown_digit d low high = grind (arith, nat_tests)

shown_digits : (ds : List ℕ) → All IsDigit ds → list_all is_shown ds ≡ true
shown_digits [] each = refl
shown_digits (d ∷ ds) each =
    let here = All-head IsDigit d ds each in
    both (is_shown d) (list_all is_shown ds) (shown_digit d here.0 here.1) (shown_digits ds (All-tail IsDigit d ds each))

shows_digits : (ds : List ℕ) (n : ℕ) → All IsDigit ds → length ds ≤ n → Shows ds n
shows_digits ds n each short = record { shown = shown_digits ds each; short = short }

shows_fraction : (ds : List ℕ) (n : ℕ) → All IsDigit ds → length ds ≤ n → Shows (fraction_text ds) (n + 1)
shows_fraction [] n each short = record { shown = refl; short = omega arith }
shows_fraction (d ∷ ds) n each short = more (codes ".") (d ∷ ds) 1 n (n + 1) (record { shown = refl; short = omega arith }) (shows_digits (d ∷ ds) n each short) (omega arith)

shows_decimal : (t : Decimal) (whole places n : ℕ) → IsDecimalText places t → length t.whole ≤ whole → whole + (places + 1) ≤ n → Shows (decimal_text t) n
shows_decimal t whole places n is short le =
    more t.whole (fraction_text t.fraction) whole (places + 1) n (shows_digits t.whole whole is.whole.each short) (shows_fraction t.fraction places is.fraction is.short) le

shows_mhz : (khz : ℕ) → khz < 2 ^ 32 → Shows (decimal_mhz_text khz) 11
unfolding decimal_mhz_text
shows_mhz khz small = shows_decimal (mhz_of khz) 7 3 11 (mhz_decimal khz small) (length-decimal-le 7 (khz / 1000) (omega arith) (omega arith) (omega arith)) (omega arith)

shows_dbm : (mbm : ℕ) → mbm < 2 ^ 16 → Shows (dbm_text mbm) 6
unfolding dbm_text
shows_dbm mbm small = shows_decimal (dbm_of mbm) 3 2 6 (dbm_decimal mbm small) (length-decimal-le 3 (mbm / 100) (omega arith) (omega arith) (omega arith)) (omega arith)

-- ---- flags

shows_if : (set : Bool) (flag : Flag) (n : ℕ) → Shows (flag_part true flag) n → Shows (flag_part set flag) n
shows_if true flag n is = is
shows_if false flag n is = record { shown = refl; short = omega arith }

shows_flags : (f : RuleFlags) → Shows (flags_part f) 42
unfolding flags_part
shows_flags f =
    let a = shows_if f.no_ofdm NoOfdm 9 (record { shown = refl; short = omega arith }) in
    let b = shows_if f.no_outdoor NoOutdoor 12 (record { shown = refl; short = omega arith }) in
    let c = shows_if f.dfs Dfs 5 (record { shown = refl; short = omega arith }) in
    let d = shows_if f.auto_bw AutoBw 9 (record { shown = refl; short = omega arith }) in
    let e = shows_if f.no_ir NoIr 7 (record { shown = refl; short = omega arith }) in
    more _ _ 35 7 42 (more _ _ 26 9 35 (more _ _ 21 5 26 (more _ _ 9 12 21 a b (omega arith)) c (omega arith)) d (omega arith)) e (omega arith)

-- ---- the line

rule_pieces : (a b c d w : List ℕ) → Shows a 11 → Shows b 11 → Shows c 11 → Shows d 6 → Shows w 42
    → Shows (codes "(" ++ a ++ codes " - " ++ b ++ codes " @ " ++ c ++ codes "), (" ++ d ++ codes ")" ++ w) 93
rule_pieces a b c d w one two three four five =
    let s1 = more (codes "(") a 1 11 12 (record { shown = refl; short = omega arith }) one (omega arith) in
    let s2 = more (codes "(" ++ a) (codes " - ") 12 3 15 s1 (record { shown = refl; short = omega arith }) (omega arith) in
    let s3 = more _ b 15 11 26 s2 two (omega arith) in
    let s4 = more _ (codes " @ ") 26 3 29 s3 (record { shown = refl; short = omega arith }) (omega arith) in
    let s5 = more _ c 29 11 40 s4 three (omega arith) in
    let s6 = more _ (codes "), (") 40 4 44 s5 (record { shown = refl; short = omega arith }) (omega arith) in
    let s7 = more _ d 44 6 50 s6 four (omega arith) in
    let s8 = more _ (codes ")") 50 1 51 s7 (record { shown = refl; short = omega arith }) (omega arith) in
    more _ w 51 42 93 s8 five (omega arith)

pub shows_rule : (rule : Rule) → rule.start_khz < 2 ^ 32 → rule.end_khz < 2 ^ 32 → rule.max_bw_khz < 2 ^ 32 → rule.eirp_mbm < 2 ^ 16 → Shows (rule_part rule) 93
unfolding rule_part
shows_rule rule start end width power =
    rule_pieces (decimal_mhz_text rule.start_khz) (decimal_mhz_text rule.end_khz) (decimal_mhz_text rule.max_bw_khz) (dbm_text rule.eirp_mbm) (flags_part rule.flags)
    (shows_mhz rule.start_khz start) (shows_mhz rule.end_khz end) (shows_mhz rule.max_bw_khz width) (shows_dbm rule.eirp_mbm power) (shows_flags rule.flags)
