-- The line of rules is read as these rules.
use Rattle.std.proofs.Common.{◌≡◌, ℕ, ◌+◌, ◌*◌, ◌^◌, ◌<◌, ◌≤◌, zero, suc, Bool, true, false, List, [], ◌∷◌, ◌++◌, length, get_or, take, All, None, refl, ap, ◌∙◌, sym, subst, arith}
use Rattle.std.specs.Prelude.{codes, ◌==◌}
use Rattle.std.specs.List.{AllZip, flat_map, list_all, position_or_len}
use Rattle.std.specs.Str.{IsAscii}
use Rattle.std.proofs.lemmas.Bool.{ne_eqb}
use Rattle.std.proofs.lemmas.Bool.Decides.{nat_tests}
use Rattle.std.proofs.lemmas.List.{length-append}
use Rattle.std.proofs.lemmas.List.Elements.{All-cons, All-head, All-tail, All-weaker}
use Rattle.std.proofs.lemmas.List.Folds.{list_all-append}
use Rattle.std.proofs.lemmas.List.Splits.{slice_split_at, slice_split_none}
use Rattle.std.proofs.lemmas.List.Sums.{list_all-from_AllPass}
use Rattle.std.proofs.lemmas.Str.{IsUtf8-from_ascii}
use Rattle.freq_range.specs.Valid.{IsValidRule}
use Rattle.freq_range.specs.declared.flags.RuleFlags.{RuleFlags}
use Rattle.freq_range.specs.declared.rule.Rule.{Rule}
use Rattle.text_lines.specs.LineFaults.{AppliesToRule, IsTextOfRule}
use Rattle.text_lines.specs.Lines.{bare, solid}
use Rattle.text_lines.specs.Spelling.{IsDecimalText, IsDigit, IsRuleLine, Decimal, decimal_text, fraction_text}
use Rattle.text_lines.specs.declared.fault.TextKind.{TextKind}
use Rattle.text_lines.specs.declared.fault.TextKind.TheVariants.{LineTooLong, NotUtf8, BadLine, NoBlock, BadCountry, BadRegion, RegionDiffers, BadBand, BadPower, BadFlag, FlagNotInVersion, NoWmm, BadWmm, WmmTwice, TooManyRules, WmmShort, NoRules}
use Rattle.text_lines.specs.declared.form.Flag.{Flag}
use Rattle.text_lines.specs.declared.form.Flag.TheVariants.{NoOfdm, NoOutdoor, Dfs, NoIr, AutoBw}
use Rattle.db_text.specs.PrintedNumbers.{dbm_of, dbm_text, decimal_mhz_text, mhz_of}
use Rattle.db_text.specs.PrintedRules.{IsShownByte, flag_part, flags_part, printed_rule, rule_part}
use Rattle.db_text.proofs.PrintedDigits.{dbm_decimal, mhz_decimal}
use Rattle.db_text.proofs.PrintedText.{printed_rule_reads}
use Rattle.db_text.proofs.ShownRules.{Shows, all_shown, shows_rule}
use Rattle.line_forms.specs.Forms.{AreRulesOfText, rule_parts}
use Rattle.line_printing.specs.Printed.{rules_line}
use Rattle.line_printing.proofs.JoinedWords.{append-none, both, shows}
use Rattle.line_printing.proofs.TidyTexts.{Goes, goes, is_tidy, piece-false, piece-true}

-- a rule that a line can give
abbrev pub IsLineRule : Rule → Type 0
IsLineRule rule = IsValidRule rule × (rule.cac_s ≡ 0) × (rule.wmm ≡ None)

-- ---- numbers stand in words

digit-shows : (b : ℕ) → IsDigit b → shows b ≡ true
digit-shows b is = let low = is.0 in let high = is.1 in grind (arith, nat_tests)

digits-show : (ds : List ℕ) → All IsDigit ds → list_all shows ds ≡ true
digits-show ds each = list_all-from_AllPass shows ds (All-weaker IsDigit (λ b. shows b ≡ true) digit-shows ds each)

fraction-shows : (ds : List ℕ) → All IsDigit ds → list_all shows (fraction_text ds) ≡ true
fraction-shows [] each = refl
fraction-shows (d ∷ ds) each = digits-show (d ∷ ds) each

decimal-text-shows : (t : Decimal) (places : ℕ) → IsDecimalText places t → list_all shows (decimal_text t) ≡ true
decimal-text-shows t places is =
    list_all-append shows t.whole (fraction_text t.fraction)
    ∙ both (list_all shows t.whole) (list_all shows (fraction_text t.fraction)) (digits-show t.whole is.whole.each) (fraction-shows t.fraction is.fraction)

decimal-text-some : (t : Decimal) (places : ℕ) → IsDecimalText places t → 1 ≤ length (decimal_text t)
decimal-text-some t places is = let some = is.whole.some in let len = length-append t.whole (fraction_text t.fraction) in omega (arith, some, len)

mhz-goes : (behind : Bool) (khz : ℕ) → khz < 2 ^ 32 → Goes behind (decimal_mhz_text khz) false
unfolding decimal_mhz_text
mhz-goes true khz small rest = let is = mhz_decimal khz small in piece-true (decimal_text (mhz_of khz)) rest (decimal-text-shows (mhz_of khz) 3 is) (decimal-text-some (mhz_of khz) 3 is)
mhz-goes false khz small rest = piece-false (decimal_text (mhz_of khz)) rest (decimal-text-shows (mhz_of khz) 3 (mhz_decimal khz small))

dbm-goes : (mbm : ℕ) → mbm < 2 ^ 16 → Goes false (dbm_text mbm) false
unfolding dbm_text
dbm-goes mbm small rest = piece-false (decimal_text (dbm_of mbm)) rest (decimal-text-shows (dbm_of mbm) 2 (dbm_decimal mbm small))

-- ---- a printed rule is words parted by blanks

flag-goes : (set : Bool) (flag : Flag) → Goes false (flag_part true flag) false → Goes false (flag_part set flag) false
flag-goes true flag is = is
flag-goes false flag is = λ rest. refl

flags-go : (f : RuleFlags) → Goes false (flags_part f) false
unfolding flags_part
flags-go f =
    let a = flag-goes f.no_ofdm NoOfdm (λ rest. refl) in
    let b = flag-goes f.no_outdoor NoOutdoor (λ rest. refl) in
    let c = flag-goes f.dfs Dfs (λ rest. refl) in
    let d = flag-goes f.auto_bw AutoBw (λ rest. refl) in
    let e = flag-goes f.no_ir NoIr (λ rest. refl) in
    let two = goes false false false (flag_part f.no_ofdm NoOfdm) (flag_part f.no_outdoor NoOutdoor) a b in
    let three = goes false false false (flag_part f.no_ofdm NoOfdm ++ flag_part f.no_outdoor NoOutdoor) (flag_part f.dfs Dfs) two c in
    let four = goes false false false (flag_part f.no_ofdm NoOfdm ++ flag_part f.no_outdoor NoOutdoor ++ flag_part f.dfs Dfs) (flag_part f.auto_bw AutoBw) three d in
    goes false false false (flag_part f.no_ofdm NoOfdm ++ flag_part f.no_outdoor NoOutdoor ++ flag_part f.dfs Dfs ++ flag_part f.auto_bw AutoBw) (flag_part f.no_ir NoIr) four e

pieces-go : (a b c d w : List ℕ) → Goes false a false → Goes true b false → Goes true c false → Goes false d false → Goes false w false
    → Goes true (codes "(" ++ a ++ codes " - " ++ b ++ codes " @ " ++ c ++ codes "), (" ++ d ++ codes ")" ++ w) false
pieces-go a b c d w one two three four five =
    let t1 = codes "(" ++ a in
    let s1 = goes true false false (codes "(") a (λ rest. refl) one in
    let t2 = t1 ++ codes " - " in
    let s2 = goes true false true t1 (codes " - ") s1 (λ rest. refl) in
    let t3 = t2 ++ b in
    let s3 = goes true true false t2 b s2 two in
    let t4 = t3 ++ codes " @ " in
    let s4 = goes true false true t3 (codes " @ ") s3 (λ rest. refl) in
    let t5 = t4 ++ c in
    let s5 = goes true true false t4 c s4 three in
    let t6 = t5 ++ codes "), (" in
    let s6 = goes true false false t5 (codes "), (") s5 (λ rest. refl) in
    let t7 = t6 ++ d in
    let s7 = goes true false false t6 d s6 four in
    let t8 = t7 ++ codes ")" in
    let s8 = goes true false false t7 (codes ")") s7 (λ rest. refl) in
    goes true false false t8 w s8 five

part-goes : (rule : Rule) → IsValidRule rule → Goes true (rule_part rule) false
unfolding rule_part
part-goes rule is =
    let end = is.end_fits in
    let order = is.in_order in
    let wide = is.wide_enough in
    pieces-go (decimal_mhz_text rule.start_khz) (decimal_mhz_text rule.end_khz) (decimal_mhz_text rule.max_bw_khz) (dbm_text rule.eirp_mbm) (flags_part rule.flags)
    (mhz-goes false rule.start_khz (omega (arith, end, order))) (mhz-goes true rule.end_khz end) (mhz-goes true rule.max_bw_khz (omega (arith, end, wide))) (dbm-goes rule.eirp_mbm is.power_fits) (flags-go rule.flags)

rule-goes : (rule : Rule) → IsValidRule rule → Goes true (printed_rule rule None) false
rule-goes rule is = goes true false false (rule_part rule) [] (part-goes rule is) (λ rest. refl)

-- each rule behind `; `
abbrev more_rules : List Rule → List ℕ
more_rules rules = flat_map (λ next. codes "; " ++ printed_rule next None) rules

abbrev AllLine : List Rule → Type 0
AllLine [] = Unit {0}
AllLine (rule ∷ rules) = IsLineRule rule × AllLine rules

more-tidy : (rules : List Rule) → AllLine rules → is_tidy false (more_rules rules) ≡ true
more-tidy [] each = refl
more-tidy (rule ∷ rules) (here, behind) = rule-goes rule here.0 (more_rules rules) ∙ more-tidy rules behind

-- ---- each part says its rule

small-rule : (rule : Rule) → IsLineRule rule → Shows (rule_part rule) 93
small-rule rule is =
    let end = is.0.end_fits in
    let order = is.0.in_order in
    let wide = is.0.wide_enough in
    shows_rule rule (omega (arith, end, order)) end (omega (arith, end, wide)) is.0.power_fits

shows-printed : (rule : Rule) → IsLineRule rule → Shows (printed_rule rule None) 93
shows-printed rule is = subst (λ l. Shows l 93) (sym (append-none (rule_part rule))) (small-rule rule is)

shown-printed : (rule : Rule) → IsLineRule rule → All IsShownByte (printed_rule rule None)
shown-printed rule is = all_shown (printed_rule rule None) 93 (shows-printed rule is)

no-semicolon : (b : ℕ) → IsShownByte b → (b == 59) ≡ false
no-semicolon b is = ne_eqb b 59 is.no_semicolon

apart-printed : (rule : Rule) → IsLineRule rule → All (λ b. (b == 59) ≡ false) (32 ∷ printed_rule rule None)
apart-printed rule is = All-cons (λ b. (b == 59) ≡ false) 32 (printed_rule rule None) refl (All-weaker IsShownByte (λ b. (b == 59) ≡ false) no-semicolon (printed_rule rule None) (shown-printed rule is))

ascii-blank : (text : List ℕ) → All IsShownByte text → IsAscii (32 ∷ text)
ascii-blank text each zero = omega arith
ascii-blank text each (suc k) = below text each k
  where
    below : (text : List ℕ) → All IsShownByte text → (k : ℕ) → get_or text k 0 < 128
    below [] each k = omega arith
    below (b ∷ bs) each zero = let tilde = (All-head IsShownByte b bs each).to_tilde in omega (arith, tilde)
    below (b ∷ bs) each (suc k) = below bs (All-tail IsShownByte b bs each) k

bare-blank : (text : List ℕ) → bare (32 ∷ text) ≡ bare text
bare-blank text =
    let e : 1 + position_or_len (λ b. b == 35) text ≡ suc (position_or_len (λ b. b == 35) text) = omega arith in
    ap (λ n. solid (take n (32 ∷ text))) e

-- a blank before a line changes nothing
good-behind : (text : List ℕ) (rule : Rule) → IsTextOfRule text rule → All IsShownByte text → length text ≤ 93 → (kind : TextKind) → AppliesToRule (32 ∷ text) kind → ⊥
good-behind text rule is shown short LineTooLong h = absurd (omega arith)
good-behind text rule is shown short NotUtf8 h = h (IsUtf8-from_ascii (32 ∷ text) (ascii-blank text shown))
good-behind text rule is shown short BadLine h = is.good BadLine (rw (bare-blank text) at h)
good-behind text rule is shown short NoBlock h = h
good-behind text rule is shown short BadCountry h = h
good-behind text rule is shown short BadRegion h = h
good-behind text rule is shown short RegionDiffers h = h
good-behind text rule is shown short BadBand h = is.good BadBand (rw (bare-blank text) at h)
good-behind text rule is shown short BadPower h = is.good BadPower (rw (bare-blank text) at h)
good-behind text rule is shown short BadFlag h = is.good BadFlag (rw (bare-blank text) at h)
good-behind text rule is shown short FlagNotInVersion h = is.good FlagNotInVersion (rw (bare-blank text) at h)
good-behind text rule is shown short NoWmm h = h
good-behind text rule is shown short BadWmm h = h
good-behind text rule is shown short WmmTwice h = h
good-behind text rule is shown short TooManyRules h = h
good-behind text rule is shown short WmmShort h = h
good-behind text rule is shown short NoRules h = h

reads-behind : (rule : Rule) → IsLineRule rule → IsTextOfRule (32 ∷ printed_rule rule None) rule
reads-behind rule is =
    let read = printed_rule_reads rule is.0 is.1 is.2 in
    let shows = shows-printed rule is in
    record { is = subst (λ l. IsRuleLine l rule None) (sym (bare-blank (printed_rule rule None))) read.is; good = good-behind (printed_rule rule None) rule read (shown-printed rule is) shows.short }

parts-read : (rule : Rule) (rules : List Rule) → IsLineRule rule → AllLine rules → AllZip IsTextOfRule (rule_parts (32 ∷ (printed_rule rule None ++ more_rules rules))) (rule ∷ rules)
parts-read rule [] is each =
    let text = 32 ∷ printed_rule rule None in
    subst (λ l. AllZip IsTextOfRule (rule_parts (32 ∷ l)) (rule ∷ [])) (sym (append-none (printed_rule rule None)))
    (subst (λ parts. AllZip IsTextOfRule parts (rule ∷ [])) (sym (slice_split_none (λ b. b == 59) (32 ∷ printed_rule rule None) (apart-printed rule is))) (reads-behind rule is, tt))
parts-read rule (next ∷ rules) is (here, behind) =
    subst (λ parts. AllZip IsTextOfRule parts (rule ∷ next ∷ rules))
    (sym (slice_split_at (λ b. b == 59) (32 ∷ printed_rule rule None) 59 (32 ∷ (printed_rule next None ++ more_rules rules)) (apart-printed rule is) refl))
    (reads-behind rule is, parts-read next rules here behind)

-- ---- the whole

more-short : (rules : List Rule) → AllLine rules → length (more_rules rules) ≤ 95 * length rules
more-short [] each = omega arith
more-short (rule ∷ rules) (here, behind) =
    let short = (shows-printed rule here).short in
    let rest = more-short rules behind in
    let len = length-append (printed_rule rule None) (more_rules rules) in
    omega (arith, short, rest, len)

all-line : (rules : List Rule) → All IsLineRule rules → AllLine rules
all-line [] each = tt
all-line (rule ∷ rules) each = (All-head IsLineRule rule rules each, all-line rules (All-tail IsLineRule rule rules each))

-- the line of rules: its words stand apart by one blank, it is short, and behind a blank it says these rules
pub record PrintsRules (rules : List Rule) : Type 0 where
  pub tidy : is_tidy true (rules_line rules) ≡ true
  pub short : length (rules_line rules) ≤ 3040
  pub says : AreRulesOfText (32 ∷ rules_line rules) rules

pub prints-rules : (rules : List Rule) → 1 ≤ length rules → length rules ≤ 32 → All IsLineRule rules → PrintsRules rules
prints-rules [] some few each = absurd (omega arith)
prints-rules (rule ∷ rules) some few each =
    let here = All-head IsLineRule rule rules each in
    let behind = all-line rules (All-tail IsLineRule rule rules each) in
    record {
      tidy = rule-goes rule here.0 (more_rules rules) ∙ more-tidy rules behind;
      short =
          let first = (shows-printed rule here).short in
          let rest = more-short rules behind in
          let len = length-append (printed_rule rule None) (more_rules rules) in
          omega (arith, first, rest, len, few);
      says = record { few = few; each = parts-read rule rules here behind };
    }
