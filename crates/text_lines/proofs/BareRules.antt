-- A rule that stands for itself.
use Rattle.std.proofs.Common.{◌≡◌, ◌≢◌, ℕ, ◌<◌, ◌≤◌, List, [], ◌++◌, Bool, true, false, length, Option, Some, None, refl, ap, ◌∙◌, sym, subst, arith, append_assoc}
use denote.Ref.{Bor}
use Rattle.std.specs.Prelude.{codes, All, is_some, option_map, IsUtf8}
use Rattle.freq_range.specs.declared.rule.Rule.{Rule}
use Rattle.text_lines.specs.declared.fault.TextKind.{TextKind}
use Rattle.text_lines.specs.declared.fault.TextKind.TheVariants.{LineTooLong, NotUtf8, BadLine, NoBlock, BadCountry, BadRegion, RegionDiffers, BadBand, BadPower, BadFlag, FlagNotInVersion, NoWmm, BadWmm, WmmTwice, TooManyRules, WmmShort, NoRules}
use Rattle.text_lines.specs.declared.form.Opening.TheVariants.{Rule as OfRule}
use Rattle.text_lines.specs.LineFaults.{AppliesToRule, IsRuleTextFault, IsTextOfRule, IsUnreadable, LacksBand, LacksPower, place_of_kind}
use Rattle.text_lines.specs.Lines.{IsReadableLine, bare}
use Rattle.text_lines.specs.inner.Reading.{IsBareKind, IsBareRule, IsPartKind, IsSpelledAs, begins_with}
use Rattle.text_lines.specs.Spelling.{BeginsWithBand, BeginsWithPower, IsKeptWord, IsSpelledRule, Opens, RuleText, band_text, list_of, names_in, power_part, words_text}
use Rattle.text_lines.proofs.RuleTexts.{IsSpelledRule-unique}
use Rattle.text_lines.proofs.Words.{begins_with-again, begins_with-reads}

-- ---- the opening

pub opens-rule : (line : List ℕ) → begins_with (codes "(") line ≡ true → Opens line OfRule
opens-rule line t = begins_with-reads (codes "(") line t

pub not_opens : (line : List ℕ) → begins_with (codes "(") line ≡ false → Opens line OfRule → ⊥
not_opens line no_bracket (rest, is) = let again = ap (begins_with (codes "(")) is ∙ begins_with-again (codes "(") rest in cc

pub spelled-opens : (line : List ℕ) (t : RuleText) (rule : Rule) → IsSpelledRule line t rule → Opens line OfRule
spelled-opens line t rule h = (_, h.spelled)

-- ---- the parts of a line that spells a rule

pub spelled-band : (line : List ℕ) (t : RuleText) (rule : Rule) → IsSpelledRule line t rule → BeginsWithBand line (power_part t.gain t.power ++ words_text t.words)
spelled-band line t rule h = (t.band, rule.start_khz, rule.end_khz, rule.max_bw_khz, h.band, h.spelled ∙ append_assoc (band_text t.band) (power_part t.gain t.power) (words_text t.words))

pub spelled-power : (line : List ℕ) (t : RuleText) (rule : Rule) → IsSpelledRule line t rule → BeginsWithPower (power_part t.gain t.power ++ words_text t.words) (words_text t.words)
spelled-power line t rule h = (t.gain, t.power, rule.eirp_mbm, h.power, refl)

-- ---- what is wrong with a squeezed line

pub part-bare : (line : List ℕ) (kind : TextKind) → Opens line OfRule → IsPartKind line kind → IsBareKind line kind
part-bare line LineTooLong opens h = absurd h
part-bare line NotUtf8 opens h = absurd h
part-bare line BadLine opens h = absurd h
part-bare line NoBlock opens h = absurd h
part-bare line BadCountry opens h = absurd h
part-bare line BadRegion opens h = absurd h
part-bare line RegionDiffers opens h = absurd h
part-bare line BadBand opens h = (opens, h)
part-bare line BadPower opens h = (opens, h)
part-bare line BadFlag opens h = (opens, h.0, λ t rule spelled none. h.1 t rule spelled)
part-bare line FlagNotInVersion opens h = absurd h
part-bare line NoWmm opens h = absurd h
part-bare line BadWmm opens h = absurd h
part-bare line WmmTwice opens h = absurd h
part-bare line TooManyRules opens h = absurd h
part-bare line WmmShort opens h = absurd h
part-bare line NoRules opens h = absurd h

named-list : (name : Option (List ℕ)) → is_some name ≡ true → list_of name ≢ []
named-list None e = absurd cc
named-list (Some name) e = λ none. absurd cc

pub some-now : (o : Option (Bor (List ℕ))) → is_some o ≡ true → is_some (option_map (λ name. name.now) o) ≡ true
some-now None e = absurd cc
some-now (Some name) e = refl

pub named-bare : (line : List ℕ) (rule : Rule) (name : Option (List ℕ)) (kept : Bool) → Opens line OfRule → IsSpelledAs line rule name kept → is_some name ≡ true → IsBareKind line BadFlag
named-bare line rule name kept opens h some = (
  opens,
  (power_part h.text.gain h.text.power ++ words_text h.text.words, words_text h.text.words, spelled-band line h.text rule h.is, spelled-power line h.text rule h.is),
  λ t other spelled none. named-list name some (sym h.named ∙ ap names_in (IsSpelledRule-unique line h.text t rule other h.is spelled).0 ∙ none),
)

-- ---- the first kind that applies

-- what stands before a place in the list, where each of these is denied
denied : (line : List ℕ) (place : ℕ) → (1 < place → length line ≤ 4096) → (2 < place → IsUtf8 line) → (3 < place → Opens (bare line) OfRule) → (8 < place → LacksBand (bare line) → ⊥) → (9 < place → LacksPower (bare line) → ⊥) → (10 < place → AppliesToRule line BadFlag → ⊥) → place ≤ 11 → (other : TextKind) → place_of_kind other < place → AppliesToRule line other → ⊥
denied line place short utf8 opens band power flag last LineTooLong lt a = omega (arith, a, short lt)
denied line place short utf8 opens band power flag last NotUtf8 lt a = a (utf8 lt)
denied line place short utf8 opens band power flag last BadLine lt a = a (opens lt)
denied line place short utf8 opens band power flag last NoBlock lt a = a
denied line place short utf8 opens band power flag last BadCountry lt a = a
denied line place short utf8 opens band power flag last BadRegion lt a = a
denied line place short utf8 opens band power flag last RegionDiffers lt a = a
denied line place short utf8 opens band power flag last BadBand lt a = band lt a
denied line place short utf8 opens band power flag last BadPower lt a = power lt a
denied line place short utf8 opens band power flag last BadFlag lt a = flag lt a
denied line place short utf8 opens band power flag last FlagNotInVersion lt a = omega (arith, lt, last)
denied line place short utf8 opens band power flag last NoWmm lt a = a
denied line place short utf8 opens band power flag last BadWmm lt a = a
denied line place short utf8 opens band power flag last WmmTwice lt a = a
denied line place short utf8 opens band power flag last TooManyRules lt a = a
denied line place short utf8 opens band power flag last WmmShort lt a = a
denied line place short utf8 opens band power flag last NoRules lt a = a

out_of : {A : Type 0} (m n : ℕ) → n ≤ m → m < n → A
out_of m n le lt = absurd (omega (arith, le, lt))

pub readable-fault : (line : List ℕ) (kind : TextKind) → IsUnreadable line kind → IsRuleTextFault line kind
readable-fault line LineTooLong h =
    record { applies = h; first = denied line 1 (out_of 1 1 (omega arith)) (out_of 2 1 (omega arith)) (out_of 3 1 (omega arith)) (out_of 8 1 (omega arith)) (out_of 9 1 (omega arith)) (out_of 10 1 (omega arith)) (omega arith) }
readable-fault line NotUtf8 h =
    record { applies = h.1; first = denied line 2 (λ lt. h.0) (out_of 2 2 (omega arith)) (out_of 3 2 (omega arith)) (out_of 8 2 (omega arith)) (out_of 9 2 (omega arith)) (out_of 10 2 (omega arith)) (omega arith) }
readable-fault line BadLine h = absurd h
readable-fault line NoBlock h = absurd h
readable-fault line BadCountry h = absurd h
readable-fault line BadRegion h = absurd h
readable-fault line RegionDiffers h = absurd h
readable-fault line BadBand h = absurd h
readable-fault line BadPower h = absurd h
readable-fault line BadFlag h = absurd h
readable-fault line FlagNotInVersion h = absurd h
readable-fault line NoWmm h = absurd h
readable-fault line BadWmm h = absurd h
readable-fault line WmmTwice h = absurd h
readable-fault line TooManyRules h = absurd h
readable-fault line WmmShort h = absurd h
readable-fault line NoRules h = absurd h

pub bare-fault : (line : List ℕ) (kind : TextKind) → IsReadableLine line → IsBareKind (bare line) kind → IsRuleTextFault line kind
bare-fault line BadLine r h =
    record { applies = h; first = denied line 3 (λ lt. r.short) (λ lt. r.utf8) (out_of 3 3 (omega arith)) (out_of 8 3 (omega arith)) (out_of 9 3 (omega arith)) (out_of 10 3 (omega arith)) (omega arith) }
bare-fault line BadBand r h =
    record { applies = h.1; first = denied line 8 (λ lt. r.short) (λ lt. r.utf8) (λ lt. h.0) (out_of 8 8 (omega arith)) (out_of 9 8 (omega arith)) (out_of 10 8 (omega arith)) (omega arith) }
bare-fault line BadPower r h =
    let begins = h.1.0 in
    record { applies = h.1.1; first = denied line 9 (λ lt. r.short) (λ lt. r.utf8) (λ lt. h.0) (λ lt lacks. lacks begins.0 begins.1) (out_of 9 9 (omega arith)) (out_of 10 9 (omega arith)) (omega arith) }
bare-fault line BadFlag r h =
    let (rest, behind, band, power) = h.1 in
    record { applies = h.2; first = denied line 10 (λ lt. r.short) (λ lt. r.utf8) (λ lt. h.0) (λ lt lacks. lacks rest band) (λ lt lacks. lacks rest behind band power) (out_of 10 10 (omega arith)) (omega arith) }
bare-fault line FlagNotInVersion r (opens, t, rule, spelled, none, unkept) =
    let band = spelled-band (bare line) t rule spelled in
    let power = spelled-power (bare line) t rule spelled in
    record {
      applies = (t, rule, spelled, unkept);
      first = denied line 11 (λ lt. r.short) (λ lt. r.utf8) (λ lt. opens) (λ lt lacks. lacks _ band) (λ lt lacks. lacks _ _ band power) (λ lt bad. bad t rule spelled none) (omega arith);
    }
bare-fault line LineTooLong r h = absurd h.1
bare-fault line NotUtf8 r h = absurd h.1
bare-fault line NoBlock r h = absurd h.1
bare-fault line BadCountry r h = absurd h.1
bare-fault line BadRegion r h = absurd h.1
bare-fault line RegionDiffers r h = absurd h.1
bare-fault line NoWmm r h = absurd h.1
bare-fault line BadWmm r h = absurd h.1
bare-fault line WmmTwice r h = absurd h.1
bare-fault line TooManyRules r h = absurd h.1
bare-fault line WmmShort r h = absurd h.1
bare-fault line NoRules r h = absurd h.1

-- ---- nothing is wrong

pub bare-rule : (line : List ℕ) (rule : Rule) → IsReadableLine line → IsBareRule (bare line) rule → IsTextOfRule line rule
bare-rule line rule r h = record { is = h.is; good = good }
  where
    spelled : IsSpelledRule (bare line) h.is.text rule
    spelled = h.is.is

    good : (kind : TextKind) → AppliesToRule line kind → ⊥
    good LineTooLong a = omega (arith, a, r.short)
    good NotUtf8 a = a r.utf8
    good BadLine a = a (spelled-opens (bare line) h.is.text rule spelled)
    good NoBlock a = a
    good BadCountry a = a
    good BadRegion a = a
    good RegionDiffers a = a
    good BadBand a = a _ (spelled-band (bare line) h.is.text rule spelled)
    good BadPower a = a _ _ (spelled-band (bare line) h.is.text rule spelled) (spelled-power (bare line) h.is.text rule spelled)
    good BadFlag a = a h.is.text rule spelled h.is.named
    good FlagNotInVersion a = let (t, other, is, unkept) = a in unkept (subst (All IsKeptWord) (IsSpelledRule-unique (bare line) h.is.text t rule other spelled is).0 h.is.kept)
    good NoWmm a = a
    good BadWmm a = a
    good WmmTwice a = a
    good TooManyRules a = a
    good WmmShort a = a
    good NoRules a = a
