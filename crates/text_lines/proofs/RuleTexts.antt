-- The line of a rule: what is read of it, part by part, and what its first bad part says.
use Rattle.std.proofs.Common.{◌≡◌, ℕ, List, [], ◌++◌, Bool, true, false, get_or, Option, Some, None, ◌⊎◌, inl, inr, refl, ap, ◌∙◌, sym, subst, append_assoc}
use Rattle.std.proofs.lemmas.Option.{some_pair_parts}
use Rattle.freq_range.specs.declared.rule.Rule.{Rule}
use Rattle.freq_range.proofs.Powers.{one_mbm}
use Rattle.text_lines.specs.declared.band_reader.Band.{Band}
use Rattle.text_lines.specs.declared.fault.TextKind.{TextKind}
use Rattle.text_lines.specs.declared.fault.TextKind.TheVariants.{LineTooLong, NotUtf8, BadLine, NoBlock, BadCountry, BadRegion, RegionDiffers, BadBand, BadPower, BadFlag, FlagNotInVersion, NoWmm, BadWmm, WmmTwice, TooManyRules, WmmShort, NoRules}
use Rattle.text_lines.specs.declared.power_reader.Amount.{Amount}
use Rattle.text_lines.specs.declared.power_reader.Amount.TheVariants.{Mbm, Milliwatts}
use Rattle.text_lines.specs.LineFaults.{IsRuleKind}
use Rattle.text_lines.specs.inner.Reading.{Gathered, IsAmount, IsPartKind, IsSpelledAs, MeansMbm, band_at, power_at, rule_from, words_at}
use Rattle.text_lines.specs.Spelling.{BeginsWithBand, BeginsWithPower, IsRuleLine, IsSpelledRule, RuleText, band_text, list_of, names_in, power_part, words_text}
use Rattle.text_lines.proofs.Bands.{band-begins, band_at-again, band_at-none, band_at-reads, band_of}
use Rattle.text_lines.proofs.Gathering.{AreWords-unique, kept-all, unkept-some, words_at-again, words_at-reads}
use Rattle.text_lines.proofs.Milliwatts.{mbm_of_milliwatts}
use Rattle.text_lines.proofs.PowerTexts.{amount-means, amount-range, power-amount, power_at-again, power_at-reads}
use Rattle.text_lines.proofs.Words.{known}

-- ---- spelled, then read

-- the parts that are read of the line of a rule
pub record ReadsRule (line : List ℕ) (t : RuleText) (rule : Rule) : Type 0 where
  pub behind : List ℕ
  pub amount : Amount
  pub band_read : band_at line ≡ Some (band_of rule.start_khz rule.end_khz rule.max_bw_khz, behind)
  pub power_read : power_at behind ≡ Some (amount, words_text t.words)
  pub means : MeansMbm amount rule.eirp_mbm

pub spelled-again : (line : List ℕ) (t : RuleText) (rule : Rule) → IsSpelledRule line t rule → ReadsRule line t rule
spelled-again line t rule h =
    let behind = power_part t.gain t.power ++ words_text t.words in
    let amount = power-amount t.power rule.eirp_mbm h.power in
    let parts : line ≡ band_text t.band ++ behind = h.spelled ∙ append_assoc (band_text t.band) (power_part t.gain t.power) (words_text t.words) in
    record {
      behind = behind;
      amount = amount.0;
      band_read = ap band_at parts ∙ band_at-again t.band rule.start_khz rule.end_khz rule.max_bw_khz behind h.band;
      power_read = power_at-again t.gain t.power amount.0 (words_text t.words) amount.1;
      means = amount.2;
    }

-- ---- the first bad part

pub no_band : (line : List ℕ) → band_at line ≡ None → IsPartKind line BadBand
no_band line none = band_at-none line none

-- what is behind a band
behind-band : (line : List ℕ) (band : Band) (rest other : List ℕ) → band_at line ≡ Some (band, rest) → BeginsWithBand line other → rest ≡ other
behind-band line band rest other e (t, start, end, width, is, parts) =
    (some_pair_parts band (band_of start end width) rest other (sym e ∙ ap band_at parts ∙ band_at-again t start end width other is)).1

-- a power that stands first is read
pub power-read : (line behind : List ℕ) → BeginsWithPower line behind → (amount : Amount) × (power_at line ≡ Some (amount, behind))
power-read line behind (gain, power, mbm, is, parts) = let amount = power-amount power mbm is in (amount.0, ap power_at parts ∙ power_at-again gain power amount.0 behind amount.1)

pub no_power : (line : List ℕ) (band : Band) (rest : List ℕ) → band_at line ≡ Some (band, rest) → power_at rest ≡ None → IsPartKind line BadPower
no_power line band rest e none = ((rest, band-begins line band rest (band_at-reads line band rest e)), lacks)
  where
    lacks : (other behind : List ℕ) → BeginsWithBand line other → BeginsWithPower other behind → ⊥
    lacks other behind p q = let read = (power-read other behind q).1 in let same = ap power_at (behind-band line band rest other e p) in cc

begins-power : (rest behind : List ℕ) (amount : Amount) (mbm : ℕ) → power_at rest ≡ Some (amount, behind) → MeansMbm amount mbm → BeginsWithPower rest behind
begins-power rest behind amount mbm e means = let read = power_at-reads rest amount behind e in (read.gain, read.power, mbm, amount-means read.power amount mbm read.is means, read.parts)

-- what is behind the power of a line that spells a rule
behind-power : (line : List ℕ) (band : Band) (rest : List ℕ) (amount : Amount) (behind : List ℕ) (t : RuleText) (rule : Rule) → band_at line ≡ Some (band, rest) → power_at rest ≡ Some (amount, behind) → IsSpelledRule line t rule → behind ≡ words_text t.words
behind-power line band rest amount behind t rule e f h =
    let read = spelled-again line t rule h in
    let p = some_pair_parts band (band_of rule.start_khz rule.end_khz rule.max_bw_khz) rest read.behind (sym e ∙ read.band_read) in
    (some_pair_parts amount read.amount behind (words_text t.words) (sym f ∙ ap power_at p.1 ∙ read.power_read)).1

pub no_words : (line : List ℕ) (band : Band) (rest : List ℕ) (amount : Amount) (behind : List ℕ) (mbm : ℕ) → band_at line ≡ Some (band, rest) → power_at rest ≡ Some (amount, behind) → MeansMbm amount mbm → words_at behind ≡ None → IsPartKind line BadFlag
no_words line band rest amount behind mbm e f means none =
    ((rest, behind, band-begins line band rest (band_at-reads line band rest e), begins-power rest behind amount mbm f means), lacks)
  where
    lacks : (t : RuleText) (rule : Rule) → IsSpelledRule line t rule → ⊥
    lacks t rule h =
        let same = ap words_at (behind-power line band rest amount behind t rule e f h) in
        let read = (words_at-again (words_text t.words) t.words h.words).1 in
        cc

-- ---- read, then spelled

pub spelled-reads : (line : List ℕ) (band : Band) (rest : List ℕ) (amount : Amount) (behind : List ℕ) (mbm : ℕ) (g : Gathered) → band_at line ≡ Some (band, rest) → power_at rest ≡ Some (amount, behind) → MeansMbm amount mbm → words_at behind ≡ Some g → IsSpelledAs line (rule_from band mbm g.flags) g.name g.kept
spelled-reads line band rest amount behind mbm g e f means k =
    let b = band_at-reads line band rest e in
    let p = power_at-reads rest amount behind f in
    let w = words_at-reads behind g k in
    let t : RuleText = record { band = b.text; gain = p.gain; power = p.power; words = w.words } in
    record {
      text = t;
      is = record {
        spelled = b.parts ∙ ap (λ (xs : List ℕ). band_text b.text ++ xs) (p.parts ∙ ap (λ (xs : List ℕ). power_part p.gain p.power ++ xs) w.are.spelled) ∙ sym (append_assoc (band_text b.text) (power_part p.gain p.power) (words_text w.words));
        band = b.is;
        power = amount-means p.power amount mbm p.is means;
        words = record { each = w.are.each; one_name = w.are.one_name; spelled = refl };
        flags = w.flags;
        check_time = refl;
        wmm = refl;
      };
      named = w.names;
      all_kept = kept-all g w.words w.kept;
      some_unkept = unkept-some g w.words w.kept;
    }

-- ---- at most one rule

one_power : (amount other : Amount) (a b : ℕ) → amount ≡ other → MeansMbm amount a → MeansMbm other b → a ≡ b
one_power (Mbm v) other a b same p q = let means : MeansMbm (Mbm v) b = subst (λ (x : Amount). MeansMbm x b) (sym same) q in p ∙ sym means
one_power (Milliwatts mw) other a b same p q = let means : MeansMbm (Milliwatts mw) b = subst (λ (x : Amount). MeansMbm x b) (sym same) q in one_mbm mw a b p means

same-rule : (r s : Rule) → r.start_khz ≡ s.start_khz → r.end_khz ≡ s.end_khz → r.max_bw_khz ≡ s.max_bw_khz → r.flags ≡ s.flags → r.eirp_mbm ≡ s.eirp_mbm → r.cac_s ≡ s.cac_s → r.wmm ≡ s.wmm → r ≡ s
same-rule r s a b c d e f g = λ i. record { start_khz = a i; end_khz = b i; max_bw_khz = c i; flags = d i; eirp_mbm = e i; cac_s = f i; wmm = g i }

pub IsSpelledRule-unique : (line : List ℕ) (t u : RuleText) (r s : Rule) → IsSpelledRule line t r → IsSpelledRule line u s → (t.words ≡ u.words) × (r ≡ s)
IsSpelledRule-unique line t u r s p q =
    let one = spelled-again line t r p in
    let other = spelled-again line u s q in
    let bands = some_pair_parts (band_of r.start_khz r.end_khz r.max_bw_khz) (band_of s.start_khz s.end_khz s.max_bw_khz) one.behind other.behind (sym one.band_read ∙ other.band_read) in
    let powers = some_pair_parts one.amount other.amount (words_text t.words) (words_text u.words) (sym one.power_read ∙ ap power_at bands.1 ∙ other.power_read) in
    let words : t.words ≡ u.words = AreWords-unique (words_text u.words) t.words u.words (record { each = p.words.each; one_name = p.words.one_name; spelled = sym powers.1 }) q.words in
    let flags : r.flags ≡ s.flags = p.flags ∙ rw words (sym q.flags) in (
      words,
      same-rule r s (ap (λ (b : Band). b.start_khz) bands.0) (ap (λ (b : Band). b.end_khz) bands.0) (ap (λ (b : Band). b.width_khz) bands.0) flags (one_power one.amount other.amount r.eirp_mbm s.eirp_mbm powers.0 one.means other.means) (p.check_time ∙ sym q.check_time) (p.wmm ∙ sym q.wmm),
    )

list_of-unique : (m n : Option (List ℕ)) → list_of m ≡ list_of n → m ≡ n
list_of-unique None None e = refl
list_of-unique None (Some n) e = absurd cc
list_of-unique (Some m) None e = absurd cc
list_of-unique (Some m) (Some n) e = ap (λ (names : List (List ℕ)). Some (get_or names 0 [])) e

pub IsRuleLine-unique : (line : List ℕ) (r s : Rule) (m n : Option (List ℕ)) → IsRuleLine line r m → IsRuleLine line s n → (r ≡ s) × (m ≡ n)
IsRuleLine-unique line r s m n p q =
    let same = IsSpelledRule-unique line p.text q.text r s p.is q.is in
    (same.1, list_of-unique m n (sym p.named ∙ ap names_in same.0 ∙ q.named))

-- ---- a rule or the first bad part

amount-mbm : (amount : Amount) → IsAmount amount → (mbm : ℕ) × MeansMbm amount mbm
amount-mbm (Mbm v) h = (v, refl)
amount-mbm (Milliwatts mw) h = mbm_of_milliwatts mw h

pub decide_spelled : (line : List ℕ) → ((rule : Rule) × (name : Option (List ℕ)) × (kept : Bool) × IsSpelledAs line rule name kept) ⊎ ((kind : TextKind) × IsPartKind line kind)
decide_spelled line = known (band_at line) (λ none. inr (BadBand, no_band line none)) (λ x e. known (power_at x.1) (λ none. inr (BadPower, no_power line x.0 x.1 e none)) (λ y f. at_words x.0 x.1 y.0 y.1 e f (amount-mbm y.0 (range x.1 y.0 y.1 f))))
  where
    range : (rest : List ℕ) (amount : Amount) (behind : List ℕ) → power_at rest ≡ Some (amount, behind) → IsAmount amount
    range rest amount behind f = let read = power_at-reads rest amount behind f in amount-range read.power amount read.is

    at_words : (band : Band) (rest : List ℕ) (amount : Amount) (behind : List ℕ) → band_at line ≡ Some (band, rest) → power_at rest ≡ Some (amount, behind) → (mbm : ℕ) × MeansMbm amount mbm → ((rule : Rule) × (name : Option (List ℕ)) × (kept : Bool) × IsSpelledAs line rule name kept) ⊎ ((kind : TextKind) × IsPartKind line kind)
    at_words band rest amount behind e f (mbm, means) = known (words_at behind) (λ none. inr (BadFlag, no_words line band rest amount behind mbm e f means none)) (λ g k. inl (rule_from band mbm g.flags, g.name, g.kept, spelled-reads line band rest amount behind mbm g e f means k))

pub kept-line : (line : List ℕ) (rule : Rule) (name : Option (List ℕ)) → IsSpelledAs line rule name true → IsRuleLine line rule name
kept-line line rule name h = record { text = h.text; is = h.is; kept = h.all_kept refl; named = h.named }

pub unkept-kind : (line : List ℕ) (rule : Rule) (name : Option (List ℕ)) → IsSpelledAs line rule name false → IsRuleKind line FlagNotInVersion
unkept-kind line rule name h = (h.text, rule, h.is, h.some_unkept refl)

-- a bad part is a kind of the line of a rule
pub part-kind : (line : List ℕ) (kind : TextKind) → IsPartKind line kind → IsRuleKind line kind
part-kind line BadBand h = h
part-kind line BadPower h = h
part-kind line BadFlag h = h
part-kind line LineTooLong h = absurd h
part-kind line NotUtf8 h = absurd h
part-kind line BadLine h = absurd h
part-kind line NoBlock h = absurd h
part-kind line BadCountry h = absurd h
part-kind line BadRegion h = absurd h
part-kind line RegionDiffers h = absurd h
part-kind line FlagNotInVersion h = absurd h
part-kind line NoWmm h = absurd h
part-kind line BadWmm h = absurd h
part-kind line WmmTwice h = absurd h
part-kind line TooManyRules h = absurd h
part-kind line WmmShort h = absurd h
part-kind line NoRules h = absurd h

pub decide_rule : (line : List ℕ) → ((rule : Rule) × (name : Option (List ℕ)) × IsRuleLine line rule name) ⊎ ((kind : TextKind) × IsRuleKind line kind)
decide_rule line = judged (decide_spelled line)
  where
    judged : ((rule : Rule) × (name : Option (List ℕ)) × (kept : Bool) × IsSpelledAs line rule name kept) ⊎ ((kind : TextKind) × IsPartKind line kind) → ((rule : Rule) × (name : Option (List ℕ)) × IsRuleLine line rule name) ⊎ ((kind : TextKind) × IsRuleKind line kind)
    judged (inl (rule, name, true, h)) = inl (rule, name, kept-line line rule name h)
    judged (inl (rule, name, false, h)) = inr (FlagNotInVersion, unkept-kind line rule name h)
    judged (inr (kind, h)) = inr (kind, part-kind line kind h)
