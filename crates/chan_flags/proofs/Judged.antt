-- The verdict of the records is that of all domains.
use Rattle.std.proofs.Common.{◌≡◌, ℕ, ◌<◌, ◌≤◌, ◌⊎◌, ◌==◌, ◌*◌, Bool, false, cond, IsTrue, Some, List, [], ◌∷◌, map, length, Contains, arith, refl, sym, subst, ap, ◌∙◌, inl, inr}
use Rattle.std.proofs.lemmas.Bool.{cases_Bool}
use Rattle.freq_range.specs.declared.rule.Rule.{Rule}
use Rattle.rule_tables.specs.declared.domain.Domain.{Domain}
use Rattle.chan_def.specs.Covered.{width_khz, IsCovered}
use Rattle.chan_def.specs.declared.definition.ChanDef.{ChanDef}
use Rattle.rule_intersect.specs.declared.row.TheConstants.{LEAST_CHECK_MS}
use Rattle.rule_intersect.specs.Subchannels.{AreGoverning, SomeLacksRule}
use Rattle.rule_intersect.specs.Tuples.{Choice, check_ms, least_by}
use Rattle.chan_flags.specs.ByRecords.{chan_with_centre, BarsBy, BarsChannel, FitHas, IfFit, IsBoundBy, IsCheckLengthBy, IsLimitBy, IsVerdictBy}
use Rattle.chan_flags.specs.Lists.{AreChannels, IsRadioChannel}
use Rattle.chan_flags.specs.Records.{fit_of, AreRecords}
use Rattle.chan_flags.specs.Verdicts.{Bars, BarsFirst, BarsNone, IsAllowed, IsBound, IsGoverning, IsCheckLength, IsLimit, IsMissing, IsChanRefusal, IsVerdict, SomeGoverning}
use Rattle.chan_flags.specs.declared.asked.Asked.{Asked}
use Rattle.chan_flags.specs.declared.asked.Obstacle.{Obstacle}
use Rattle.chan_flags.specs.declared.asked.Obstacle.TheVariants.{Missing, Unruled, Narrow, OfdmBarred, IrBarred, OutdoorBarred}
use Rattle.chan_flags.specs.declared.profile.Bands.{Bands}
use Rattle.chan_flags.specs.declared.record.Chan.{Chan}
use Rattle.chan_flags.specs.declared.verdict.ChanRefusal.{ChanRefusal}
use Rattle.chan_flags.specs.declared.verdict.ChanRefusal.TheVariants.{LacksChannel, LacksWidth, NoRule, TooNarrow, NoOfdm, NoIr, NoOutdoor, AboveLimit}
use Rattle.chan_flags.specs.declared.verdict.Verdict.{Verdict}
use Rattle.chan_flags.specs.declared.verdict.Verdict.TheVariants.{Fits, Refused}
use Rattle.chan_flags.proofs.Known.{channel_with, known, IsAbsent, IsRuled, IsRuleless}
use Rattle.chan_flags.proofs.Together.{none_lacks, member_from, SomeGoverning-member, least_by-le, least_by-some, greatest_by-ge, greatest_by-some, some_rule, some_rule-found, some_rule-from}

-- ---- one channel: its record says what the governing rules say together

flag_from_record : (flag : Rule → Bool) (ds : List Domain) (s : ℕ) (t : List Choice) → AreGoverning ds s t → IsTrue (some_rule flag t)
    → SomeGoverning (λ g. IsTrue (flag g.rule)) ds s
flag_from_record flag ds s t are some =
    let found = some_rule-found flag t some in
    SomeGoverning-member (λ g. IsTrue (flag g.rule)) ds s t found.0 are found.1 found.2

flag_in_record : (flag : Rule → Bool) (ds : List Domain) (s : ℕ) (t : List Choice) → AreGoverning ds s t → SomeGoverning (λ g. IsTrue (flag g.rule)) ds s
    → IsTrue (some_rule flag t)
flag_in_record flag ds s t are some =
    let found = member_from (λ g. IsTrue (flag g.rule)) ds s t are some in
    some_rule-from flag t found.0 found.1 found.2

some_domain : (ds : List Domain) (s : ℕ) (t : List Choice) → 0 < length ds → AreGoverning ds s t → 0 < length t
some_domain [] s t some are = absurd (omega arith)
some_domain (d ∷ ds) s [] some are = absurd are
some_domain (d ∷ ds) s (g ∷ t) some are = omega arith

least_member : (f : Choice → ℕ) (t : List Choice) → 0 < length t → (g : Choice) × Contains t g × (least_by f t ≡ f g)
least_member f [] some = absurd (omega arith)
least_member f (g ∷ t) some = least_by-some f g t

narrow_from_record : (ds : List Domain) (s width : ℕ) (t : List Choice) → 0 < length ds → AreGoverning ds s t → least_by (λ c. c.width_khz) t < width
    → SomeGoverning (λ g. g.width_khz < width) ds s
narrow_from_record ds s width t some are less =
    let least = least_member (λ c. c.width_khz) t (some_domain ds s t some are) in
    SomeGoverning-member (λ g. g.width_khz < width) ds s t least.0 are least.1 (let is = least.2 in omega (arith, is, less))

narrow_in_record : (ds : List Domain) (s width : ℕ) (t : List Choice) → AreGoverning ds s t → SomeGoverning (λ g. g.width_khz < width) ds s
    → least_by (λ c. c.width_khz) t < width
narrow_in_record ds s width t are some =
    let found = member_from (λ g. g.width_khz < width) ds s t are some in
    let least = least_by-le (λ c. c.width_khz) t found.0 found.1 in
    let less = found.2 in
    omega (arith, least, less)

-- each way between the record of a channel and its rules
abbrev pub Same : Type 0 → Type 0 → Type 0
Same P Q = (P → Q) × (Q → P)

ruled_bars : (ds : List Domain) (q : Asked) (s khz : ℕ) (t : List Choice) → 0 < length ds → IsRadioChannel q.profile.bands s → AreGoverning ds s t → (o : Obstacle)
    → Same (BarsChannel q o (Some (channel_with khz (Some (fit_of t))))) (Bars ds q o s)
ruled_bars ds q s khz t some is are Missing = (λ bar. cc, λ missing. absurd (missing is))
ruled_bars ds q s khz t some is are Unruled = (λ bar. cc, λ lacks. absurd (none_lacks ds s t are lacks))
ruled_bars ds q s khz t some is are Narrow = (narrow_from_record ds s (width_khz q.chan.width) t some are, narrow_in_record ds s (width_khz q.chan.width) t are)
ruled_bars ds q s khz t some is are OfdmBarred = (
  λ bar. (bar.0, flag_from_record (λ r. r.flags.no_ofdm) ds s t are bar.1),
  λ bar. (bar.0, flag_in_record (λ r. r.flags.no_ofdm) ds s t are bar.1),
)
ruled_bars ds q s khz t some is are IrBarred = (
  λ bar. (bar.0, flag_from_record (λ r. r.flags.no_ir) ds s t are bar.1),
  λ bar. (bar.0, flag_in_record (λ r. r.flags.no_ir) ds s t are bar.1),
)
ruled_bars ds q s khz t some is are OutdoorBarred = (
  λ bar. (bar.0, bar.1, flag_from_record (λ r. r.flags.no_outdoor) ds s t are bar.2),
  λ bar. (bar.0, bar.1, flag_in_record (λ r. r.flags.no_outdoor) ds s t are bar.2),
)

same_missing : (ds : List Domain) (chans : List Chan) (q : Asked) (s : ℕ) → IsAbsent chans q.profile.bands s ⊎ (IsRuleless ds chans q.profile.bands s ⊎ IsRuled ds chans q.profile.bands s)
    → Same (BarsBy chans q Missing s) (Bars ds q Missing s)
same_missing ds chans q s (inl (at, missing)) = (λ bar. missing, λ m. subst (BarsChannel q Missing) (sym at) refl)
same_missing ds chans q s (inr (inl (khz, at, is, lacks))) = (λ bar. let so = subst (BarsChannel q Missing) at bar in cc, λ missing. absurd (missing is))
same_missing ds chans q s (inr (inr (khz, t, at, is, are))) = (λ bar. let so = subst (BarsChannel q Missing) at bar in cc, λ missing. absurd (missing is))

same_unruled : (ds : List Domain) (chans : List Chan) (q : Asked) (s : ℕ) → IsAbsent chans q.profile.bands s ⊎ (IsRuleless ds chans q.profile.bands s ⊎ IsRuled ds chans q.profile.bands s)
    → (BarsBy chans q Missing s → ⊥) → Same (BarsBy chans q Unruled s) (Bars ds q Unruled s)
same_unruled ds chans q s (inl (at, missing)) there = absurd (there (subst (BarsChannel q Missing) (sym at) refl))
same_unruled ds chans q s (inr (inl (khz, at, is, lacks))) there = (λ bar. lacks, λ l. subst (BarsChannel q Unruled) (sym at) refl)
same_unruled ds chans q s (inr (inr (khz, t, at, is, are))) there = (λ bar. let so = subst (BarsChannel q Unruled) at bar in cc, λ lacks. absurd (none_lacks ds s t are lacks))

-- the channel is there, and each domain has a rule for it
ruled : (ds : List Domain) (chans : List Chan) (q : Asked) (s : ℕ) → AreRecords ds chans → AreChannels q.profile.bands (map (λ c. c.khz) chans)
    → (BarsBy chans q Missing s → ⊥) → (BarsBy chans q Unruled s → ⊥) → IsRuled ds chans q.profile.bands s
ruled ds chans q s records channels there has_rule = elim (known ds chans q.profile.bands s records channels) [
  | inl absent ↦ absurd (there (subst (BarsChannel q Missing) (sym absent.0) refl))
  | inr (inl (khz, at, is, lacks)) ↦ absurd (has_rule (subst (BarsChannel q Unruled) (sym at) refl))
  | inr (inr is) ↦ is
]

same_bars : (ds : List Domain) (chans : List Chan) (q : Asked) (s : ℕ) → AreRecords ds chans → IsRuled ds chans q.profile.bands s → (o : Obstacle) → Same (BarsBy chans q o s) (Bars ds q o s)
same_bars ds chans q s records (khz, t, at, is, are) o =
    subst (λ c. Same (BarsChannel q o c) (Bars ds q o s)) (sym at) (ruled_bars ds q s khz t records.some is are o)

-- ---- all subchannels

none_moved : (P Q : ℕ → Type 0) (c : ChanDef) → ((s : ℕ) → IsCovered c s → Same (P s) (Q s)) → BarsNone P c → BarsNone Q c
none_moved P Q c same none = λ s covered bar. none s covered ((same s covered).1 bar)

first_moved : (P Q : ℕ → Type 0) (c : ChanDef) (s : ℕ) → ((t : ℕ) → IsCovered c t → Same (P t) (Q t)) → BarsFirst P c s → BarsFirst Q c s
first_moved P Q c s same first = record {
  covered = first.covered;
  here = (same s first.covered).0 first.here;
  none_below = λ t below covered bar. first.none_below t below covered ((same t covered).1 bar);
}

-- the limit of the records is that of the rules
limit_moved : (ds : List Domain) (chans : List Chan) (q : Asked) (limit : ℕ) → 0 < length ds → ((s : ℕ) → IsCovered q.chan s → IsRuled ds chans q.profile.bands s)
    → IsLimitBy chans q limit → IsLimit ds q limit
limit_moved ds chans q limit some each is = record {
  radio = is.radio;
  rules = λ s d g covered has governs. under s (each s covered) (is.records s covered) d g has governs;
  least = elim is.least [
    | inl radio ↦ inl radio
    | inr (s, covered, here) ↦ inr (s, covered, reached s (each s covered) here)
  ];
}
  where
    under : (s : ℕ) → IsRuled ds chans q.profile.bands s → IfFit (λ fit. limit ≤ fit.limit_mbm) (chan_with_centre chans s) → (d : Domain) (g : Choice) → Contains ds d → IsGoverning d s g → limit ≤ g.rule.eirp_mbm
    under s (khz, t, at, here, are) records d g has governs =
        let found = member_from (λ h. h ≡ g) ds s t are (d, has, g, governs, refl) in
        let less = subst (IfFit (λ fit. limit ≤ fit.limit_mbm)) at records in
        let least = least_by-le (λ c. c.rule.eirp_mbm) t found.0 found.1 in
        let same = ap (λ c. c.rule.eirp_mbm) found.2 in
        omega (arith, less, least, same)

    reached : (s : ℕ) → IsRuled ds chans q.profile.bands s → FitHas (λ fit. limit ≡ fit.limit_mbm) (chan_with_centre chans s) → SomeGoverning (λ g. limit ≡ g.rule.eirp_mbm) ds s
    reached s (khz, t, at, here, are) has =
        let same = subst (FitHas (λ fit. limit ≡ fit.limit_mbm)) at has in
        let least = least_member (λ c. c.rule.eirp_mbm) t (some_domain ds s t some are) in
        SomeGoverning-member (λ g. limit ≡ g.rule.eirp_mbm) ds s t least.0 are least.1 (same ∙ least.2)

no_check : (g : Choice) → g.rule.flags.dfs ≡ false → check_ms g.rule ≡ 0
no_check g without = ap (λ b. cond b (cond (g.rule.cac_s == 0) LEAST_CHECK_MS (g.rule.cac_s * 1000)) 0) without

-- the length of the records' check is that of the rules
length_moved : (ds : List Domain) (chans : List Chan) (q : Asked) (n : ℕ) → ((s : ℕ) → IsCovered q.chan s → IsRuled ds chans q.profile.bands s)
    → IsCheckLengthBy chans q n → IsCheckLength ds q n
length_moved ds chans q n each is = record {
  rules = λ s d g covered has governs dfs. under s (each s covered) (is.records s covered) d g has governs dfs;
  greatest = elim is.greatest [
    | inl none ↦ inl none
    | inr (s, covered, here) ↦ reached s covered (each s covered) here
  ];
}
  where
    under : (s : ℕ) → IsRuled ds chans q.profile.bands s → IfFit (λ fit. IsTrue fit.flags.dfs → fit.check_ms ≤ n) (chan_with_centre chans s)
        → (d : Domain) (g : Choice) → Contains ds d → IsGoverning d s g → IsTrue g.rule.flags.dfs → check_ms g.rule ≤ n
    under s (khz, t, at, here, are) records d g has governs dfs =
        let found = member_from (λ h. h ≡ g) ds s t are (d, has, g, governs, refl) in
        let bound = some_rule-from (λ r. r.flags.dfs) t found.0 found.1 (ap (λ c. c.rule.flags.dfs) found.2 ∙ dfs) in
        let less = subst (IfFit (λ fit. IsTrue fit.flags.dfs → fit.check_ms ≤ n)) at records bound in
        let greatest = greatest_by-ge (λ c. check_ms c.rule) t found.0 found.1 in
        let same = ap (λ c. check_ms c.rule) found.2 in
        omega (arith, less, greatest, same)

    reached : (s : ℕ) → IsCovered q.chan s → IsRuled ds chans q.profile.bands s → FitHas (λ fit. IsTrue fit.flags.dfs × (n ≡ fit.check_ms)) (chan_with_centre chans s)
        → (n ≡ 0) ⊎ ((s : ℕ) × IsCovered q.chan s × SomeGoverning (λ g. IsTrue g.rule.flags.dfs × (n ≡ check_ms g.rule)) ds s)
    reached s covered (khz, t, at, here, are) has =
        let both = subst (FitHas (λ fit. IsTrue fit.flags.dfs × (n ≡ fit.check_ms))) at has in
        elim (greatest_by-some (λ c. check_ms c.rule) t) [
          | inl none ↦ inl (both.1 ∙ none)
          | inr (g, member, same) ↦ elim (cases_Bool g.rule.flags.dfs) [
            | inl dfs ↦ inr (s, covered, SomeGoverning-member (λ h. IsTrue h.rule.flags.dfs × (n ≡ check_ms h.rule)) ds s t g are member (dfs, both.1 ∙ same))
            | inr without ↦ inl (both.1 ∙ same ∙ no_check g without)
          ]
        ]

-- ---- the verdict

refusal_moved : (ds : List Domain) (chans : List Chan) (q : Asked) → AreRecords ds chans → AreChannels q.profile.bands (map (λ c. c.khz) chans) → (r : ChanRefusal)
    → IsChanRefusal (BarsBy chans q) (IsLimitBy chans q) q r → IsChanRefusal (Bars ds q) (IsLimit ds q) q r
refusal_moved ds chans q records channels r is = by_cases r is
  where
    missing : (s : ℕ) → IsCovered q.chan s → Same (BarsBy chans q Missing s) (Bars ds q Missing s)
    missing s covered = same_missing ds chans q s (known ds chans q.profile.bands s records channels)

    unruled : BarsNone (BarsBy chans q Missing) q.chan → (s : ℕ) → IsCovered q.chan s → Same (BarsBy chans q Unruled s) (Bars ds q Unruled s)
    unruled there s covered = same_unruled ds chans q s (known ds chans q.profile.bands s records channels) (there s covered)

    each : BarsNone (BarsBy chans q Missing) q.chan → BarsNone (BarsBy chans q Unruled) q.chan → (s : ℕ) → IsCovered q.chan s → IsRuled ds chans q.profile.bands s
    each there has_rule s covered = ruled ds chans q s records channels (there s covered) (has_rule s covered)

    same : BarsNone (BarsBy chans q Missing) q.chan → BarsNone (BarsBy chans q Unruled) q.chan → (o : Obstacle) → (s : ℕ) → IsCovered q.chan s
        → Same (BarsBy chans q o s) (Bars ds q o s)
    same there has_rule o s covered = same_bars ds chans q s records (each there has_rule s covered) o

    none : BarsNone (BarsBy chans q Missing) q.chan → BarsNone (BarsBy chans q Unruled) q.chan → (o : Obstacle) → BarsNone (BarsBy chans q o) q.chan → BarsNone (Bars ds q o) q.chan
    none there has_rule o = none_moved (BarsBy chans q o) (Bars ds q o) q.chan (same there has_rule o)

    first : BarsNone (BarsBy chans q Missing) q.chan → BarsNone (BarsBy chans q Unruled) q.chan → (o : Obstacle) → (s : ℕ) → BarsFirst (BarsBy chans q o) q.chan s
        → BarsFirst (Bars ds q o) q.chan s
    first there has_rule o s = first_moved (BarsBy chans q o) (Bars ds q o) q.chan s (same there has_rule o)

    by_cases : (r : ChanRefusal) → IsChanRefusal (BarsBy chans q) (IsLimitBy chans q) q r → IsChanRefusal (Bars ds q) (IsLimit ds q) q r
    by_cases (LacksChannel s) is = first_moved (BarsBy chans q Missing) (Bars ds q Missing) q.chan s missing is
    by_cases (LacksWidth mhz) is = ((none_moved (BarsBy chans q Missing) (Bars ds q Missing) q.chan missing is.0.0, tt), is.1, is.2)
    by_cases (NoRule s) is = (
      is.0,
      (none_moved (BarsBy chans q Missing) (Bars ds q Missing) q.chan missing is.1.0, tt),
      first_moved (BarsBy chans q Unruled) (Bars ds q Unruled) q.chan s (unruled is.1.0) is.2,
    )
    by_cases (TooNarrow s) is =
        let there = is.1.0 in
        let has_rule = is.1.1.0 in
        (is.0, (none there has_rule Missing there, (none there has_rule Unruled has_rule, tt)), first there has_rule Narrow s is.2)
    by_cases (NoOfdm s) is =
        let there = is.1.0 in
        let has_rule = is.1.1.0 in
        let move = none there has_rule in
        (is.0, (move Missing there, (move Unruled has_rule, (move Narrow is.1.1.1.0, tt))), first there has_rule OfdmBarred s is.2)
    by_cases (NoIr s) is =
        let there = is.1.0 in
        let has_rule = is.1.1.0 in
        let move = none there has_rule in
        (is.0, (move Missing there, (move Unruled has_rule, (move Narrow is.1.1.1.0, (move OfdmBarred is.1.1.1.1.0, tt)))), first there has_rule IrBarred s is.2)
    by_cases (NoOutdoor s) is =
        let there = is.1.0 in
        let has_rule = is.1.1.0 in
        let move = none there has_rule in
        (is.0, (move Missing there, (move Unruled has_rule, (move Narrow is.1.1.1.0, (move OfdmBarred is.1.1.1.1.0, (move IrBarred is.1.1.1.1.1.0, tt))))), first there has_rule OutdoorBarred s is.2)
    by_cases (AboveLimit limit) is =
        let there = is.1.0 in
        let has_rule = is.1.1.0 in
        let move = none there has_rule in (
          is.0,
          (move Missing there, (move Unruled has_rule, (move Narrow is.1.1.1.0, (move OfdmBarred is.1.1.1.1.0, (move IrBarred is.1.1.1.1.1.0, (move OutdoorBarred is.1.1.1.1.1.1.0, tt)))))),
          limit_moved ds chans q limit records.some (each there has_rule) is.2,
          is.3,
        )

allowed_moved : (ds : List Domain) (chans : List Chan) (q : Asked) (power n : ℕ) → AreRecords ds chans → AreChannels q.profile.bands (map (λ c. c.khz) chans)
    → IsAllowed (BarsBy chans q) (IsLimitBy chans q) (IsCheckLengthBy chans q) q power n → IsAllowed (Bars ds q) (IsLimit ds q) (IsCheckLength ds q) q power n
allowed_moved ds chans q power n records channels is = record {
  has_width = is.has_width;
  none_bars = (
    move Missing is.none_bars.0,
    (move Unruled is.none_bars.1.0, (move Narrow is.none_bars.1.1.0, (move OfdmBarred is.none_bars.1.1.1.0, (move IrBarred is.none_bars.1.1.1.1.0, (move OutdoorBarred is.none_bars.1.1.1.1.1.0, tt))))),
  );
  limit = is.limit;
  is_limit = limit_moved ds chans q is.limit records.some each is.is_limit;
  within = is.within;
  power_is = is.power_is;
  length_is = length_moved ds chans q n each is.length_is;
}
  where
    each : (s : ℕ) → IsCovered q.chan s → IsRuled ds chans q.profile.bands s
    each s covered = ruled ds chans q s records channels (is.none_bars.0 s covered) (is.none_bars.1.0 s covered)

    move : (o : Obstacle) → BarsNone (BarsBy chans q o) q.chan → BarsNone (Bars ds q o) q.chan
    move o = none_moved (BarsBy chans q o) (Bars ds q o) q.chan (λ s covered. same_bars ds chans q s records (each s covered) o)

pub verdict_of_domains : (ds : List Domain) (chans : List Chan) (q : Asked) (v : Verdict) → AreRecords ds chans → AreChannels q.profile.bands (map (λ c. c.khz) chans)
    → IsVerdictBy chans q v → IsVerdict ds q v
verdict_of_domains ds chans q (Refused r) records channels is = refusal_moved ds chans q records channels r is
verdict_of_domains ds chans q (Fits power n) records channels is = allowed_moved ds chans q power n records channels is

-- ---- radar

pub bound_of_domains : (ds : List Domain) (chans : List Chan) (bands : Bands) (s : ℕ) → AreRecords ds chans → AreChannels bands (map (λ c. c.khz) chans)
    → (IsMissing bands s → ⊥) → (SomeLacksRule ds s → ⊥) → Same (IsBoundBy chans s) (IsBound ds s)
bound_of_domains ds chans bands s records channels there has_rule = elim (known ds chans bands s records channels) [
  | inl absent ↦ absurd (there absent.1)
  | inr (inl (khz, at, is, lacks)) ↦ absurd (has_rule lacks)
  | inr (inr (khz, t, at, is, are)) ↦
      subst (λ c. Same (FitHas (λ fit. IsTrue fit.flags.dfs) c) (IsBound ds s)) (sym at)
      (flag_from_record (λ r. r.flags.dfs) ds s t are, flag_in_record (λ r. r.flags.dfs) ds s t are)
]
