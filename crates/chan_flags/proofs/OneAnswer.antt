-- There is one record of a channel and one verdict on what is asked.
use Rattle.std.proofs.Common.{◌≡◌, ℕ, ◌<◌, ◌≤◌, Option, Some, None, List, arith, refl, sym, ap, ◌∙◌, subst, inl, inr, IsTrue, IfSome, IsSomeAnd}
use Rattle.std.proofs.lemmas.Bool.{cases_order}
use Rattle.rule_tables.specs.declared.domain.Domain.{Domain}
use Rattle.chan_def.specs.declared.definition.ChanDef.{ChanDef}
use Rattle.chan_flags.specs.ByRecords.{chan_with_centre, BarsBy, FitHas, IfFit, IsCheckLengthBy, IsLimitBy, IsVerdictBy}
use Rattle.chan_flags.specs.Records.{fit_of, IsRecord}
use Rattle.chan_flags.specs.Verdicts.{power_of, BarsFirst, BarsNone, HasWidth, IsAbove, IsCheckLength, IsLimit, IsVerdict, IsVerdictOf, IsWithinLimit, Bars}
use Rattle.chan_flags.specs.declared.asked.Asked.{Asked}
use Rattle.chan_flags.specs.declared.asked.Obstacle.{Obstacle}
use Rattle.chan_flags.specs.declared.asked.Obstacle.TheVariants.{Missing, Unruled, Narrow, OfdmBarred, IrBarred, OutdoorBarred}
use Rattle.chan_flags.specs.declared.record.Chan.{Chan}
use Rattle.chan_flags.specs.declared.record.Fit.{Fit}
use Rattle.chan_flags.specs.declared.verdict.ChanRefusal.{ChanRefusal}
use Rattle.chan_flags.specs.declared.verdict.ChanRefusal.TheVariants.{LacksChannel, LacksWidth, NoRule, TooNarrow, NoOfdm, NoIr, NoOutdoor, AboveLimit}
use Rattle.chan_flags.specs.declared.verdict.PowerSetting.{PowerSetting}
use Rattle.chan_flags.specs.declared.verdict.PowerSetting.TheVariants.{Auto, Limit, Fixed}
use Rattle.chan_flags.specs.declared.verdict.Verdict.{Verdict}
use Rattle.chan_flags.specs.declared.verdict.Verdict.TheVariants.{Fits, Refused}
use Rattle.chan_flags.proofs.Together.{none_lacks, one_tuple}

pub IsRecord-unique : (ds : List Domain) (khz : ℕ) (one other : Option Fit) → IsRecord ds khz one → IsRecord ds khz other → one ≡ other
IsRecord-unique ds khz None None a b = refl
IsRecord-unique ds khz None (Some fit) a b = absurd (none_lacks ds khz b.0 b.1 a)
IsRecord-unique ds khz (Some fit) None a b = absurd (none_lacks ds khz a.0 a.1 b)
IsRecord-unique ds khz (Some fit) (Some other) a b = ap Some (a.2 ∙ ap fit_of (one_tuple ds khz a.0 b.0 a.1 b.1) ∙ sym b.2)

-- ---- limits and lengths

limit-le : (ds : List Domain) (q : Asked) (a b : ℕ) → IsLimit ds q a → IsLimit ds q b → a ≤ b
limit-le ds q a b is other = elim other.least [
  | inl radio ↦ let most = is.radio in omega (arith, radio, most)
  | inr (s, covered, (d, has, g, governs, same)) ↦ let most = is.rules s d g covered has governs in omega (arith, most, same)
]

pub IsLimit-unique : (ds : List Domain) (q : Asked) (a b : ℕ) → IsLimit ds q a → IsLimit ds q b → a ≡ b
IsLimit-unique ds q a b is other =
    let to = limit-le ds q a b is other in
    let from = limit-le ds q b a other is in
    omega (arith, to, from)

length-le : (ds : List Domain) (q : Asked) (a b : ℕ) → IsCheckLength ds q a → IsCheckLength ds q b → a ≤ b
length-le ds q a b is other = elim is.greatest [
  | inl none ↦ omega (arith, none)
  | inr (s, covered, (d, has, g, governs, (dfs, same))) ↦ let least = other.rules s d g covered has governs dfs in omega (arith, least, same)
]

pub IsCheckLength-unique : (ds : List Domain) (q : Asked) (a b : ℕ) → IsCheckLength ds q a → IsCheckLength ds q b → a ≡ b
IsCheckLength-unique ds q a b is other =
    let to = length-le ds q a b is other in
    let from = length-le ds q b a other is in
    omega (arith, to, from)

-- the same of records

both_of_fit : (P Q : Fit → Type 0) (o : Option Chan) → FitHas P o → IfFit Q o → (fit : Fit) × P fit × Q fit
both_of_fit P Q None has each = absurd has
both_of_fit P Q (Some chan) has each = of_fit chan.fit has each
  where
    of_fit : (o : Option Fit) → IsSomeAnd o P → IfSome o Q → (fit : Fit) × P fit × Q fit
    of_fit None has each = absurd has
    of_fit (Some fit) has each = (fit, has, each)

limit_by-le : (chans : List Chan) (q : Asked) (a b : ℕ) → IsLimitBy chans q a → IsLimitBy chans q b → a ≤ b
limit_by-le chans q a b is other = elim other.least [
  | inl radio ↦ let most = is.radio in omega (arith, radio, most)
  | inr (s, covered, here) ↦
      let found = both_of_fit (λ fit. b ≡ fit.limit_mbm) (λ fit. a ≤ fit.limit_mbm) (chan_with_centre chans s) here (is.records s covered) in
      let same = found.1 in
      let most = found.2 in
      omega (arith, same, most)
]

IsLimitBy-unique : (chans : List Chan) (q : Asked) (a b : ℕ) → IsLimitBy chans q a → IsLimitBy chans q b → a ≡ b
IsLimitBy-unique chans q a b is other =
    let to = limit_by-le chans q a b is other in
    let from = limit_by-le chans q b a other is in
    omega (arith, to, from)

length_by-le : (chans : List Chan) (q : Asked) (a b : ℕ) → IsCheckLengthBy chans q a → IsCheckLengthBy chans q b → a ≤ b
length_by-le chans q a b is other = elim is.greatest [
  | inl none ↦ omega (arith, none)
  | inr (s, covered, here) ↦
      let found = both_of_fit (λ fit. IsTrue fit.flags.dfs × (a ≡ fit.check_ms)) (λ fit. IsTrue fit.flags.dfs → fit.check_ms ≤ b) (chan_with_centre chans s) here (other.records s covered) in
      let same = found.1.1 in
      let least = found.2 found.1.0 in
      omega (arith, same, least)
]

IsCheckLengthBy-unique : (chans : List Chan) (q : Asked) (a b : ℕ) → IsCheckLengthBy chans q a → IsCheckLengthBy chans q b → a ≡ b
IsCheckLengthBy-unique chans q a b is other =
    let to = length_by-le chans q a b is other in
    let from = length_by-le chans q b a other is in
    omega (arith, to, from)

above_or_within : (setting : PowerSetting) (limit : ℕ) → IsAbove setting limit → IsWithinLimit setting limit → ⊥
above_or_within Auto limit above within = above
above_or_within (Limit power) limit above within = above
above_or_within (Fixed power) limit above within = omega (arith, above, within)

pub BarsFirst-unique : (bars : ℕ → Type 0) (c : ChanDef) (s t : ℕ) → BarsFirst bars c s → BarsFirst bars c t → s ≡ t
BarsFirst-unique bars c s t a b = elim (cases_order s t) [
  | inl same ↦ same
  | inr (inl less) ↦ absurd (b.none_below s less a.covered a.here)
  | inr (inr more) ↦ absurd (a.none_below t more b.covered b.here)
]

-- ---- verdicts in the order of their obstacles

abbrev place : Verdict → ℕ
place (Refused (LacksChannel s)) = 0
place (Refused (LacksWidth mhz)) = 1
place (Refused (NoRule s)) = 2
place (Refused (TooNarrow s)) = 3
place (Refused (NoOfdm s)) = 4
place (Refused (NoIr s)) = 5
place (Refused (NoOutdoor s)) = 6
place (Refused (AboveLimit limit)) = 7
place (Fits power length) = 8

refused-le : (r : ChanRefusal) → place (Refused r) ≤ 7
refused-le (AboveLimit limit) = omega arith
refused-le r = omega arith

place-le : (v : Verdict) → place v ≤ 8
place-le (Fits power length) = omega arith
place-le (Refused r) = let most = refused-le r in omega (arith, most)

-- what a later verdict says of the earlier obstacles

none_missing : (B : Obstacle → ℕ → Type 0) (L N : ℕ → Type 0) (q : Asked) (v : Verdict) → 0 < place v → IsVerdictOf B L N q v → BarsNone (B Missing) q.chan
none_missing B L N q (Refused (LacksChannel s)) later is = absurd (omega arith)
none_missing B L N q (Refused (LacksWidth mhz)) later is = is.0.0
none_missing B L N q (Fits power length) later is = is.none_bars.0
none_missing B L N q (Refused r) later is = is.1.0

has_width : (B : Obstacle → ℕ → Type 0) (L N : ℕ → Type 0) (q : Asked) (v : Verdict) → 1 < place v → IsVerdictOf B L N q v → HasWidth q
has_width B L N q (Refused (LacksChannel s)) later is = absurd (omega arith)
has_width B L N q (Refused (LacksWidth mhz)) later is = absurd (omega arith)
has_width B L N q (Fits power length) later is = is.has_width
has_width B L N q (Refused r) later is = is.0

none_unruled : (B : Obstacle → ℕ → Type 0) (L N : ℕ → Type 0) (q : Asked) (v : Verdict) → 2 < place v → IsVerdictOf B L N q v → BarsNone (B Unruled) q.chan
none_unruled B L N q (Refused (LacksChannel s)) later is = absurd (omega arith)
none_unruled B L N q (Refused (LacksWidth mhz)) later is = absurd (omega arith)
none_unruled B L N q (Refused (NoRule s)) later is = absurd (omega arith)
none_unruled B L N q (Fits power length) later is = is.none_bars.1.0
none_unruled B L N q (Refused r) later is = is.1.1.0

none_narrow : (B : Obstacle → ℕ → Type 0) (L N : ℕ → Type 0) (q : Asked) (v : Verdict) → 3 < place v → IsVerdictOf B L N q v → BarsNone (B Narrow) q.chan
none_narrow B L N q (Refused (NoOfdm s)) later is = is.1.1.1.0
none_narrow B L N q (Refused (NoIr s)) later is = is.1.1.1.0
none_narrow B L N q (Refused (NoOutdoor s)) later is = is.1.1.1.0
none_narrow B L N q (Refused (AboveLimit limit)) later is = is.1.1.1.0
none_narrow B L N q (Fits power length) later is = is.none_bars.1.1.0
none_narrow B L N q (Refused r) later is = absurd (omega arith)

none_ofdm : (B : Obstacle → ℕ → Type 0) (L N : ℕ → Type 0) (q : Asked) (v : Verdict) → 4 < place v → IsVerdictOf B L N q v → BarsNone (B OfdmBarred) q.chan
none_ofdm B L N q (Refused (NoIr s)) later is = is.1.1.1.1.0
none_ofdm B L N q (Refused (NoOutdoor s)) later is = is.1.1.1.1.0
none_ofdm B L N q (Refused (AboveLimit limit)) later is = is.1.1.1.1.0
none_ofdm B L N q (Fits power length) later is = is.none_bars.1.1.1.0
none_ofdm B L N q (Refused r) later is = absurd (omega arith)

none_ir : (B : Obstacle → ℕ → Type 0) (L N : ℕ → Type 0) (q : Asked) (v : Verdict) → 5 < place v → IsVerdictOf B L N q v → BarsNone (B IrBarred) q.chan
none_ir B L N q (Refused (NoOutdoor s)) later is = is.1.1.1.1.1.0
none_ir B L N q (Refused (AboveLimit limit)) later is = is.1.1.1.1.1.0
none_ir B L N q (Fits power length) later is = is.none_bars.1.1.1.1.0
none_ir B L N q (Refused r) later is = absurd (omega arith)

none_outdoor : (B : Obstacle → ℕ → Type 0) (L N : ℕ → Type 0) (q : Asked) (v : Verdict) → 6 < place v → IsVerdictOf B L N q v → BarsNone (B OutdoorBarred) q.chan
none_outdoor B L N q (Refused (AboveLimit limit)) later is = is.1.1.1.1.1.1.0
none_outdoor B L N q (Fits power length) later is = is.none_bars.1.1.1.1.1.0
none_outdoor B L N q (Refused r) later is = absurd (omega arith)

within_limit : (B : Obstacle → ℕ → Type 0) (L N : ℕ → Type 0) (q : Asked) (v : Verdict) → 7 < place v → IsVerdictOf B L N q v → (limit : ℕ) × L limit × IsWithinLimit q.setting limit
within_limit B L N q (Fits power length) later is = (is.limit, is.is_limit, is.within)
within_limit B L N q (Refused r) later is = absurd (let most = refused-le r in omega (arith, most, later))

-- of two verdicts none comes before the other
not_before : (B : Obstacle → ℕ → Type 0) (L N : ℕ → Type 0) (q : Asked) → ((a b : ℕ) → L a → L b → a ≡ b) → (v w : Verdict)
    → IsVerdictOf B L N q v → IsVerdictOf B L N q w → place v < place w → ⊥
not_before B L N q one_limit (Refused (LacksChannel s)) w is other less = none_missing B L N q w less other s is.covered is.here
not_before B L N q one_limit (Refused (LacksWidth mhz)) w is other less =
    let has = has_width B L N q w less other in
    let lacks = is.1 in
    omega (arith, has, lacks)
not_before B L N q one_limit (Refused (NoRule s)) w is other less = none_unruled B L N q w less other s is.2.covered is.2.here
not_before B L N q one_limit (Refused (TooNarrow s)) w is other less = none_narrow B L N q w less other s is.2.covered is.2.here
not_before B L N q one_limit (Refused (NoOfdm s)) w is other less = none_ofdm B L N q w less other s is.2.covered is.2.here
not_before B L N q one_limit (Refused (NoIr s)) w is other less = none_ir B L N q w less other s is.2.covered is.2.here
not_before B L N q one_limit (Refused (NoOutdoor s)) w is other less = none_outdoor B L N q w less other s is.2.covered is.2.here
not_before B L N q one_limit (Refused (AboveLimit limit)) w is other less =
    let found = within_limit B L N q w less other in
    above_or_within q.setting limit is.3 (subst (IsWithinLimit q.setting) (one_limit found.0 limit found.1 is.2) found.2)
not_before B L N q one_limit (Fits power length) w is other less = let most = place-le w in omega (arith, most, less)

same_place : (B : Obstacle → ℕ → Type 0) (L N : ℕ → Type 0) (q : Asked) → ((a b : ℕ) → L a → L b → a ≡ b) → ((a b : ℕ) → N a → N b → a ≡ b) → (v w : Verdict)
    → IsVerdictOf B L N q v → IsVerdictOf B L N q w → place v ≡ place w → v ≡ w
same_place B L N q one_limit one_length (Refused (LacksChannel s)) (Refused (LacksChannel t)) is other same =
    ap (λ n. Refused (LacksChannel n)) (BarsFirst-unique (B Missing) q.chan s t is other)
same_place B L N q one_limit one_length (Refused (LacksWidth a)) (Refused (LacksWidth b)) is other same =
    ap (λ n. Refused (LacksWidth n)) (let one = is.2 in let two = other.2 in omega (arith, one, two))
same_place B L N q one_limit one_length (Refused (NoRule s)) (Refused (NoRule t)) is other same =
    ap (λ n. Refused (NoRule n)) (BarsFirst-unique (B Unruled) q.chan s t is.2 other.2)
same_place B L N q one_limit one_length (Refused (TooNarrow s)) (Refused (TooNarrow t)) is other same =
    ap (λ n. Refused (TooNarrow n)) (BarsFirst-unique (B Narrow) q.chan s t is.2 other.2)
same_place B L N q one_limit one_length (Refused (NoOfdm s)) (Refused (NoOfdm t)) is other same =
    ap (λ n. Refused (NoOfdm n)) (BarsFirst-unique (B OfdmBarred) q.chan s t is.2 other.2)
same_place B L N q one_limit one_length (Refused (NoIr s)) (Refused (NoIr t)) is other same =
    ap (λ n. Refused (NoIr n)) (BarsFirst-unique (B IrBarred) q.chan s t is.2 other.2)
same_place B L N q one_limit one_length (Refused (NoOutdoor s)) (Refused (NoOutdoor t)) is other same =
    ap (λ n. Refused (NoOutdoor n)) (BarsFirst-unique (B OutdoorBarred) q.chan s t is.2 other.2)
same_place B L N q one_limit one_length (Refused (AboveLimit a)) (Refused (AboveLimit b)) is other same =
    ap (λ n. Refused (AboveLimit n)) (one_limit a b is.2 other.2)
same_place B L N q one_limit one_length (Fits power length) (Fits power' length') is other same =
    parts (is.power_is ∙ ap (power_of q.setting) (one_limit is.limit other.limit is.is_limit other.is_limit) ∙ sym other.power_is) (one_length length length' is.length_is other.length_is)
  where
    parts : power ≡ power' → length ≡ length' → Fits power length ≡ Fits power' length'
    parts p l = cc
same_place B L N q one_limit one_length (Fits power length) (Refused r) is other same = absurd (let most = refused-le r in omega (arith, most, same))
same_place B L N q one_limit one_length (Refused r) (Fits power length) is other same = absurd (let most = refused-le r in omega (arith, most, same))
same_place B L N q one_limit one_length v w is other same = absurd (omega arith)

one_verdict : (B : Obstacle → ℕ → Type 0) (L N : ℕ → Type 0) (q : Asked) → ((a b : ℕ) → L a → L b → a ≡ b) → ((a b : ℕ) → N a → N b → a ≡ b) → (v w : Verdict)
    → IsVerdictOf B L N q v → IsVerdictOf B L N q w → v ≡ w
one_verdict B L N q one_limit one_length v w is other = elim (cases_order (place v) (place w)) [
  | inl same ↦ same_place B L N q one_limit one_length v w is other same
  | inr (inl less) ↦ absurd (not_before B L N q one_limit v w is other less)
  | inr (inr more) ↦ absurd (not_before B L N q one_limit w v other is more)
]

pub IsVerdict-unique : (ds : List Domain) (q : Asked) (v w : Verdict) → IsVerdict ds q v → IsVerdict ds q w → v ≡ w
IsVerdict-unique ds q v w is other = one_verdict (Bars ds q) (IsLimit ds q) (IsCheckLength ds q) q (IsLimit-unique ds q) (IsCheckLength-unique ds q) v w is other

pub IsVerdictBy-unique : (chans : List Chan) (q : Asked) (v w : Verdict) → IsVerdictBy chans q v → IsVerdictBy chans q w → v ≡ w
IsVerdictBy-unique chans q v w is other = one_verdict (BarsBy chans q) (IsLimitBy chans q) (IsCheckLengthBy chans q) q (IsLimitBy-unique chans q) (IsCheckLengthBy-unique chans q) v w is other
