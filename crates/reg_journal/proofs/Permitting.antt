-- Where nothing ends an operation it may go on, and where nothing bars a start it is granted.
use Rattle.std.proofs.Common.{ℕ, ◌<◌, ◌≤◌, true, false, List, [], ◌∷◌, length, IsTrue, arith, refl, inl, inr}
use Rattle.std.proofs.lemmas.Bool.{cases_lt, false≢true}
use Rattle.freq_range.specs.Channels.{IsCentre, IsChannel}
use Rattle.freq_range.specs.declared.channel.Band.{Band}
use Rattle.freq_range.specs.declared.channel.Band.TheVariants.{Ghz2, Ghz5, Ghz6}
use Rattle.freq_range.proofs.Deciding.{Told, told_as, told_both}
use Rattle.rule_tables.specs.declared.domain.Domain.{Domain}
use Rattle.chan_def.specs.Covered.{width_khz, IsValidDef}
use Rattle.chan_def.specs.Kinds.{initiates}
use Rattle.chan_def.specs.declared.definition.ChanDef.{ChanDef}
use Rattle.chan_flags.specs.Profiles.{has_band}
use Rattle.chan_flags.specs.Verdicts.{Bars, BarsNone, IsWithinLimit, NoneBars}
use Rattle.chan_flags.specs.declared.asked.Obstacle.{Obstacle}
use Rattle.chan_flags.specs.declared.asked.Obstacle.TheVariants.{Missing, Unruled, Narrow, OfdmBarred, IrBarred, OutdoorBarred}
use Rattle.chan_flags.specs.declared.profile.Bands.{Bands}
use Rattle.chan_flags.specs.declared.verdict.PowerSetting.{PowerSetting}
use Rattle.chan_flags.proofs.Existing.{first_or_none, told_bars, told_covered, told_governing, told_not, told_true, within_or_above}
use Rattle.chan_flags.proofs.Granted.{power_within}
use Rattle.chan_flags.proofs.Told.{told_radio_channel}
use Rattle.reg_journal.specs.Facts.{Journal}
use Rattle.reg_journal.specs.Present.{Check, Iface, abilities_of}
use Rattle.reg_journal.specs.Applicable.{applies}
use Rattle.reg_journal.specs.Causes.{IsFree, ◌before◌, Where, AtLowest}
use Rattle.reg_journal.specs.Permits.{asked_by, channels_beside, distinct, width_mhz, IsBoundOn, IsLimitOf, IsPowerOf, LacksChannel, LacksWidth, LacksContext, OnEachBound, RadarForbids, RadioForbids, RulesForbid, PassesLimit, LacksRadarWidth, MetRadar, LacksCheck, EndsOperation, EndsCheck, BarsCheck, BarsOperation}
use Rattle.reg_journal.specs.Radar.{IsQuiet, NoneStands, Stands}
use Rattle.reg_journal.specs.Granted.{FitsRules, IsCarried, IsGranted, IsPermitted}
use Rattle.reg_journal.specs.Settled.{IsCheckPermitted}
use Rattle.reg_journal.specs.Sweep.{MustDrop}
use Rattle.reg_journal.specs.declared.refusal.Refusal.{Refusal}
use Rattle.reg_journal.specs.declared.refusal.Refusal.TheVariants.{RadioLacks, NoRule, Width as TooNarrow, NoOfdm, NoIr, NoOutdoor, Power, Radar, Unchecked}
use Rattle.reg_journal.proofs.Fitting.{channels_of_none_bars, fits_of_none_bars, fits_with, has_width}
use Rattle.reg_journal.proofs.ToldStates.{some_stands, told_quiet}

-- ---- what no cause says

pub free-first : (one next : Refusal → Type 0) → IsFree (one before next) → IsFree one
free-first one next free e cause = free e (inl cause)

pub free-next : (one next : Refusal → Type 0) → IsFree (one before next) → IsFree next
free-next one next free e cause = free e (inr (free-first one next free, cause))

pub never_where : (P : Type 0) (x : Refusal) → IsFree (Where P x) → P → ⊥
never_where P x free is = free x (is, refl)

-- bars no subchannel, where it is told of each
pub none_of_free : (bars : ℕ → Type 0) (c : ChanDef) (refusal : ℕ → Refusal) → ((s : ℕ) → Told (bars s)) → IsFree (AtLowest bars c refusal) → BarsNone bars c
none_of_free bars c refusal tell free = elim (first_or_none bars c tell) [
  | inl none ↦ none
  | inr (s, first) ↦ absurd (free (refusal s) (s, first, refl))
]

none_barred : (db : List Domain) (J : Journal) (x : Iface) (c : ChanDef) (obstacle : Obstacle) (refusal : ℕ → Refusal)
    → IsFree (AtLowest (Bars (applies db J x.radio) (asked_by J x c) obstacle) c refusal) → BarsNone (Bars (applies db J x.radio) (asked_by J x c) obstacle) c
none_barred db J x c obstacle refusal free =
    none_of_free (Bars (applies db J x.radio) (asked_by J x c) obstacle) c refusal (told_bars (applies db J x.radio) (asked_by J x c) obstacle) free

wide_enough : (J : Journal) (x : Iface) (c : ChanDef) → IsFree (LacksWidth J x c) → width_mhz c ≤ (abilities_of J x.radio).width_mhz
wide_enough J x c free = elim (cases_lt (abilities_of J x.radio).width_mhz (width_mhz c)) [
  | inl less ↦ absurd (never_where _ _ free less)
  | inr wide ↦ wide
]

no_rule_bars : (db : List Domain) (J : Journal) (x : Iface) (c : ChanDef) → IsFree (RulesForbid db J x c)
    → NoneBars (Bars (applies db J x.radio) (asked_by J x c)) c (Unruled ∷ Narrow ∷ OfdmBarred ∷ IrBarred ∷ OutdoorBarred ∷ [])
no_rule_bars db J x c free =
    let second = free-next (AtLowest (Bars (applies db J x.radio) (asked_by J x c) Unruled) c NoRule) _ free in
    let third = free-next (AtLowest (Bars (applies db J x.radio) (asked_by J x c) Narrow) c TooNarrow) _ second in
    let fourth = free-next (AtLowest (Bars (applies db J x.radio) (asked_by J x c) OfdmBarred) c NoOfdm) _ third in
    let fifth = free-next (AtLowest (Bars (applies db J x.radio) (asked_by J x c) IrBarred) c NoIr) _ fourth in (
      none_barred db J x c Unruled NoRule (free-first _ _ free),
      (
        none_barred db J x c Narrow TooNarrow (free-first _ _ second),
        (
          none_barred db J x c OfdmBarred NoOfdm (free-first _ _ third),
          (
            none_barred db J x c IrBarred NoIr (free-first _ _ fourth),
            (none_barred db J x c OutdoorBarred NoOutdoor fifth, tt),
          ),
        ),
      ),
    )

pub within : (db : List Domain) (J : Journal) (x : Iface) (setting : PowerSetting) (c : ChanDef) (limit : ℕ) → IsFree (PassesLimit db J x setting c) → IsLimitOf db J x c limit
    → IsWithinLimit setting limit
within db J x setting c limit free is = elim (within_or_above setting limit) [
  | inl below ↦ below
  | inr above ↦ absurd (free (Power limit) (limit, is, above, refl))
]

has_radar_width : (db : List Domain) (J : Journal) (x : Iface) (c : ChanDef) → IsFree (LacksRadarWidth db J x c)
    → OnEachBound db J x c (λ s. width_mhz c ≤ (abilities_of J x.radio).radar_mhz)
has_radar_width db J x c free sends s covered bound = elim (cases_lt (abilities_of J x.radio).radar_mhz (width_mhz c)) [
  | inl less ↦ absurd (never_where _ _ free (sends, (s, covered, bound), less))
  | inr wide ↦ wide
]

pub told_bound : (db : List Domain) (J : Journal) (r s : ℕ) → Told (IsBoundOn db J r s)
told_bound db J r s = told_governing (λ g. IsTrue g.rule.flags.dfs) (λ g. told_true g.rule.flags.dfs) (applies db J r) s

pub told_three : (P Q R : Type 0) → Told P → Told Q → Told R → Told (P × Q × R)
told_three P Q R p q r = told_as (λ is. (is.0, is.1.0, is.1.1)) (λ is. (is.0, (is.1, is.2))) (told_both p (told_both q r))

is_quiet : (db : List Domain) (J : Journal) (x : Iface) (c : ChanDef) → IsFree (MetRadar db J x c) → OnEachBound db J x c (IsQuiet J x.radio)
is_quiet db J x c free sends s covered bound = elim (told_quiet J x.radio s) [
  | inl quiet ↦ quiet
  | inr never ↦ absurd (none_of_free (λ s. IsTrue (initiates x.kind) × IsBoundOn db J x.radio s × (IsQuiet J x.radio s → ⊥)) c Radar
      (λ s. told_three _ _ _ (told_true (initiates x.kind)) (told_bound db J x.radio s) (told_not (IsQuiet J x.radio s) (told_quiet J x.radio s))) free s covered (sends, bound, never))
]

pub told_none_stands : (db : List Domain) (J : Journal) (r s : ℕ) → Told (NoneStands db J r s)
told_none_stands db J r s = elim (some_stands db J r s) [
  | inl (end, is) ↦ inr (λ none. none end is)
  | inr none ↦ inl none
]

is_checked : (db : List Domain) (J : Journal) (x : Iface) (c : ChanDef) → IsFree (LacksCheck db J x c) → OnEachBound db J x c (λ s. (end : ℕ) × Stands db J x.radio s end)
is_checked db J x c free sends s covered bound = elim (some_stands db J x.radio s) [
  | inl found ↦ found
  | inr none ↦ absurd (none_of_free (λ s. IsTrue (initiates x.kind) × IsBoundOn db J x.radio s × NoneStands db J x.radio s) c Unchecked
      (λ s. told_three _ _ _ (told_true (initiates x.kind)) (told_bound db J x.radio s) (told_none_stands db J x.radio s)) free s covered (sends, bound, none))
]

-- ---- what may go on

-- no obstacle bars the channel, where neither the radio nor the rules forbid it
none_bars : (db : List Domain) (J : Journal) (x : Iface) (c : ChanDef) → IsFree (RadioForbids db J x c) → IsFree (RulesForbid db J x c)
    → NoneBars (Bars (applies db J x.radio) (asked_by J x c)) c (Missing ∷ Unruled ∷ Narrow ∷ OfdmBarred ∷ IrBarred ∷ OutdoorBarred ∷ [])
none_bars db J x c radio rules = (none_barred db J x c Missing RadioLacks (free-first _ _ radio), no_rule_bars db J x c rules)

-- the radio carries the channel
is_carried : (db : List Domain) (J : Journal) (x : Iface) (c : ChanDef) → IsFree (RadioForbids db J x c) → IsFree (RulesForbid db J x c) → IsFree (RadarForbids db J x c) → IsCarried db J x c
is_carried db J x c radio rules radar =
    let wide = wide_enough J x c (free-next (LacksChannel db J x c) _ radio) in
    record {
      channels = channels_of_none_bars db J x c (has_width J x c wide) (none_bars db J x c radio rules);
      width = wide;
      radar_width = has_radar_width db J x c (free-first _ _ radar);
    }

-- it fits, whatever the power
fits_unpowered : (db : List Domain) (J : Journal) (x : Iface) (c : ChanDef) → IsFree (RadioForbids db J x c) → IsFree (RulesForbid db J x c) → FitsRules db J x c 0
fits_unpowered db J x c radio rules =
    fits_of_none_bars db J x c (has_width J x c (wide_enough J x c (free-next (LacksChannel db J x c) _ radio))) (none_bars db J x c radio rules)

-- what is left of the causes behind the radio's channels, width and contexts
abbrev pub Forbids : List Domain → Journal → Iface → ChanDef → Refusal → Type 0
Forbids db J x c = RulesForbid db J x c before PassesLimit db J x x.setting c before RadarForbids db J x c before LacksCheck db J x c

permitted_of_parts : (db : List Domain) (J : Journal) (x : Iface) (c : ChanDef) (power : ℕ) → IsFree (RadioForbids db J x c) → IsFree (Forbids db J x c) → IsPowerOf db J x c power
    → IsPermitted db J x c power
permitted_of_parts db J x c power radio free (limit, is, power_is) =
    let rules = free-first _ _ free in
    let passes = free-next (RulesForbid db J x c) _ free in
    let radar = free-next (PassesLimit db J x x.setting c) _ passes in
    let unchecked = free-next (RadarForbids db J x c) _ radar in
    let met = free-next (LacksRadarWidth db J x c) _ (free-first (RadarForbids db J x c) _ radar) in
    let low = within db J x x.setting c limit (free-first _ _ passes) is in
    record {
      carried = is_carried db J x c radio rules (free-first _ _ radar);
      fits = fits_with db J x c 0 power x.setting (fits_unpowered db J x c radio rules) (λ s d g covered has governs.
          let most = is.rules s d g covered has governs in
          let below = power_within x.setting limit low in
          omega (arith, most, below, power_is));
      given = record { limit = limit; is_limit = is; power_is = power_is; within = low };
      clear = λ sends s covered bound.
          let check = is_checked db J x c unchecked sends s covered bound in
          record { quiet = is_quiet db J x c met sends s covered bound; end = check.0; stands = check.1 };
    }

-- an operation that nothing ends may go on with the power of its setting
pub permitted_of_free : (db : List Domain) (J : Journal) (x : Iface) (c : ChanDef) (power : ℕ) → IsFree (EndsOperation db J x c) → IsPowerOf db J x c power
    → IsPermitted db J x c power
permitted_of_free db J x c power free is = permitted_of_parts db J x c power (free-first _ _ free) (free-next (RadioForbids db J x c) _ free) is

-- a start on a valid channel that nothing bars is granted
pub granted_of_free : (db : List Domain) (J : Journal) (x : Iface) (c : ChanDef) (power : ℕ) → IsValidDef c → IsFree (BarsOperation db J x c) → IsPowerOf db J x c power
    → IsGranted db J x c power
granted_of_free db J x c power valid free is =
    let context = free-next (RadioForbids db J x c) _ free in
    let may = permitted_of_parts db J x c power (free-first _ _ free) (free-next (LacksContext J x c) _ context) is in
    record {
      valid = valid;
      supported = record {
        carried = may.carried;
        contexts = elim (cases_lt (abilities_of J x.radio).contexts (length (distinct (c ∷ channels_beside J x)))) [
          | inl less ↦ absurd (never_where _ _ (free-first (LacksContext J x c) _ context) less)
          | inr few ↦ few
        ];
      };
      fits = may.fits;
      given = may.given;
      clear = may.clear;
    }

-- what neither the radio, the rules nor radar forbid: the radio carries it, it fits, and all is quiet
pub record HasCheckable (db : List Domain) (J : Journal) (x : Iface) (c : ChanDef) : Type 0 where
  pub carried : IsCarried db J x c
  pub fits : FitsRules db J x c 0
  pub quiet : OnEachBound db J x c (IsQuiet J x.radio)

checkable : (db : List Domain) (J : Journal) (x : Iface) (c : ChanDef) → IsFree (RadioForbids db J x c) → IsFree (RulesForbid db J x c) → IsFree (RadarForbids db J x c)
    → HasCheckable db J x c
checkable db J x c radio rules radar = record {
  carried = is_carried db J x c radio rules radar;
  fits = fits_unpowered db J x c radio rules;
  quiet = is_quiet db J x c (free-next (LacksRadarWidth db J x c) _ radar);
}

-- a running check that needn't go may go on
pub check_permitted_of_kept : (db : List Domain) (J : Journal) (x : Iface) (k : Check) → (MustDrop db J x k → ⊥) → IsCheckPermitted db J x k
check_permitted_of_kept db J x k stays =
    let free : IsFree (EndsCheck db J x k.chan) = λ e cause. stays (inl (e, cause)) in
    let rest = free-next (RadioForbids db J x k.chan) _ free in
    let may = checkable db J x k.chan (free-first _ _ free) (free-first _ _ rest) (free-next (RulesForbid db J x k.chan) _ rest) in
    record { carried = may.carried; fits = may.fits; quiet = may.quiet; same_region = λ changed. stays (inr changed) }

-- nor does anything forbid a check that nothing bars
pub check_of_free : (db : List Domain) (J : Journal) (x : Iface) (c : ChanDef) → IsFree (BarsCheck db J x c) → HasCheckable db J x c
check_of_free db J x c free =
    let context = free-next (RadioForbids db J x c) _ free in
    let rules = free-next (LacksContext J x c) _ context in
    checkable db J x c (free-first _ _ free) (free-first _ _ rules) (free-next (RulesForbid db J x c) _ rules)

-- ---- valid channels

every_band : Bands
every_band = record { ghz2 = true; ghz5 = true; ghz6 = true }

told_centre : (khz : ℕ) → Told (IsCentre khz)
unfolding every_band
told_centre khz = told_as (λ (band, n, is, has). (band, n, is)) (λ (band, n, is). (band, n, is, each band)) (told_radio_channel every_band khz)
  where
    each : (band : Band) → IsTrue (has_band every_band band)
    each Ghz2 = refl
    each Ghz5 = refl
    each Ghz6 = refl

band_6 : Bands
band_6 = record { ghz2 = false; ghz5 = false; ghz6 = true }

told_in_6 : (khz : ℕ) → Told ((n : ℕ) × IsChannel Ghz6 n khz)
unfolding band_6
told_in_6 khz = told_as (λ (band, n, is, has). by band n is has) (λ (n, is). (Ghz6, n, is, refl)) (told_radio_channel band_6 khz)
  where
    by : (band : Band) (n : ℕ) → IsChannel band n khz → IsTrue (has_band band_6 band) → (n : ℕ) × IsChannel Ghz6 n khz
    by Ghz2 n is has = absurd (false≢true has)
    by Ghz5 n is has = absurd (false≢true has)
    by Ghz6 n is has = (n, is)

told_in_band : (c : ChanDef) → Told (160000 < width_khz c.width → (n : ℕ) × IsChannel Ghz6 n c.control_khz)
told_in_band c = elim (cases_lt 160000 (width_khz c.width)) [
  | inr narrow ↦ inl (λ wide. absurd (omega (arith, wide, narrow)))
  | inl wide ↦ elim (told_in_6 c.control_khz) [
    | inl found ↦ inl (λ again. found)
    | inr never ↦ inr (λ needs. never (needs wide))
  ]
]

pub told_valid : (c : ChanDef) → Told (IsValidDef c)
told_valid c = told_as (λ is. record { in_table = is.0; in_band = is.1.0; on_channel = is.1.1 }) (λ valid. (valid.in_table, (valid.in_band, valid.on_channel)))
    (told_both (told_centre c.control_khz) (told_both (told_in_band c) (told_covered c c.control_khz)))
