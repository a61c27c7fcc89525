-- What fits the rules is what no rule bars.
use Rattle.std.proofs.Common.{◌≡◌, ℕ, ◌*◌, ◌/◌, ◌≤◌, List, [], ◌∷◌, Contains, arith, refl, sym, subst}
use Rattle.rule_tables.specs.declared.domain.Domain.{Domain}
use Rattle.rule_intersect.specs.Tuples.{Choice}
use Rattle.chan_def.specs.Covered.{width_khz, IsCovered}
use Rattle.chan_def.specs.declared.definition.ChanDef.{ChanDef}
use Rattle.chan_def.specs.declared.width.Width.{Width}
use Rattle.chan_def.specs.declared.width.Width.TheVariants.{Noht, W20, W40, W80, W160, W320}
use Rattle.chan_flags.specs.Fits.{FitsRule, IsGranting}
use Rattle.chan_flags.specs.Lists.{IsRadioChannel}
use Rattle.chan_flags.specs.Profiles.{Abilities}
use Rattle.chan_flags.specs.Verdicts.{Bars, HasWidth, IsBound, IsGoverning, IsLimit, NoneBars}
use Rattle.chan_flags.specs.declared.asked.Obstacle.TheVariants.{Missing, Unruled, Narrow, OfdmBarred, IrBarred, OutdoorBarred}
use Rattle.chan_flags.specs.declared.verdict.PowerSetting.{PowerSetting}
use Rattle.chan_flags.specs.declared.verdict.PowerSetting.TheVariants.{Fixed}
use Rattle.chan_flags.proofs.Existing.{some_length, some_limit}
use Rattle.chan_flags.proofs.Granted.{granting_from_verdict, verdict_from_granting}
use Rattle.reg_journal.specs.Applicable.{applies}
use Rattle.reg_journal.specs.Facts.{Journal}
use Rattle.reg_journal.specs.Granted.{FitsRules, IsCarried, IsClear, IsGivenPower, IsGranted, IsPermitted}
use Rattle.reg_journal.specs.Permits.{asked_by, width_mhz, OnEachBound}
use Rattle.reg_journal.specs.Present.{Iface, abilities_of}

-- ---- widths are whole MHz

pub whole_mhz : (w : Width) → width_khz w ≡ width_khz w / 1000 * 1000
whole_mhz Noht = refl
whole_mhz W20 = refl
whole_mhz W40 = refl
whole_mhz W80 = refl
whole_mhz W160 = refl
whole_mhz W320 = refl

pub has_width : (J : Journal) (x : Iface) (c : ChanDef) → width_mhz c ≤ (abilities_of J x.radio).width_mhz → HasWidth (asked_by J x c)
has_width J x c wide = let whole = whole_mhz c.width in omega (arith, wide, whole)

pub width_had : (J : Journal) (x : Iface) (c : ChanDef) → HasWidth (asked_by J x c) → width_mhz c ≤ (abilities_of J x.radio).width_mhz
width_had J x c has = let whole = whole_mhz c.width in omega (arith, has, whole)

-- ---- what is permitted, and what the rules grant

-- what fits, with the power that is given, is granted by the rules
pub granting_of_fits : (db : List Domain) (J : Journal) (x : Iface) (c : ChanDef) (power : ℕ) → IsCarried db J x c → FitsRules db J x c power → IsGivenPower db J x c power
    → (ms : ℕ) × IsGranting (applies db J x.radio) (asked_by J x c) power ms
granting_of_fits db J x c power carried fits given =
    let length = some_length (applies db J x.radio) (asked_by J x c) in (
      length.0,
      record {
        fitting = record { channels = carried.channels; has_width = has_width J x c carried.width; rules = fits };
        limit = given.limit;
        is_limit = given.is_limit;
        within = given.within;
        power_is = given.power_is;
        length_is = length.1;
      },
    )

pub granting_of_permitted : (db : List Domain) (J : Journal) (x : Iface) (c : ChanDef) (power : ℕ) → IsPermitted db J x c power
    → (ms : ℕ) × IsGranting (applies db J x.radio) (asked_by J x c) power ms
granting_of_permitted db J x c power may = granting_of_fits db J x c power may.carried may.fits may.given

-- and what they grant is permitted, where radar doesn't forbid it
pub permitted_of_granting : (db : List Domain) (J : Journal) (x : Iface) (c : ChanDef) (power ms : ℕ) → IsGranting (applies db J x.radio) (asked_by J x c) power ms
    → OnEachBound db J x c (λ s. width_mhz c ≤ (abilities_of J x.radio).radar_mhz) → OnEachBound db J x c (IsClear db J x.radio) → IsPermitted db J x c power
permitted_of_granting db J x c power ms granting radar clear = record {
  carried = record { channels = granting.fitting.channels; width = width_had J x c granting.fitting.has_width; radar_width = radar };
  fits = granting.fitting.rules;
  given = record { limit = granting.limit; is_limit = granting.is_limit; power_is = granting.power_is; within = granting.within };
  clear = clear;
}

pub permitted_of_granted : (db : List Domain) (J : Journal) (x : Iface) (c : ChanDef) (power : ℕ) → IsGranted db J x c power → IsPermitted db J x c power
permitted_of_granted db J x c power is = record { carried = is.supported.carried; fits = is.fits; given = is.given; clear = is.clear }

-- ---- whatever the power

-- what fits with some power fits with none
fits_powerless : (db : List Domain) (J : Journal) (x : Iface) (c : ChanDef) (power : ℕ) → FitsRules db J x c power → FitsRules db J (record x { setting = Fixed 0 }) c 0
fits_powerless db J x c power fits s d covered has =
    let found = fits s d covered has in
    let fit = found.2 in (found.0, found.1, record { width = fit.width; power = omega arith; ofdm = fit.ofdm; ir = fit.ir; outdoor = fit.outdoor })

-- no obstacle bars what is carried and fits
pub none_bars_of_fits : (db : List Domain) (J : Journal) (x : Iface) (c : ChanDef) (power : ℕ) → IsCarried db J x c → FitsRules db J x c power
    → NoneBars (Bars (applies db J x.radio) (asked_by J x c)) c (Missing ∷ Unruled ∷ Narrow ∷ OfdmBarred ∷ IrBarred ∷ OutdoorBarred ∷ [])
none_bars_of_fits db J x c power carried fits =
    let ds = applies db J x.radio in
    let q = asked_by J (record x { setting = Fixed 0 }) c in
    let limit = some_limit ds q in
    let length = some_length ds q in
    (verdict_from_granting ds q 0 length.0 (record {
      fitting = record { channels = carried.channels; has_width = has_width J x c carried.width; rules = fits_powerless db J x c power fits };
      limit = limit.0;
      is_limit = limit.1;
      within = omega arith;
      power_is = refl;
      length_is = length.1;
    })).none_bars

-- what no obstacle bars has its channels, and fits without power
granting_powerless : (db : List Domain) (J : Journal) (x : Iface) (c : ChanDef) → HasWidth (asked_by J x c)
    → NoneBars (Bars (applies db J x.radio) (asked_by J x c)) c (Missing ∷ Unruled ∷ Narrow ∷ OfdmBarred ∷ IrBarred ∷ OutdoorBarred ∷ [])
    → (ms : ℕ) × IsGranting (applies db J x.radio) (asked_by J (record x { setting = Fixed 0 }) c) 0 ms
granting_powerless db J x c has none =
    let ds = applies db J x.radio in
    let q = asked_by J (record x { setting = Fixed 0 }) c in
    let limit = some_limit ds q in
    let length = some_length ds q in (
      length.0,
      granting_from_verdict ds q 0 length.0 (record {
        has_width = has;
        none_bars = none;
        limit = limit.0;
        is_limit = limit.1;
        within = omega arith;
        power_is = refl;
        length_is = length.1;
      }),
    )

pub channels_of_none_bars : (db : List Domain) (J : Journal) (x : Iface) (c : ChanDef) → HasWidth (asked_by J x c)
    → NoneBars (Bars (applies db J x.radio) (asked_by J x c)) c (Missing ∷ Unruled ∷ Narrow ∷ OfdmBarred ∷ IrBarred ∷ OutdoorBarred ∷ [])
    → (s : ℕ) → IsCovered c s → IsRadioChannel (abilities_of J x.radio).bands s
channels_of_none_bars db J x c has none = (granting_powerless db J x c has none).1.fitting.channels

pub fits_of_none_bars : (db : List Domain) (J : Journal) (x : Iface) (c : ChanDef) → HasWidth (asked_by J x c)
    → NoneBars (Bars (applies db J x.radio) (asked_by J x c)) c (Missing ∷ Unruled ∷ Narrow ∷ OfdmBarred ∷ IrBarred ∷ OutdoorBarred ∷ []) → FitsRules db J x c 0
fits_of_none_bars db J x c has none s d covered there =
    let found = (granting_powerless db J x c has none).1.fitting.rules s d covered there in
    let fit = found.2 in (found.0, found.1, record { width = fit.width; power = fit.power; ofdm = fit.ofdm; ir = fit.ir; outdoor = fit.outdoor })

-- ---- other powers

-- the radio carries the channel whatever the setting
pub carried_with : (db : List Domain) (J : Journal) (x : Iface) (c : ChanDef) (setting : PowerSetting) → IsCarried db J x c → IsCarried db J (record x { setting = setting }) c
carried_with db J x c setting carried = record { channels = carried.channels; width = carried.width; radar_width = carried.radar_width }

-- what fits with one power fits, whatever the setting, with each that no rule's is below
pub fits_with : (db : List Domain) (J : Journal) (x : Iface) (c : ChanDef) (old power : ℕ) (setting : PowerSetting) → FitsRules db J x c old
    → ((s : ℕ) (d : Domain) (g : Choice) → IsCovered c s → Contains (applies db J x.radio) d → IsGoverning d s g → power ≤ g.rule.eirp_mbm)
    → FitsRules db J (record x { setting = setting }) c power
fits_with db J x c old power setting fits least s d covered has =
    let found = fits s d covered has in
    let fit = found.2 in (found.0, found.1, record { width = fit.width; power = least s d found.0 covered has found.1; ofdm = fit.ofdm; ir = fit.ir; outdoor = fit.outdoor })

-- ---- other journals, over which the radio's profile, its domains and the radios' place are the same

pub carried_over : (db : List Domain) (J next : Journal) (x : Iface) (c : ChanDef) → abilities_of next x.radio ≡ abilities_of J x.radio
    → applies db next x.radio ≡ applies db J x.radio → IsCarried db J x c → IsCarried db next x c
carried_over db J next x c abilities domains carried = record {
  channels = subst (λ (a : Abilities). (s : ℕ) → IsCovered c s → IsRadioChannel a.bands s) (sym abilities) carried.channels;
  width = subst (λ (a : Abilities). width_mhz c ≤ a.width_mhz) (sym abilities) carried.width;
  radar_width = λ sends s covered bound.
      subst (λ (a : Abilities). width_mhz c ≤ a.radar_mhz) (sym abilities) (carried.radar_width sends s covered (subst (λ ds. IsBound ds s) domains bound));
}

pub fits_over : (db : List Domain) (J next : Journal) (x : Iface) (c : ChanDef) (power : ℕ) → asked_by next x c ≡ asked_by J x c
    → applies db next x.radio ≡ applies db J x.radio → FitsRules db J x c power → FitsRules db next x c power
fits_over db J next x c power asks domains fits s d covered has =
    let found = fits s d covered (subst (λ ds. Contains ds d) domains has) in
    (found.0, found.1, subst (λ q. FitsRule q power found.0) (sym asks) found.2)

pub given_over : (db : List Domain) (J next : Journal) (x : Iface) (c : ChanDef) (power : ℕ) → asked_by next x c ≡ asked_by J x c
    → applies db next x.radio ≡ applies db J x.radio → IsGivenPower db J x c power → IsGivenPower db next x c power
given_over db J next x c power asks domains given = record {
  limit = given.limit;
  is_limit =
      subst (λ q. IsLimit (applies db next x.radio) q given.limit) (sym asks)
      (subst (λ ds. IsLimit ds (asked_by J x c) given.limit) (sym domains) given.is_limit);
  power_is = given.power_is;
  within = given.within;
}
