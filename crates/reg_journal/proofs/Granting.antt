-- Nothing bars an operation that is granted, and nothing ends one that may go on.
use Rattle.std.proofs.Common.{ℕ, ◌≤◌, List, [], ◌∷◌, subst, inl, inr, arith}
use Rattle.rule_tables.specs.declared.domain.Domain.{Domain}
use Rattle.chan_def.specs.declared.definition.ChanDef.{ChanDef}
use Rattle.chan_flags.specs.Verdicts.{Bars, BarsNone, HasWidth, IsAbove, IsWithinLimit, NoneBars}
use Rattle.chan_flags.specs.declared.asked.Obstacle.TheVariants.{Unruled, Narrow, OfdmBarred, IrBarred, OutdoorBarred}
use Rattle.chan_flags.specs.declared.verdict.PowerSetting.{PowerSetting}
use Rattle.chan_flags.specs.declared.verdict.PowerSetting.TheVariants.{Auto, Limit, Fixed}
use Rattle.chan_flags.proofs.OneAnswer.{IsLimit-unique}
use Rattle.reg_journal.specs.Facts.{Journal}
use Rattle.reg_journal.specs.Present.{Iface, abilities_of}
use Rattle.reg_journal.specs.Applicable.{applies}
use Rattle.reg_journal.specs.Causes.{IsFree, ◌before◌, Where, AtLowest}
use Rattle.reg_journal.specs.Permits.{asked_by, width_mhz, IsLimitOf, IsPowerOf, LacksWidth, OnEachBound, RadarForbids, RadioForbids, RulesForbid, PassesLimit, LacksRadarWidth, MetRadar, LacksCheck, EndsOperation, BarsOperation}
use Rattle.reg_journal.specs.Radar.{IsQuiet, Stands}
use Rattle.reg_journal.specs.Granted.{IsCarried, IsGranted, IsPermitted}
use Rattle.reg_journal.specs.declared.refusal.Refusal.{Refusal}
use Rattle.reg_journal.proofs.Fitting.{has_width, none_bars_of_fits, permitted_of_granted, whole_mhz}

pub free-before : (one next : Refusal → Type 0) → IsFree one → IsFree next → IsFree (one before next)
free-before one next first second e (inl cause) = first e cause
free-before one next first second e (inr cause) = second e cause.1

pub free-where : (P : Type 0) (x : Refusal) → (P → ⊥) → IsFree (Where P x)
free-where P x none e cause = none cause.0

pub free-at_lowest : (bars : ℕ → Type 0) (c : ChanDef) (refusal : ℕ → Refusal) → BarsNone bars c → IsFree (AtLowest bars c refusal)
free-at_lowest bars c refusal none e (s, first, here) = none s first.covered first.here

pub not_above : (setting : PowerSetting) (limit : ℕ) → IsWithinLimit setting limit → IsAbove setting limit → ⊥
not_above Auto limit within above = above
not_above (Limit power) limit within above = above
not_above (Fixed power) limit within above = omega (arith, within, above)

-- ---- each cause by itself

pub free-lacks_width : (J : Journal) (x : Iface) (c : ChanDef) → HasWidth (asked_by J x c) → IsFree (LacksWidth J x c)
free-lacks_width J x c has = free-where _ _ (λ less. let whole = whole_mhz c.width in absurd (omega (arith, less, has, whole)))

pub free-rules_forbid : (db : List Domain) (J : Journal) (x : Iface) (c : ChanDef)
    → NoneBars (Bars (applies db J x.radio) (asked_by J x c)) c (Unruled ∷ Narrow ∷ OfdmBarred ∷ IrBarred ∷ OutdoorBarred ∷ []) → IsFree (RulesForbid db J x c)
free-rules_forbid db J x c none =
    free-before _ _ (free-at_lowest _ c _ none.0)
    (free-before _ _ (free-at_lowest _ c _ none.1.0)
    (free-before _ _ (free-at_lowest _ c _ none.1.1.0)
    (free-before _ _ (free-at_lowest _ c _ none.1.1.1.0)
    (free-at_lowest _ c _ none.1.1.1.1.0))))

pub free-passes_limit : (db : List Domain) (J : Journal) (x : Iface) (setting : PowerSetting) (c : ChanDef) (limit : ℕ) → IsLimitOf db J x c limit → IsWithinLimit setting limit
    → IsFree (PassesLimit db J x setting c)
free-passes_limit db J x setting c limit is within e cause =
    not_above setting limit within (subst (λ n. IsAbove setting n) (IsLimit-unique _ _ cause.0 limit cause.1 is) cause.2)

pub free-lacks_radar_width : (db : List Domain) (J : Journal) (x : Iface) (c : ChanDef)
    → OnEachBound db J x c (λ s. width_mhz c ≤ (abilities_of J x.radio).radar_mhz) → IsFree (LacksRadarWidth db J x c)
free-lacks_radar_width db J x c has =
    free-where _ _ (λ lacks. let wide = has lacks.0 lacks.1.0 lacks.1.1 lacks.1.2 in let less = lacks.2 in absurd (omega (arith, wide, less)))

pub free-met_radar : (db : List Domain) (J : Journal) (x : Iface) (c : ChanDef) → OnEachBound db J x c (IsQuiet J x.radio) → IsFree (MetRadar db J x c)
free-met_radar db J x c quiet = free-at_lowest _ c _ (λ s covered met. met.2 (quiet met.0 s covered met.1))

pub free-lacks_check : (db : List Domain) (J : Journal) (x : Iface) (c : ChanDef) → OnEachBound db J x c (λ s. (end : ℕ) × Stands db J x.radio s end)
    → IsFree (LacksCheck db J x c)
free-lacks_check db J x c stands =
    free-at_lowest _ c _ (λ s covered lacks. let check = stands lacks.0 s covered lacks.1 in lacks.2 check.0 check.1)

-- ---- what is carried, and what the rules and radar leave

-- the radio forbids nothing that it carries
pub free_of_radio : (db : List Domain) (J : Journal) (x : Iface) (c : ChanDef) → IsCarried db J x c → IsFree (RadioForbids db J x c)
free_of_radio db J x c carried =
    free-before _ _ (free-at_lowest _ c _ (λ s covered missing. missing (carried.channels s covered))) (free-lacks_width J x c (has_width J x c carried.width))

pub free_of_radar : (db : List Domain) (J : Journal) (x : Iface) (c : ChanDef) → OnEachBound db J x c (λ s. width_mhz c ≤ (abilities_of J x.radio).radar_mhz)
    → OnEachBound db J x c (IsQuiet J x.radio) → IsFree (RadarForbids db J x c)
free_of_radar db J x c wide quiet = free-before _ _ (free-lacks_radar_width db J x c wide) (free-met_radar db J x c quiet)

-- ---- an operation that may go on

-- what operations are stopped and refused by alike
free_of_rules : (db : List Domain) (J : Journal) (x : Iface) (c : ChanDef) (power : ℕ) → IsPermitted db J x c power
    → IsFree (RulesForbid db J x c before PassesLimit db J x x.setting c before RadarForbids db J x c before LacksCheck db J x c)
free_of_rules db J x c power may =
    free-before _ _ (free-rules_forbid db J x c (none_bars_of_fits db J x c power may.carried may.fits).1)
    (free-before _ _ (free-passes_limit db J x x.setting c may.given.limit may.given.is_limit may.given.within)
    (free-before _ _ (free_of_radar db J x c may.carried.radar_width (λ sends s covered bound. (may.clear sends s covered bound).quiet))
    (free-lacks_check db J x c (λ sends s covered bound. let clear = may.clear sends s covered bound in (clear.end, clear.stands)))))

-- nothing ends it
pub free_of_permitted : (db : List Domain) (J : Journal) (x : Iface) (c : ChanDef) (power : ℕ) → IsPermitted db J x c power → IsFree (EndsOperation db J x c)
free_of_permitted db J x c power may = free-before _ _ (free_of_radio db J x c may.carried) (free_of_rules db J x c power may)

-- and its power is the one that its setting gives
pub power_of_permitted : (db : List Domain) (J : Journal) (x : Iface) (c : ChanDef) (power : ℕ) → IsPermitted db J x c power → IsPowerOf db J x c power
power_of_permitted db J x c power may = (may.given.limit, may.given.is_limit, may.given.power_is)

-- ---- a start that is granted

pub free_of_granted : (db : List Domain) (J : Journal) (x : Iface) (c : ChanDef) (power : ℕ) → IsGranted db J x c power → IsFree (BarsOperation db J x c)
free_of_granted db J x c power is =
    free-before _ _ (free_of_radio db J x c is.supported.carried)
    (free-before _ _ (free-where _ _ (λ less. let few = is.supported.contexts in absurd (omega (arith, less, few))))
    (free_of_rules db J x c power (permitted_of_granted db J x c power is)))

pub power_of_granted : (db : List Domain) (J : Journal) (x : Iface) (c : ChanDef) (power : ℕ) → IsGranted db J x c power → IsPowerOf db J x c power
power_of_granted db J x c power is = (is.given.limit, is.given.is_limit, is.given.power_is)
