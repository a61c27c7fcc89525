-- Why radar keeps an interface from a channel, in order.
use Rattle.std.proofs.Common.{◌≡◌, ℕ, ◌<◌, List, IsTrue, unwrap_or, arith, refl, sym, ap, subst}
use Rattle.rule_tables.specs.declared.domain.Domain.{Domain}
use Rattle.chan_def.specs.Kinds.{initiates}
use Rattle.chan_def.specs.declared.definition.ChanDef.{ChanDef}
use Rattle.chan_flags.specs.Profiles.{Abilities}
use Rattle.chan_flags.specs.Verdicts.{BarsFirst}
use Rattle.reg_journal.specs.Causes.{IsFree}
use Rattle.reg_journal.specs.Facts.{Journal}
use Rattle.reg_journal.specs.Permits.{LacksCheck, LacksRadarWidth, MetRadar, width_mhz}
use Rattle.reg_journal.specs.Present.{Iface, abilities_of, no_abilities}
use Rattle.reg_journal.specs.declared.refusal.Refusal.TheVariants.{RadioLacksRadarWidth, Radar, Unchecked}
use Rattle.reg_journal.proofs.Granting.{free-at_lowest, free-where}
use Rattle.core_parts.specs.Demands.{AllMeetFor, FailsDemand, HasRadarWidth, IsNarrowEnough, IsTooWide}
use Rattle.core_parts.specs.Kept.{KeepsRadio}
use Rattle.core_parts.specs.declared.radar.Demand.TheVariants.{Absent, Quiet, Clear}
use Rattle.core_parts.specs.declared.radio.Radio.{Radio}

-- ---- the radar width

pub abilities_kept : (db : List Domain) (J : Journal) (r : ℕ) (radio : Radio) → KeepsRadio db J r radio → radio.chans.profile ≡ abilities_of J r
abilities_kept db J r radio keeps = sym (ap (λ p. unwrap_or p no_abilities) keeps.profile)

pub too_wide : (db : List Domain) (J : Journal) (r mhz s : ℕ) (c : ChanDef) → BarsFirst (FailsDemand db J r Absent) c s → mhz < width_mhz c → IsTooWide db J r mhz c
too_wide db J r mhz s c first wider = ((s, first.covered, first.here.0), wider)

pub lacks_width : (db : List Domain) (J : Journal) (x : Iface) (radio : Radio) (c : ChanDef) → KeepsRadio db J x.radio radio → IsTrue (initiates x.kind)
    → IsTooWide db J x.radio radio.chans.profile.radar_mhz c → LacksRadarWidth db J x c (RadioLacksRadarWidth (width_mhz c))
lacks_width db J x radio c keeps sends wide =
    let here = subst (λ (p : Abilities). IsTooWide db J x.radio p.radar_mhz c) (abilities_kept db J x.radio radio keeps) wide in
    ((sends, here.0, here.1), refl)

pub has_width : (db : List Domain) (J : Journal) (x : Iface) (radio : Radio) (c : ChanDef) → KeepsRadio db J x.radio radio → IsNarrowEnough db J x.radio radio.chans.profile.radar_mhz c
    → HasRadarWidth db J x c
has_width db J x radio c keeps narrow = λ sends. subst (λ (p : Abilities). IsNarrowEnough db J x.radio p.radar_mhz c) (abilities_kept db J x.radio radio keeps) narrow

pub free_of_width : (db : List Domain) (J : Journal) (x : Iface) (c : ChanDef) → HasRadarWidth db J x c → IsFree (LacksRadarWidth db J x c)
free_of_width db J x c has = free-where _ _ (λ lacks. let narrow = has lacks.0 lacks.1.0 lacks.1.1 lacks.1.2 in let wider = lacks.2 in absurd (omega (arith, narrow, wider)))

-- ---- radar, and checks

pub met_radar : (db : List Domain) (J : Journal) (x : Iface) (c : ChanDef) (s : ℕ) → IsTrue (initiates x.kind) → BarsFirst (FailsDemand db J x.radio Quiet) c s → MetRadar db J x c (Radar s)
met_radar db J x c s sends first = (
  s,
  record {
    covered = first.covered;
    here = (sends, first.here.0, first.here.1);
    none_below = λ t below covered met. first.none_below t below covered (met.1, met.2);
  },
  refl,
)

pub free_of_radar : (db : List Domain) (J : Journal) (x : Iface) (c : ChanDef) → AllMeetFor db J x Quiet c → IsFree (MetRadar db J x c)
free_of_radar db J x c quiet = free-at_lowest _ c _ (λ s covered met. met.2 (quiet met.0 s covered met.1))

-- where all are quiet, what isn't clear is unchecked
pub lacks_check : (db : List Domain) (J : Journal) (x : Iface) (c : ChanDef) (s : ℕ) → IsTrue (initiates x.kind) → AllMeetFor db J x Quiet c → BarsFirst (FailsDemand db J x.radio Clear) c s
    → LacksCheck db J x c (Unchecked s)
lacks_check db J x c s sends quiet first = (
  s,
  record {
    covered = first.covered;
    here = (sends, first.here.0, λ end stands. first.here.1 (record { quiet = quiet sends s first.covered first.here.0; end = end; stands = stands }));
    none_below = λ t below covered lacks. first.none_below t below covered (lacks.1, λ clear. lacks.2 clear.end clear.stands);
  },
  refl,
)

pub free_of_unchecked : (db : List Domain) (J : Journal) (x : Iface) (c : ChanDef) → AllMeetFor db J x Clear c → IsFree (LacksCheck db J x c)
free_of_unchecked db J x c clear = free-at_lowest _ c _ (λ s covered lacks. let is = clear lacks.0 s covered lacks.1 in lacks.2 is.end is.stands)
