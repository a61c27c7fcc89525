-- What becomes of one interface, by what is kept of it.
use Rattle.std.proofs.Common.{◌≡◌, ◌⊎◌, ℕ, ◌<◌, Bool, true, false, List, [], ◌∷◌, length, Option, Some, None, Result, Ok, Err, MatchResult, option_map, refl, sym, ap, subst, ◌∙◌, inl, inr, eq-eqb, ne_eqb}
use Rattle.std.proofs.lemmas.Bool.{cases_eq}
use Rattle.std.proofs.lemmas.Option.{none-some, same_Some}
use Rattle.rule_tables.specs.declared.domain.Domain.{Domain}
use Rattle.chan_def.specs.Covered.{IsValidDef}
use Rattle.chan_def.specs.declared.definition.ChanDef.{ChanDef}
use Rattle.chan_flags.specs.Profiles.{Abilities}
use Rattle.chan_flags.specs.Verdicts.{BarsFirst, IsVerdict, asked}
use Rattle.chan_def.specs.declared.kind.Kind.{Kind}
use Rattle.reg_journal.specs.declared.refusal.Refusal.TheVariants.{NothingToCheck, RadioLacksContext}
use Rattle.chan_flags.specs.declared.verdict.ChanRefusal.{ChanRefusal}
use Rattle.chan_flags.specs.declared.verdict.ChanRefusal.TheVariants.{LacksChannel as Lacking, LacksWidth as Narrower, NoRule as Ruleless, TooNarrow as Tight, NoOfdm as Ofdm, NoIr as Ir, NoOutdoor as Outdoor, AboveLimit}
use Rattle.chan_flags.specs.declared.verdict.PowerSetting.{PowerSetting}
use Rattle.chan_flags.specs.declared.verdict.PowerSetting.TheVariants.{Auto}
use Rattle.chan_flags.specs.declared.verdict.Verdict.TheVariants.{Fits, Refused}
use Rattle.chan_flags.specs.declared.verdict.Verdict.{Verdict}
use Rattle.reg_journal.specs.Applicable.{applies}
use Rattle.reg_journal.specs.Causes.{◌before◌, IsFree, SomeComes}
use Rattle.reg_journal.specs.Due.{EachMayFollow}
use Rattle.reg_journal.specs.Facts.{Journal, started, powered, check_begun, check_dropped, stopped}
use Rattle.reg_journal.specs.Granted.{IsPermitted}
use Rattle.reg_journal.specs.Permits.{BarsCheck, EndsCheck, EndsOperation, HasNothingToCheck, IsLengthOf, IsPowerOf, LacksContext, LacksRadarWidth, MetRadar, RadioForbids, asked_by, channels_beside, distinct, refusal_of_channel}
use Rattle.reg_journal.specs.Present.{Check, Iface, Operation, abilities_of, check_of, is_indoor, last_check_of, operation_of, operation_with_power}
use Rattle.reg_journal.specs.Sweep.{MustDrop}
use Rattle.reg_journal.specs.declared.refusal.Refusal.{Refusal}
use Rattle.reg_journal.proofs.Granting.{free-before, free-where, free_of_permitted, power_of_permitted}
use Rattle.reg_journal.proofs.LastCheck.{check_parts}
use Rattle.reg_journal.proofs.Verdicts.{verdict_says}
use Rattle.core_parts.specs.Kept.{KeepsRadio, kept, kept_operation}
use Rattle.core_parts.specs.Contexts.{IsOf, checked_channel}
use Rattle.core_parts.specs.Demands.{AllMeet, AllMeetFor, FailsDemand, HasRadarWidth, HasRules}
use Rattle.core_parts.specs.Judging.{BarsBeginning, CheckFits, HasVerdict, IsSwept, as_auto, is_lacking}
use Rattle.core_parts.specs.Repowering.{repowered}
use Rattle.reg_core.specs.inner.Sweeping.{Judges}
use Rattle.core_parts.specs.declared.change.Change.TheVariants.{Stopped, Dropped}
use Rattle.core_parts.specs.declared.interface.Interface.{Interface}
use Rattle.core_parts.specs.declared.interface.Running.{Running}
use Rattle.core_parts.specs.declared.radar.Demand.TheVariants.{Clear, Quiet}
use Rattle.core_parts.specs.declared.radio.Radio.{Radio}
use Rattle.reg_journal.proofs.Permitting.{free-first, free-next}
use Rattle.core_parts.proofs.Judged.{has_where, lacks_none, lacks_where, rules_of_fitting}
use Rattle.reg_core.proofs.KeptChanges.{interface_of_kept}
use Rattle.core_parts.proofs.RadarRefusals.{abilities_kept, free_of_radar, free_of_width}
use Rattle.core_parts.proofs.Permitted.{begins}

-- ---- channels are valid

valid_repowered : (was : Option Operation) (power : ℕ) (o : Operation) → ((q : Operation) → was ≡ Some q → IsValidDef q.chan) → option_map (operation_with_power power) was ≡ Some o
    → IsValidDef o.chan
valid_repowered None power o valid none = absurd (none-some o none)
valid_repowered (Some q) power o valid some = subst (λ (p : Operation). IsValidDef p.chan) (same_Some (operation_with_power power q) o some) (valid q refl)

-- ---- operations

-- one that is permitted goes on with the power
pub operation_goes_on : (db : List Domain) (J : Journal) (x : Iface) (p : Interface) (radio : Radio) (indoor : Bool) (o : Operation) (running : Running) (power : ℕ)
    → IsSwept db J x p radio indoor → operation_of J x.index ≡ Some o → running ≡ kept_operation o → IsPermitted db J x o.chan power → Judges db J x (repowered p running power)
operation_goes_on db J x p radio indoor o running power is here same may = elim (cases_eq running.power_mbm power) [
  | inl equal ↦ rw (eq-eqb running.power_mbm power equal, here) (
    free_of_permitted db J x o.chan power may,
    subst (IsPowerOf db J x o.chan) (sym equal ∙ ap (λ (r : Running). r.power_mbm) same) (power_of_permitted db J x o.chan power may),
  )
  | inr other ↦ rw (ne_eqb running.power_mbm power other, here) (
    interface_of_kept J x p is.there is.interface_is,
    (
      ap (λ (q : Interface). q.index) is.interface_is,
      free_of_permitted db J x o.chan power may,
      power_of_permitted db J x o.chan power may,
      λ equal. other (ap (λ (r : Running). r.power_mbm) same ∙ sym equal),
    ),
  )
]

-- one that something ends stops
pub operation_stops : (db : List Domain) (J : Journal) (x : Iface) (p : Interface) (radio : Radio) (indoor : Bool) (o : Operation) (e : Refusal)
    → IsSwept db J x p radio indoor → operation_of J x.index ≡ Some o → EndsOperation db J x o.chan e → Judges db J x (Some (Stopped p))
operation_stops db J x p radio indoor o e is here ends = rw here (
  interface_of_kept J x p is.there is.interface_is,
  (ap (λ (q : Interface). q.index) is.interface_is, (e, ends)),
)

-- ---- what becomes of them

pub check_goes_on : (db : List Domain) (J : Journal) (x : Iface) (k : Check) → operation_of J x.index ≡ None → check_of J x.index ≡ Some k → (MustDrop db J x k → ⊥) → Judges db J x None
check_goes_on db J x k none here stays = rw (none, here) stays

pub check_drops : (db : List Domain) (J : Journal) (x : Iface) (p : Interface) (radio : Radio) (indoor : Bool) (k : Check) → IsSwept db J x p radio indoor → operation_of J x.index ≡ None
    → check_of J x.index ≡ Some k → MustDrop db J x k → Judges db J x (Some (Dropped p))
check_drops db J x p radio indoor k is none here drops = rw (none, here) (
  interface_of_kept J x p is.there is.interface_is,
  (ap (λ (q : Interface). q.index) is.interface_is, drops),
)

pub no_check : (db : List Domain) (J : Journal) (x : Iface) → operation_of J x.index ≡ None → check_of J x.index ≡ None → Judges db J x None
no_check db J x none idle = rw (none, idle) refl

-- the check of a channel that was read
pub check_read : (J : Journal) (x : Iface) (c : ChanDef) → Some c ≡ checked_channel J x → (k : Check) × (check_of J x.index ≡ Some k) × (c ≡ k.chan)
check_read J x c is = by (check_of J x.index) refl is
  where
    by : (o : Option Check) → check_of J x.index ≡ o → Some c ≡ option_map (λ (k : Check). k.chan) o → (k : Check) × (check_of J x.index ≡ Some k) × (c ≡ k.chan)
    by None at none = absurd (none-some c (sym none))
    by (Some k) at some = (k, at, same_Some c k.chan some)

pub none_read : (J : Journal) (x : Iface) → None ≡ checked_channel J x → check_of J x.index ≡ None
none_read J x is = by (check_of J x.index) is
  where
    by : (o : Option Check) → None ≡ option_map (λ (k : Check). k.chan) o → o ≡ None
    by None none = refl
    by (Some k) some = absurd (none-some k.chan some)

-- what is kept of its radio's book
pub of_swept : (db : List Domain) (J : Journal) (x : Iface) (p : Interface) (radio : Radio) (indoor : Bool) → IsSwept db J x p radio indoor → IsOf db J x radio.book p
of_swept db J x p radio indoor is = record {
  due = is.due;
  there = is.there;
  interface_is = is.interface_is;
  channels = _;
  book_is = is.radio_is.book;
}

-- the operation that is kept
pub operation_read : (J : Journal) (x : Iface) (p : Interface) (running : Running) → p ≡ kept J x → p.operation ≡ Some running
    → (o : Operation) × (operation_of J x.index ≡ Some o) × (running ≡ kept_operation o)
operation_read J x p running is has = by (operation_of J x.index) refl (sym has ∙ ap (λ (q : Interface). q.operation) is)
  where
    by : (o : Option Operation) → operation_of J x.index ≡ o → Some running ≡ option_map kept_operation o → (o : Operation) × (operation_of J x.index ≡ Some o) × (running ≡ kept_operation o)
    by None at none = absurd (none-some running (sym none))
    by (Some o) at some = (o, at, same_Some running (kept_operation o) some)

pub no_operation_read : (J : Journal) (x : Iface) (p : Interface) → p ≡ kept J x → p.operation ≡ None → operation_of J x.index ≡ None
no_operation_read J x p is has = by (operation_of J x.index) (sym has ∙ ap (λ (q : Interface). q.operation) is)
  where
    by : (o : Option Operation) → None ≡ option_map kept_operation o → o ≡ None
    by None none = refl
    by (Some o) some = absurd (none-some (kept_operation o) some)
