-- The core keeps a change of an interface, of a radio's book, or of the radios' place.
use Rattle.std.proofs.Common.{◌≡◌, ℕ, ◌==◌, Bool, false, List, ◌∷◌, map, Contains, Option, Some, None, option_map, refl, sym, subst, ap, ◌∙◌, inl, inr, eq-eqb, ne_eqb}
use Rattle.std.proofs.lemmas.Bool.{cases_eq}
use Rattle.rule_tables.specs.declared.domain.Domain.{Domain}
use Rattle.reg_journal.specs.Applicable.{hints_of}
use Rattle.chan_def.specs.declared.definition.ChanDef.{ChanDef}
use Rattle.dfs_states.specs.Calls.{Radar as RadarCall}
use Rattle.reg_books.specs.Calls.{call_of}
use Rattle.core_parts.specs.BookCalls.{SpeaksToBooks}
use Rattle.reg_books.specs.Sparing.{SparesRadio}
use Rattle.reg_books.proofs.CallOf.{call-radar}
use Rattle.reg_journal.specs.Due.{EachMayFollow, MayFollow}
use Rattle.reg_journal.specs.Facts.{Fact, Journal, indoor_is, radar_met, ended, typed, set_to, started, stopped, powered, check_begun, check_dropped}
use Rattle.reg_journal.specs.Present.{Iface, Operation, ifaces_of, is_indoor, made_of, now_of, operation_of, operation_with_power}
use Rattle.reg_core.specs.Kept.{Keeps}
use Rattle.core_parts.specs.Kept.{KeepsRadios, interfaces_of, kept, kept_operation}
use Rattle.core_parts.specs.Changes.{IsInterfaceOf}
use Rattle.core_parts.specs.Interfaces.{running_with_power, with_operation, with_running_power}
use Rattle.core_parts.specs.Operating.{TellsRunning}
use Rattle.reg_core.specs.declared.core_state.Core.{Core}
use Rattle.core_parts.specs.declared.interface.Interface.{Interface}
use Rattle.core_parts.specs.declared.interface.Running.{Running}
use Rattle.core_parts.specs.declared.radio.RadioPlace.{RadioPlace}
use Rattle.core_parts.proofs.KeptInterfaces.{interfaces_of-started, interfaces_of-stopped, map-listed, map-map}
use Rattle.core_parts.proofs.Unchanged.{KeepsRadios-spared}

-- ---- the interface that is kept

pub interface_of_kept : (J : Journal) (x : Iface) (p : Interface) → Contains (ifaces_of J) x → p ≡ kept J x → IsInterfaceOf J x p
interface_of_kept J x p there is = record {
  there = there;
  index = ap (λ (q : Interface). q.index) is;
  name = ap (λ (q : Interface). q.name) is;
  radio = ap (λ (q : Interface). q.radio) is;
  slot = ap (λ (q : Interface). q.slot) is;
  kind = ap (λ (q : Interface). q.kind) is;
}

-- ---- facts of interfaces

-- the fact says nothing of the moment, of the place, of hints, and makes no interface
abbrev pub LeavesCore : Fact → Type 0
LeavesCore (radar_met r chan) = Unit {0}
LeavesCore (ended i) = Unit {0}
LeavesCore (typed i kind) = Unit {0}
LeavesCore (set_to i setting) = Unit {0}
LeavesCore (started i chan power) = Unit {0}
LeavesCore (stopped i) = Unit {0}
LeavesCore (powered i power) = Unit {0}
LeavesCore (check_begun i chan length) = Unit {0}
LeavesCore (check_dropped i) = Unit {0}
LeavesCore f = ⊥

pub keeps_after : (db : List Domain) (J : Journal) (f : Fact) (core : Core) (interfaces : List Interface) (radios : List RadioPlace) → LeavesCore f → Keeps db core J
    → EachMayFollow db (f ∷ J) → KeepsRadios db (f ∷ J) radios → interfaces ≡ interfaces_of (f ∷ J)
    → Keeps db (record core { interfaces = interfaces; radios = radios }) (f ∷ J)
keeps_after db J (radar_met r chan) core interfaces radios leaves s due kept are =
    record { due = due; domains = s.domains; clock = s.clock; indoor = s.indoor; hints = s.hints; made = s.made; global = s.global; radios = kept; interfaces = are }
keeps_after db J (ended i) core interfaces radios leaves s due kept are =
    record { due = due; domains = s.domains; clock = s.clock; indoor = s.indoor; hints = s.hints; made = s.made; global = s.global; radios = kept; interfaces = are }
keeps_after db J (typed i kind) core interfaces radios leaves s due kept are =
    record { due = due; domains = s.domains; clock = s.clock; indoor = s.indoor; hints = s.hints; made = s.made; global = s.global; radios = kept; interfaces = are }
keeps_after db J (set_to i setting) core interfaces radios leaves s due kept are =
    record { due = due; domains = s.domains; clock = s.clock; indoor = s.indoor; hints = s.hints; made = s.made; global = s.global; radios = kept; interfaces = are }
keeps_after db J (started i chan power) core interfaces radios leaves s due kept are =
    record { due = due; domains = s.domains; clock = s.clock; indoor = s.indoor; hints = s.hints; made = s.made; global = s.global; radios = kept; interfaces = are }
keeps_after db J (stopped i) core interfaces radios leaves s due kept are =
    record { due = due; domains = s.domains; clock = s.clock; indoor = s.indoor; hints = s.hints; made = s.made; global = s.global; radios = kept; interfaces = are }
keeps_after db J (powered i power) core interfaces radios leaves s due kept are =
    record { due = due; domains = s.domains; clock = s.clock; indoor = s.indoor; hints = s.hints; made = s.made; global = s.global; radios = kept; interfaces = are }
keeps_after db J (check_begun i chan length) core interfaces radios leaves s due kept are =
    record { due = due; domains = s.domains; clock = s.clock; indoor = s.indoor; hints = s.hints; made = s.made; global = s.global; radios = kept; interfaces = are }
keeps_after db J (check_dropped i) core interfaces radios leaves s due kept are =
    record { due = due; domains = s.domains; clock = s.clock; indoor = s.indoor; hints = s.hints; made = s.made; global = s.global; radios = kept; interfaces = are }
keeps_after db J f core interfaces radios leaves s due kept are = absurd leaves

-- an operation that starts or stops
pub keeps_after_operating : (db : List Domain) (J : Journal) (x : Iface) (f : Fact) (p : Interface) (o : Option Running) (core : Core) (interfaces : List Interface) (radios : List RadioPlace)
    → Keeps db core J → IsInterfaceOf J x p → TellsRunning f x.index o → EachMayFollow db (f ∷ J) → KeepsRadios db (f ∷ J) radios
    → interfaces ≡ map (with_operation p.index o) core.interfaces → Keeps db (record core { interfaces = interfaces; radios = radios }) (f ∷ J)
keeps_after_operating db J x f p None core interfaces radios s is tells due kept changed =
    let same = subst (λ g. Keeps db core J → EachMayFollow db (g ∷ J) → KeepsRadios db (g ∷ J) radios → Keeps db (record core { interfaces = interfaces; radios = radios }) (g ∷ J)) (sym tells)
    (λ s due kept. keeps_after db J (stopped x.index) core interfaces radios tt s due kept
    (changed ∙ ap (λ i. map (with_operation i None) core.interfaces) is.index ∙ ap (map (with_operation x.index None)) s.interfaces ∙ interfaces_of-stopped J x.index)) in
    same s due kept
keeps_after_operating db J x f p (Some o) core interfaces radios s is tells due kept changed =
    let same = subst (λ g. Keeps db core J → EachMayFollow db (g ∷ J) → KeepsRadios db (g ∷ J) radios → Keeps db (record core { interfaces = interfaces; radios = radios }) (g ∷ J)) (sym tells)
    (λ s due kept. keeps_after db J (started x.index o.chan o.power_mbm) core interfaces radios tt s due kept
    (changed ∙ ap (λ i. map (with_operation i (Some o)) core.interfaces) is.index ∙ ap (map (with_operation x.index (Some o))) s.interfaces ∙ interfaces_of-started J x.index o.chan o.power_mbm)) in
    same s due kept

-- one that goes on with another power
powered_kept : (power : ℕ) (o : Option Operation) → option_map (running_with_power power) (option_map kept_operation o) ≡ option_map kept_operation (option_map (operation_with_power power) o)
powered_kept power None = refl
powered_kept power (Some o) = refl

interfaces_of-powered : (J : Journal) (i power : ℕ) → map (with_running_power i power) (interfaces_of J) ≡ interfaces_of (powered i power ∷ J)
interfaces_of-powered J i power = map-map _ (kept J) (ifaces_of J) ∙ map-listed _ (kept (powered i power ∷ J)) (ifaces_of J) (λ x has. one x)
  where
    one : (x : Iface) → with_running_power i power (kept J x) ≡ kept (powered i power ∷ J) x
    one x = elim (cases_eq x.index i) [
      | inl same ↦ rw (eq-eqb x.index i same, powered_kept power (operation_of J x.index)) refl
      | inr other ↦ rw (ne_eqb x.index i other) refl
    ]

pub keeps_after_power : (db : List Domain) (J : Journal) (i power : ℕ) (core : Core) (interfaces : List Interface) → Keeps db core J → EachMayFollow db (powered i power ∷ J)
    → interfaces ≡ map (with_running_power i power) core.interfaces → Keeps db (record core { interfaces = interfaces }) (powered i power ∷ J)
keeps_after_power db J i power core interfaces s due changed =
    keeps_after db J (powered i power) core interfaces core.radios tt s due (KeepsRadios-spared db J (powered i power) core.radios (λ r. tt) s.radios)
    (changed ∙ ap (map (with_running_power i power)) s.interfaces ∙ interfaces_of-powered J i power)

-- a check that is dropped, or radar
pub keeps_after_drop : (db : List Domain) (J : Journal) (i : ℕ) (core : Core) (radios : List RadioPlace) → Keeps db core J → EachMayFollow db (check_dropped i ∷ J)
    → KeepsRadios db (check_dropped i ∷ J) radios → Keeps db (record core { radios = radios }) (check_dropped i ∷ J)
keeps_after_drop db J i core radios s due kept = keeps_after db J (check_dropped i) core core.interfaces radios tt s due kept s.interfaces

pub keeps_after_indoor : (db : List Domain) (J : Journal) (on : Bool) (core : Core) → Keeps db core J → Keeps db (record core { indoor = on }) (indoor_is on ∷ J)
keeps_after_indoor db J on core s = record {
  due = (tt, s.due);
  domains = s.domains;
  clock = s.clock;
  indoor = refl;
  hints = s.hints;
  made = s.made;
  global = s.global;
  radios = KeepsRadios-spared db J (indoor_is on) core.radios (λ r. tt) s.radios;
  interfaces = s.interfaces;
}

pub keeps_after_radar : (db : List Domain) (J : Journal) (r : ℕ) (c : ChanDef) (core : Core) (radios : List RadioPlace) → Keeps db core J → MayFollow db J (radar_met r c)
    → ((f : Fact) → KeepsRadios db J core.radios → SpeaksToBooks f → call_of db f J r ≡ Some (RadarCall c) → ((q : ℕ) → (q == r) ≡ false → SparesRadio J q f) → EachMayFollow db (f ∷ J)
    → KeepsRadios db (f ∷ J) radios)
    → Keeps db (record core { radios = radios }) (radar_met r c ∷ J)
keeps_after_radar db J r c core radios s may noted =
    keeps_after db J (radar_met r c) core core.interfaces radios tt s (may, s.due)
    (noted (radar_met r c) s.radios tt (call-radar db J r c) (λ q other. other) (may, s.due)) s.interfaces

pub keeps_after_begin : (db : List Domain) (J : Journal) (i : ℕ) (c : ChanDef) (ms : ℕ) (core : Core) (radios : List RadioPlace) → Keeps db core J
    → EachMayFollow db (check_begun i c ms ∷ J) → KeepsRadios db (check_begun i c ms ∷ J) radios → Keeps db (record core { radios = radios }) (check_begun i c ms ∷ J)
keeps_after_begin db J i c ms core radios s due kept = keeps_after db J (check_begun i c ms) core core.interfaces radios tt s due kept s.interfaces
