-- Which fact a call comes from.
use Rattle.std.proofs.Common.{◌≡◌, ℕ, ◌==◌, Bool, true, false, ◌&&◌, List, ◌∷◌, Option, Some, None, if◌then◌else◌, refl, sym, ap, subst, ◌∙◌, eq-eqb, eqb-true}
use Rattle.std.specs.Option.{option_map_or}
use Rattle.std.proofs.lemmas.Bool.{false≢true, and_parts, and_from}
use Rattle.std.proofs.lemmas.Option.{none-some, same_Some, cond_some}
use Rattle.rule_tables.specs.declared.code.Region.{Region}
use Rattle.rule_tables.specs.declared.code.Region.TheVariants.{Unset, Fcc, Etsi, Jp}
use Rattle.rule_tables.specs.declared.domain.Domain.{Domain}
use Rattle.chan_def.specs.declared.definition.ChanDef.{ChanDef}
use Rattle.dfs_states.specs.Calls.{Call, Advance, Radar, Begin, DropCheck, Operate, RegionChanged}
use Rattle.reg_journal.specs.Facts.{Fact, Journal, moment_is, radio_added, radio_removed, hinted, radar_met, started, stopped, check_begun, check_dropped}
use Rattle.rule_tables.specs.Regions.{is_same_region}
use Rattle.reg_journal.specs.Applicable.{region_of}
use Rattle.reg_journal.specs.OnAir.{is_on}
use Rattle.reg_journal.specs.Present.{radio_of}
use Rattle.reg_books.specs.Calls.{region_call, operation_call, sends_first, checks_last_on, call_of}
use Rattle.reg_books.specs.Slots.{slot_of}
use Rattle.reg_books.specs.Calls.{TellsOperation}

-- ---- the radio of an interface

-- the test of the radio on which an interface was made, both ways
pub on_radio : (J : Journal) (i r : ℕ) → radio_of J i ≡ Some r → is_on J i r ≡ true
on_radio J i r radio = rw (radio, eq-eqb r r refl)

pub radio_on : (J : Journal) (i r : ℕ) → is_on J i r ≡ true → radio_of J i ≡ Some r
radio_on J i r is = found (radio_of J i) is
  where
    found : (o : Option ℕ) → option_map_or (λ q. q == r) o false ≡ true → o ≡ Some r
    found None same = absurd cc
    found (Some q) same = ap (λ n. Some n) (eqb-true q r same)

-- ---- regions

-- the test of regions, both ways
pub same_region_self : (region : Region) → is_same_region region region ≡ true
same_region_self Unset = refl
same_region_self Fcc = refl
same_region_self Etsi = refl
same_region_self Jp = refl

pub same_region_true : (one other : Region) → is_same_region one other ≡ true → one ≡ other
same_region_true Unset Unset is = refl
same_region_true Fcc Fcc is = refl
same_region_true Etsi Etsi is = refl
same_region_true Jp Jp is = refl
same_region_true one other is = absurd cc

-- a change of the region is told where the regions differ
region_parts : (same lasts : Bool) (call : Call) → (if same then None else Some (RegionChanged lasts)) ≡ Some call → (same ≡ false) × (RegionChanged lasts ≡ call)
region_parts true lasts call is = absurd (none-some call is)
region_parts false lasts call is = (refl, same_Some (RegionChanged lasts) call is)

-- ---- the facts that calls come from

-- what a fact has to be for the call to come from it, after these older facts
abbrev pub ComesFrom : List Domain → Fact → Journal → ℕ → Call → Type 0
ComesFrom db f J r (Advance moment) = f ≡ moment_is moment
ComesFrom db f J r (Radar chan) = f ≡ radar_met r chan
ComesFrom db f J r (Begin slot chan length) = (i : ℕ) × (f ≡ check_begun i chan length) × (radio_of J i ≡ Some r) × (slot_of J i ≡ slot)
ComesFrom db f J r (DropCheck slot) = (i : ℕ) × (f ≡ check_dropped i) × (radio_of J i ≡ Some r) × (slot_of J i ≡ slot)
ComesFrom db f J r (Operate slot chan) = (i : ℕ) × TellsOperation f i chan × (radio_of J i ≡ Some r) × (sends_first J i ≡ true) × (slot_of J i ≡ slot)
ComesFrom db f J r (RegionChanged lasts) = is_same_region (region_of db (f ∷ J) r) (region_of db J r) ≡ false

region_from : (db : List Domain) (f : Fact) (J : Journal) (r : ℕ) (call : Call) → region_call db f J r ≡ Some call → ComesFrom db f J r call
region_from db f J r call is =
    let parts = region_parts (is_same_region (region_of db (f ∷ J) r) (region_of db J r)) (checks_last_on db (f ∷ J) r) call is in
    subst (λ c. ComesFrom db f J r c) parts.1 parts.0

operation_from : (db : List Domain) (f : Fact) (J : Journal) (r i : ℕ) (chan : Option ChanDef) (call : Call) → TellsOperation f i chan → operation_call J r i chan ≡ Some call
    → ComesFrom db f J r call
operation_from db f J r i chan call tells is =
    let parts = cond_some (is_on J i r && sends_first J i) (Operate (slot_of J i) chan) call is in
    let both = and_parts (is_on J i r) (sends_first J i) parts.0 in
    subst (λ c. ComesFrom db f J r c) parts.1 (i, tells, radio_on J i r both.0, both.1, refl)

-- what each call comes from
pub comes_from : (db : List Domain) (f : Fact) (J : Journal) (r : ℕ) (call : Call) → call_of db f J r ≡ Some call → ComesFrom db f J r call
comes_from db (moment_is moment) J r call is = subst (λ c. ComesFrom db (moment_is moment) J r c) (same_Some (Advance moment) call is) refl
comes_from db (radar_met q chan) J r call is =
    let parts = cond_some (r == q) (Radar chan) call is in
    subst (λ c. ComesFrom db (radar_met q chan) J r c) parts.1 (ap (λ n. radar_met n chan) (sym (eqb-true r q parts.0)))
comes_from db (check_begun i chan length) J r call is =
    let parts = cond_some (is_on J i r) (Begin (slot_of J i) chan length) call is in
    subst (λ c. ComesFrom db (check_begun i chan length) J r c) parts.1 (i, refl, radio_on J i r parts.0, refl)
comes_from db (check_dropped i) J r call is =
    let parts = cond_some (is_on J i r) (DropCheck (slot_of J i)) call is in
    subst (λ c. ComesFrom db (check_dropped i) J r c) parts.1 (i, refl, radio_on J i r parts.0, refl)
comes_from db (started i chan power) J r call is = operation_from db (started i chan power) J r i (Some chan) call (power, refl) is
comes_from db (stopped i) J r call is = operation_from db (stopped i) J r i None call refl is
comes_from db (hinted hint) J r call is = region_from db (hinted hint) J r call is
comes_from db (radio_added q profile) J r call is = region_from db (radio_added q profile) J r call is
comes_from db (radio_removed q) J r call is = region_from db (radio_removed q) J r call is
comes_from db f J r call is = absurd (none-some call is)

-- ---- and back

-- radar on the radio
pub call-radar : (db : List Domain) (J : Journal) (r : ℕ) (chan : ChanDef) → call_of db (radar_met r chan) J r ≡ Some (Radar chan)
call-radar db J r chan = rw (eq-eqb r r refl)

-- the beginning of a check on one of the radio's interfaces
pub call-begin : (db : List Domain) (J : Journal) (r i : ℕ) (chan : ChanDef) (length : ℕ) → radio_of J i ≡ Some r
    → call_of db (check_begun i chan length) J r ≡ Some (Begin (slot_of J i) chan length)
call-begin db J r i chan length radio = rw (on_radio J i r radio)

-- its drop
pub call-drop : (db : List Domain) (J : Journal) (r i : ℕ) → radio_of J i ≡ Some r → call_of db (check_dropped i) J r ≡ Some (DropCheck (slot_of J i))
call-drop db J r i radio = rw (on_radio J i r radio)

-- an operation of one of the radio's interfaces that sends first
pub call-operation : (db : List Domain) (f : Fact) (J : Journal) (r i : ℕ) (chan : Option ChanDef) → TellsOperation f i chan → radio_of J i ≡ Some r → sends_first J i ≡ true
    → call_of db f J r ≡ Some (Operate (slot_of J i) chan)
call-operation db f J r i None tells radio sends =
    subst (λ g. call_of db g J r ≡ Some (Operate (slot_of J i) None)) (sym tells)
    (ap (λ b. if b then Some (Operate (slot_of J i) None) else None) (and_from (is_on J i r) (sends_first J i) (on_radio J i r radio) sends))
call-operation db f J r i (Some chan) tells radio sends =
    subst (λ g. call_of db g J r ≡ Some (Operate (slot_of J i) (Some chan))) (sym tells.1)
    (ap (λ b. if b then Some (Operate (slot_of J i) (Some chan)) else None) (and_from (is_on J i r) (sends_first J i) (on_radio J i r radio) sends))

-- where the region differs, the book is told so
pub call-region : (db : List Domain) (f : Fact) (J : Journal) (r : ℕ) → is_same_region (region_of db (f ∷ J) r) (region_of db J r) ≡ false
    → call_of db f J r ≡ Some (RegionChanged (checks_last_on db (f ∷ J) r))
call-region db (hinted hint) J r differs = rw differs
call-region db (radio_added q profile) J r differs = rw differs
call-region db (radio_removed q) J r differs = rw differs
call-region db f J r differs = absurd (false≢true (sym differs ∙ same_region_self (region_of db J r)))
