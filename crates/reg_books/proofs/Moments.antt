-- The moment of a radio's book is that of the journal.
use Rattle.std.proofs.Common.{◌≡◌, ℕ, ◌==◌, ◌^◌, ◌≤◌, Bool, true, false, ◌&&◌, List, [], ◌∷◌, Some, None, if◌then◌else◌, arith, refl, ◌∙◌}
use Rattle.rule_tables.specs.declared.domain.Domain.{Domain}
use Rattle.dfs_states.specs.Calls.{Call, Radar, Begin, DropCheck, Operate, RegionChanged, moment_of as call_moment}
use Rattle.reg_journal.specs.Facts.{Fact, Journal, moment_is, radio_added, radio_removed, hinted, radar_met, started, stopped, check_begun, check_dropped}
use Rattle.rule_tables.specs.Regions.{is_same_region}
use Rattle.reg_journal.specs.Applicable.{region_of}
use Rattle.reg_journal.specs.Due.{EachMayFollow}
use Rattle.reg_journal.specs.OnAir.{is_on}
use Rattle.reg_journal.specs.Present.{now_of}
use Rattle.reg_books.specs.Calls.{checks_last_on, sends_first, calls_of, pushed}
use Rattle.reg_books.specs.Slots.{slot_of}

-- a call that may come and isn't a moment leaves the moment
where_it_comes : (calls : List Call) (call : Call) (comes : Bool) → call_moment (call ∷ calls) ≡ call_moment calls
    → call_moment (pushed (if comes then Some call else None) calls) ≡ call_moment calls
where_it_comes calls call true same = same
where_it_comes calls call false same = refl

unless_it_stays : (calls : List Call) (call : Call) (stays : Bool) → call_moment (call ∷ calls) ≡ call_moment calls
    → call_moment (pushed (if stays then None else Some call) calls) ≡ call_moment calls
unless_it_stays calls call true same = refl
unless_it_stays calls call false same = same

region_moment : (db : List Domain) (f : Fact) (J : Journal) (r : ℕ)
    → call_moment (pushed (if is_same_region (region_of db (f ∷ J) r) (region_of db J r) then None else Some (RegionChanged (checks_last_on db (f ∷ J) r))) (calls_of db J r))
    ≡ call_moment (calls_of db J r)
region_moment db f J r = unless_it_stays (calls_of db J r) (RegionChanged (checks_last_on db (f ∷ J) r)) (is_same_region (region_of db (f ∷ J) r) (region_of db J r)) refl

pub now_of-calls : (db : List Domain) (J : Journal) (r : ℕ) → call_moment (calls_of db J r) ≡ now_of J
now_of-calls db [] r = refl
now_of-calls db (moment_is moment ∷ J) r = refl
now_of-calls db (radar_met q chan ∷ J) r = where_it_comes (calls_of db J r) (Radar chan) (r == q) refl ∙ now_of-calls db J r
now_of-calls db (check_begun i chan length ∷ J) r =
    where_it_comes (calls_of db J r) (Begin (slot_of J i) chan length) (is_on J i r) refl ∙ now_of-calls db J r
now_of-calls db (check_dropped i ∷ J) r = where_it_comes (calls_of db J r) (DropCheck (slot_of J i)) (is_on J i r) refl ∙ now_of-calls db J r
now_of-calls db (started i chan power ∷ J) r =
    where_it_comes (calls_of db J r) (Operate (slot_of J i) (Some chan)) (is_on J i r && sends_first J i) refl ∙ now_of-calls db J r
now_of-calls db (stopped i ∷ J) r =
    where_it_comes (calls_of db J r) (Operate (slot_of J i) None) (is_on J i r && sends_first J i) refl ∙ now_of-calls db J r
now_of-calls db (hinted hint ∷ J) r = region_moment db (hinted hint) J r ∙ now_of-calls db J r
now_of-calls db (radio_added q profile ∷ J) r = region_moment db (radio_added q profile) J r ∙ now_of-calls db J r
now_of-calls db (radio_removed q ∷ J) r = region_moment db (radio_removed q) J r ∙ now_of-calls db J r
now_of-calls db (f ∷ J) r = now_of-calls db J r

-- no moment is after the last one
pub now_of-small : (db : List Domain) (J : Journal) → EachMayFollow db J → now_of J ≤ 10 ^ 15
now_of-small db [] due = omega arith
now_of-small db (moment_is moment ∷ J) due = due.0.1
now_of-small db (f ∷ J) due = now_of-small db J due.1
