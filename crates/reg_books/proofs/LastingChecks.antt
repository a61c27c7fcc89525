-- A radio's book knows whether checks last in the radio's region.
use Rattle.std.proofs.Common.{◌≡◌, ℕ, ◌==◌, Bool, true, false, ◌&&◌, List, [], ◌∷◌, Some, None, if◌then◌else◌, refl, sym, ap, ◌∙◌}
use Rattle.rule_tables.specs.declared.code.Region.TheVariants.{Etsi}
use Rattle.rule_tables.specs.declared.domain.Domain.{Domain}
use Rattle.rule_tables.specs.Regions.{is_same_region}
use Rattle.dfs_states.specs.Calls.{Radar, Begin, DropCheck, Operate, RegionChanged, lasts_of}
use Rattle.reg_journal.specs.Applicable.{region_of}
use Rattle.reg_journal.specs.Facts.{Fact, Journal, moment_is, radio_added, radio_removed, hinted, radar_met, started, stopped, check_begun, check_dropped}
use Rattle.reg_journal.specs.OnAir.{is_on}
use Rattle.reg_books.specs.Calls.{calls_of, checks_last_on, opening_of, pushed, sends_first}
use Rattle.reg_books.specs.Slots.{slot_of}
use Rattle.reg_books.proofs.CallOf.{same_region_true}
use Rattle.reg_books.proofs.Over.{where_pushed}

-- after a fact that may change the region
region_told : (db : List Domain) (f : Fact) (J : Journal) (r : ℕ) → lasts_of (opening_of db r) (calls_of db J r) ≡ checks_last_on db J r
    → lasts_of (opening_of db r)
    (pushed (if is_same_region (region_of db (f ∷ J) r) (region_of db J r) then None else Some (RegionChanged (checks_last_on db (f ∷ J) r))) (calls_of db J r))
    ≡ checks_last_on db (f ∷ J) r
region_told db f J r was = by (is_same_region (region_of db (f ∷ J) r) (region_of db J r)) refl
  where
    by : (same : Bool) → is_same_region (region_of db (f ∷ J) r) (region_of db J r) ≡ same
        → lasts_of (opening_of db r) (pushed (if same then None else Some (RegionChanged (checks_last_on db (f ∷ J) r))) (calls_of db J r)) ≡ checks_last_on db (f ∷ J) r
    by true same = was ∙ ap (λ region. is_same_region region Etsi) (sym (same_region_true (region_of db (f ∷ J) r) (region_of db J r) same))
    by false differs = refl

-- the book was told so
pub lasts_told : (db : List Domain) (J : Journal) (r : ℕ) → lasts_of (opening_of db r) (calls_of db J r) ≡ checks_last_on db J r
lasts_told db [] r = refl
lasts_told db (moment_is moment ∷ J) r = lasts_told db J r
lasts_told db (radar_met q chan ∷ J) r =
    where_pushed (λ calls. lasts_of (opening_of db r) calls ≡ checks_last_on db J r) (r == q) (Radar chan) (calls_of db J r) (λ is. lasts_told db J r) (lasts_told db J r)
lasts_told db (check_begun i chan length ∷ J) r =
    where_pushed (λ calls. lasts_of (opening_of db r) calls ≡ checks_last_on db J r) (is_on J i r) (Begin (slot_of J i) chan length) (calls_of db J r)
    (λ is. lasts_told db J r) (lasts_told db J r)
lasts_told db (check_dropped i ∷ J) r =
    where_pushed (λ calls. lasts_of (opening_of db r) calls ≡ checks_last_on db J r) (is_on J i r) (DropCheck (slot_of J i)) (calls_of db J r)
    (λ is. lasts_told db J r) (lasts_told db J r)
lasts_told db (started i chan power ∷ J) r =
    where_pushed (λ calls. lasts_of (opening_of db r) calls ≡ checks_last_on db J r) (is_on J i r && sends_first J i) (Operate (slot_of J i) (Some chan)) (calls_of db J r)
    (λ is. lasts_told db J r) (lasts_told db J r)
lasts_told db (stopped i ∷ J) r =
    where_pushed (λ calls. lasts_of (opening_of db r) calls ≡ checks_last_on db J r) (is_on J i r && sends_first J i) (Operate (slot_of J i) None) (calls_of db J r)
    (λ is. lasts_told db J r) (lasts_told db J r)
lasts_told db (hinted hint ∷ J) r = region_told db (hinted hint) J r (lasts_told db J r)
lasts_told db (radio_added q profile ∷ J) r = region_told db (radio_added q profile) J r (lasts_told db J r)
lasts_told db (radio_removed q ∷ J) r = region_told db (radio_removed q) J r (lasts_told db J r)
lasts_told db (f ∷ J) r = lasts_told db J r
