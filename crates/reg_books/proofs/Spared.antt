-- A fact that says nothing of a radio leaves what the journal says of it.
use Rattle.std.proofs.Common.{◌≡◌, ℕ, ◌==◌, ◌||◌, ◌&&◌, Bool, true, false, List, ◌∷◌, length, Option, Some, None, unwrap_or, if◌then◌else◌, refl, ap, ◌∙◌, eq-eqb}
use Rattle.std.specs.Option.{option_map, option_to_list}
use Rattle.freq_range.specs.declared.rule.Rule.{Rule}
use Rattle.rule_tables.specs.Regions.{region_number}
use Rattle.rule_tables.specs.declared.domain.Domain.{Domain}
use Rattle.chan_flags.specs.Profiles.{Abilities}
use Rattle.dfs_states.specs.Calls.{Call, Radar, Begin, DropCheck, Operate, RegionChanged}
use Rattle.reg_hints.specs.Table.{Own, Treated}
use Rattle.rule_tables.specs.declared.code.Alpha2.{Alpha2}
use Rattle.reg_journal.specs.Facts.{Fact, Journal, moment_is, radio_added, radio_removed, rules_are, hinted, radar_met, started, stopped, check_begun, check_dropped}
use Rattle.rule_tables.specs.World.{custom_domain}
use Rattle.rule_tables.specs.Regions.{is_same_region}
use Rattle.reg_journal.specs.Applicable.{applies, custom_domains, driver_code_of, hints_of, is_self_managed, region_of}
use Rattle.reg_journal.specs.OnAir.{is_on}
use Rattle.reg_journal.specs.Present.{custom_rules_of, is_used, no_abilities, profile_of}
use Rattle.reg_books.specs.Calls.{calls_of, checks_last_on, pushed, sends_first}
use Rattle.reg_books.specs.Lists.{applies_by, region_by}
use Rattle.reg_books.specs.Slots.{slot_of}
use Rattle.reg_books.specs.Sparing.{SparesRadio}
use Rattle.reg_books.proofs.ListsAlike.{applies_by-same}

other_profile : (J : Journal) (r : ℕ) (profile : Option Abilities) (same : Bool) → same ≡ false → (if same then profile else profile_of J r) ≡ profile_of J r
other_profile J r profile true spares = cc
other_profile J r profile false spares = refl

other_rules : (J : Journal) (r : ℕ) (rules : Option (List Rule)) (same : Bool) → same ≡ false → (if same then rules else custom_rules_of J r) ≡ custom_rules_of J r
other_rules J r rules true spares = cc
other_rules J r rules false spares = refl

other_code : (J : Journal) (r : ℕ) (code : Option Alpha2) (same : Bool) → same ≡ false → (if same then code else driver_code_of J r) ≡ driver_code_of J r
other_code J r code true spares = cc
other_code J r code false spares = refl

other_used : (J : Journal) (r : ℕ) (same : Bool) → same ≡ false → (same || is_used J r) ≡ is_used J r
other_used J r true spares = cc
other_used J r false spares = refl

other_call : (calls : List Call) (call : Call) (comes : Bool) → comes ≡ false → pushed (if comes then Some call else None) calls ≡ calls
other_call calls call true spares = cc
other_call calls call false spares = refl

same_call : (calls : List Call) (call : Call) (stays : Bool) → stays ≡ true → pushed (if stays then None else Some call) calls ≡ calls
same_call calls call true stays = refl
same_call calls call false stays = cc

pub profile_of-spared : (J : Journal) (r : ℕ) (f : Fact) → SparesRadio J r f → profile_of (f ∷ J) r ≡ profile_of J r
profile_of-spared J r (radio_added q profile) spares = other_profile J r (Some profile) (r == q) spares
profile_of-spared J r (radio_removed q) spares = other_profile J r None (r == q) spares
profile_of-spared J r f spares = refl

pub is_used-spared : (J : Journal) (r : ℕ) (f : Fact) → SparesRadio J r f → is_used (f ∷ J) r ≡ is_used J r
is_used-spared J r (radio_added q profile) spares = other_used J r (r == q) spares
is_used-spared J r f spares = refl

custom_rules_of-spared : (J : Journal) (r : ℕ) (f : Fact) → SparesRadio J r f → custom_rules_of (f ∷ J) r ≡ custom_rules_of J r
custom_rules_of-spared J r (rules_are q rules) spares = other_rules J r (Some rules) (r == q) spares
custom_rules_of-spared J r f spares = refl

hints_of-spared : (J : Journal) (r : ℕ) (f : Fact) → SparesRadio J r f → hints_of (f ∷ J) ≡ hints_of J
hints_of-spared J r (hinted (Treated hint)) spares = absurd spares
hints_of-spared J r (hinted (Own q a)) spares = refl
hints_of-spared J r f spares = refl

pub driver_code_of-spared : (J : Journal) (r : ℕ) (f : Fact) → SparesRadio J r f → driver_code_of (f ∷ J) r ≡ driver_code_of J r
driver_code_of-spared J r (hinted (Treated hint)) spares = absurd spares
driver_code_of-spared J r (hinted (Own q a)) spares = other_code J r (Some a) (r == q) spares
driver_code_of-spared J r f spares = refl

pub custom_domains-spared : (J : Journal) (r : ℕ) (f : Fact) → SparesRadio J r f → custom_domains (f ∷ J) r ≡ custom_domains J r
custom_domains-spared J r f spares = ap (λ o. option_to_list (option_map custom_domain o)) (custom_rules_of-spared J r f spares)

is_self_managed-spared : (J : Journal) (r : ℕ) (f : Fact) → SparesRadio J r f → is_self_managed (f ∷ J) r ≡ is_self_managed J r
is_self_managed-spared J r f spares = ap (λ o. (unwrap_or o no_abilities).self_managed) (profile_of-spared J r f spares)

pub applies-spared : (db : List Domain) (J : Journal) (r : ℕ) (f : Fact) → SparesRadio J r f → applies db (f ∷ J) r ≡ applies db J r
applies-spared db J r f spares =
    ap (λ hints. applies_by db hints (is_self_managed (f ∷ J) r) (custom_domains (f ∷ J) r) (driver_code_of (f ∷ J) r)) (hints_of-spared J r f spares)
    ∙ applies_by-same db (hints_of J) _ _ _ _ _ _ (is_self_managed-spared J r f spares) (custom_domains-spared J r f spares) (driver_code_of-spared J r f spares)

pub region_of-spared : (db : List Domain) (J : Journal) (r : ℕ) (f : Fact) → SparesRadio J r f → region_of db (f ∷ J) r ≡ region_of db J r
region_of-spared db J r f spares =
    ap (λ hints. region_by db hints (is_self_managed (f ∷ J) r) (driver_code_of (f ∷ J) r)) (hints_of-spared J r f spares)
    ∙ ap (λ s. region_by db (hints_of J) s (driver_code_of (f ∷ J) r)) (is_self_managed-spared J r f spares)
    ∙ ap (λ d. region_by db (hints_of J) (is_self_managed J r) d) (driver_code_of-spared J r f spares)

region_call-spared : (db : List Domain) (J : Journal) (r : ℕ) (f : Fact) → SparesRadio J r f
    → pushed (if is_same_region (region_of db (f ∷ J) r) (region_of db J r) then None else Some (RegionChanged (checks_last_on db (f ∷ J) r))) (calls_of db J r) ≡ calls_of db J r
region_call-spared db J r f spares =
    same_call (calls_of db J r) (RegionChanged (checks_last_on db (f ∷ J) r)) (is_same_region (region_of db (f ∷ J) r) (region_of db J r))
    (eq-eqb _ _ (ap region_number (region_of-spared db J r f spares)))

pub calls_of-spared : (db : List Domain) (J : Journal) (r : ℕ) (f : Fact) → SparesRadio J r f → calls_of db (f ∷ J) r ≡ calls_of db J r
calls_of-spared db J r (moment_is moment) spares = absurd spares
calls_of-spared db J r (hinted hint) spares = region_call-spared db J r (hinted hint) spares
calls_of-spared db J r (radio_added q profile) spares = region_call-spared db J r (radio_added q profile) spares
calls_of-spared db J r (radio_removed q) spares = region_call-spared db J r (radio_removed q) spares
calls_of-spared db J r (radar_met q chan) spares = other_call (calls_of db J r) (Radar chan) (r == q) spares
calls_of-spared db J r (started i chan power) spares = other_call (calls_of db J r) (Operate (slot_of J i) (Some chan)) (is_on J i r && sends_first J i) spares
calls_of-spared db J r (stopped i) spares = other_call (calls_of db J r) (Operate (slot_of J i) None) (is_on J i r && sends_first J i) spares
calls_of-spared db J r (check_begun i chan length) spares = other_call (calls_of db J r) (Begin (slot_of J i) chan length) (is_on J i r) spares
calls_of-spared db J r (check_dropped i) spares = other_call (calls_of db J r) (DropCheck (slot_of J i)) (is_on J i r) spares
calls_of-spared db J r f spares = refl
