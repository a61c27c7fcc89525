-- A radio whose list a hint leaves as it was.
use Rattle.std.proofs.Common.{◌≡◌, ℕ, zero, suc, ◌<◌, ◌≤◌, Bool, true, false, not, List, [], ◌∷◌, ◌++◌, map, length, slice_get, Option, option_and_then, if◌then◌else◌, arith, refl, sym, subst, ap, ◌∙◌}
use Rattle.std.specs.List.{filter_map}
use Rattle.std.specs.Option.{option_to_list}
use Rattle.std.proofs.lemmas.Option.{none-some, same_Some}
use Rattle.rule_tables.specs.declared.code.Alpha2.{Alpha2}
use Rattle.rule_tables.specs.declared.code.Region.{Region}
use Rattle.rule_tables.specs.declared.code.Region.TheVariants.{Unset, Fcc, Etsi, Jp}
use Rattle.rule_tables.specs.declared.domain.Domain.{Domain}
use Rattle.rule_tables.specs.Regions.{common_region, is_same_region}
use Rattle.rule_intersect.specs.Tables.{IsTableOf}
use Rattle.chan_flags.specs.Records.{AreRecords}
use Rattle.dfs_states.specs.StandsFor.{BookStandsFor}
use Rattle.reg_hints.specs.Table.{State, Treated}
use Rattle.reg_hints.specs.declared.hint.Hint.{Hint}
use Rattle.reg_journal.specs.Applicable.{applies, custom_domains, driver_code_of, find_domain, hints_of, is_self_managed, or_nothing, region_of, shared_domains}
use Rattle.reg_journal.specs.Facts.{Journal, hinted}
use Rattle.reg_books.specs.Calls.{opening_of}
use Rattle.reg_books.specs.Lists.{region_by}
use Rattle.core_parts.specs.Hinting.{driver_after, place_moved}
use Rattle.core_parts.specs.Kept.{KeepsRadio}
use Rattle.core_parts.specs.declared.radio.Radio.{Radio}
use Rattle.core_parts.specs.declared.radio.RadioPlace.TheVariants.{There}
use Rattle.core_parts.proofs.KeptOn.{calls_of-unmoved, driver-after}

-- two lists of at most n elements that have the same one at each of n places are one
pub same_from_places : {X : Type 0} (n : ℕ) (xs ys : List X) → length xs ≤ n → length ys ≤ n → ((k : ℕ) → k < n → slice_get xs k ≡ slice_get ys k) → xs ≡ ys
same_from_places n [] [] few_x few_y each = refl
same_from_places n [] (y ∷ ys) few_x few_y each = absurd (none-some y (each 0 (omega arith)))
same_from_places n (x ∷ xs) [] few_x few_y each = absurd (none-some x (sym (each 0 (omega arith))))
same_from_places zero (x ∷ xs) (y ∷ ys) few_x few_y each = absurd (omega arith)
same_from_places (suc n) (x ∷ xs) (y ∷ ys) few_x few_y each =
    let first : x ≡ y = same_Some x y (each 0 (omega arith)) in
    let rest : xs ≡ ys = same_from_places n xs ys (omega arith) (omega arith) (λ k below. each (suc k) (omega arith)) in
    cc

same_region : (x : Region) → is_same_region x x ≡ true
same_region Unset = refl
same_region Fcc = refl
same_region Etsi = refl
same_region Jp = refl

unmoved : (one other : Region) → one ≡ other → false ≡ not (is_same_region one other)
unmoved one other same = ap not (sym (same_region one)) ∙ ap (λ x. not (is_same_region one x)) same

-- ---- what the list gives

pub list_alone : (db : List Domain) (J : Journal) (r : ℕ) (hint : Hint) → (hints_of (hinted (Treated hint) ∷ J)).global ≡ (hints_of J).global
    → driver_code_of (hinted (Treated hint) ∷ J) r ≡ driver_code_of J r → applies db (hinted (Treated hint) ∷ J) r ≡ applies db J r
list_alone db J r hint codes driver =
    ap (λ global. or_nothing ((if is_self_managed J r then [] else filter_map (find_domain db) global) ++ custom_domains J r
    ++ option_to_list (option_and_then (find_domain db) (driver_code_of (hinted (Treated hint) ∷ J) r)))) codes
    ∙ ap (λ code. or_nothing (shared_domains db J r ++ custom_domains J r ++ option_to_list (option_and_then (find_domain db) code))) driver

pub region_alone : (db : List Domain) (J : Journal) (r : ℕ) (hint : Hint) → (hints_of (hinted (Treated hint) ∷ J)).global ≡ (hints_of J).global
    → driver_code_of (hinted (Treated hint) ∷ J) r ≡ driver_code_of J r → region_of db (hinted (Treated hint) ∷ J) r ≡ region_of db J r
region_alone db J r hint codes driver =
    ap (λ global. common_region (map (λ d. d.region) ((if is_self_managed J r then [] else filter_map (find_domain db) global)
    ++ option_to_list (option_and_then (find_domain db) (driver_code_of (hinted (Treated hint) ∷ J) r))))) codes
    ∙ ap (λ code. common_region (map (λ d. d.region) (shared_domains db J r ++ option_to_list (option_and_then (find_domain db) code)))) driver

-- the radio stays as it is
pub left_alone : (db : List Domain) (J : Journal) (r : ℕ) (radio : Radio) (hint : Hint) (before after : State) → KeepsRadio db J r radio → hints_of J ≡ before
    → hints_of (hinted (Treated hint) ∷ J) ≡ after → before.global ≡ after.global → radio.driver ≡ driver_after hint r radio.driver
    → KeepsRadio db (hinted (Treated hint) ∷ J) r radio
left_alone db J r radio hint before after kept led_before led_after codes driver =
    let J' : Journal = hinted (Treated hint) ∷ J in
    let code : driver_code_of J' r ≡ radio.driver = driver-after db J r radio hint kept ∙ sym driver in
    let global : (hints_of J').global ≡ (hints_of J).global = ap (λ (s : State). s.global) led_after ∙ sym codes ∙ sym (ap (λ (s : State). s.global) led_before) in
    let same = code ∙ sym kept.driver in
    let list = list_alone db J r hint global same in
    let calls = calls_of-unmoved db J r (Treated hint) (unmoved (region_of db J' r) (region_of db J r) (region_alone db J r hint global same)) in
    record {
      profile = kept.profile;
      is_profile = kept.is_profile;
      custom = kept.custom;
      driver = code;
      table = subst (λ ds. IsTableOf ds radio.table) (sym list) kept.table;
      records = subst (λ ds. AreRecords ds radio.chans.chans) (sym list) kept.records;
      book = subst (λ calls. BookStandsFor radio.book (map (λ c. c.khz) radio.chans.chans) (opening_of db r) calls) (sym calls) kept.book;
    }

-- and its region doesn't change
pub region_stays : (db : List Domain) (before after : State) (hint : Hint) (r : ℕ) (radio : Radio) → before.global ≡ after.global → radio.driver ≡ driver_after hint r radio.driver
    → false ≡ place_moved db before after hint r (There radio)
region_stays db before after hint r radio codes driver = unmoved _ _ (sym (
    ap (λ global. region_by db (record { last = before.last; global = global }) self_managed radio.driver) codes ∙ ap (λ code. region_by db after self_managed code) driver))
  where
    self_managed : Bool
    self_managed = radio.chans.profile.self_managed
