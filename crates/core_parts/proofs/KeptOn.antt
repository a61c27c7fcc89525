-- What stays kept of a radio over a fact.
use Rattle.std.proofs.Common.{◌≡◌, ℕ, Bool, true, false, not, List, [], ◌∷◌, map, eq-eqb, Option, Some, None, unwrap_or, if◌then◌else◌, arith, refl, sym, subst, ap, ◌∙◌}
use Rattle.std.specs.Option.{option_map, option_to_list}
use Rattle.freq_range.specs.declared.rule.Rule.{Rule}
use Rattle.rule_tables.specs.declared.code.Alpha2.{Alpha2}
use Rattle.rule_tables.specs.declared.domain.Domain.{Domain}
use Rattle.rule_intersect.specs.Tables.{IsTableOf, Joined}
use Rattle.chan_flags.specs.Profiles.{IsProfile}
use Rattle.chan_flags.specs.Records.{AreRecords, Recorded}
use Rattle.dfs_states.specs.Book.{Book}
use Rattle.dfs_states.specs.Calls.{Advance, RegionChanged}
use Rattle.dfs_states.specs.Meaning.{MayBeCalled as IsCallDue}
use Rattle.dfs_states.specs.StandsFor.{BookStandsFor}
use Rattle.reg_hints.specs.Table.{Hinted, Own, State, Treated}
use Rattle.reg_hints.specs.declared.hint.Hint.{Hint}
use Rattle.reg_hints.specs.declared.hint.Hint.TheVariants.{User, Driver, Element}
use Rattle.rule_tables.specs.World.{custom_domain}
use Rattle.rule_tables.specs.Regions.{is_same_region}
use Rattle.reg_journal.specs.Applicable.{applies, custom_domains, driver_code_of, hints_of, is_self_managed, region_of}
use Rattle.reg_journal.specs.Due.{MayFollow}
use Rattle.reg_journal.specs.Facts.{Journal, hinted, moment_is, rules_are}
use Rattle.reg_journal.specs.Present.{custom_rules_of, no_abilities}
use Rattle.reg_books.specs.Calls.{calls_of, checks_last_on, opening_of, pushed}
use Rattle.core_parts.specs.Hinting.{driver_after, list_after}
use Rattle.core_parts.specs.Kept.{KeepsRadio, KeepsPlace}
use Rattle.reg_books.specs.Lists.{applies_by, region_by}
use Rattle.core_parts.specs.declared.radio.Radio.{Radio}
use Rattle.core_parts.specs.declared.radio.RadioPlace.{RadioPlace}
use Rattle.reg_books.proofs.ListsAlike.{applies_by-same}
use Rattle.reg_books.proofs.Moments.{now_of-calls}

-- ---- moments

pub advanced : (db : List Domain) (J : Journal) (r now : ℕ) (old : Radio) (book : Book) → KeepsRadio db J r old → MayFollow db J (moment_is now)
    → (IsCallDue (calls_of db J r) (Advance now) → BookStandsFor book (map (λ c. c.khz) old.chans.chans) (opening_of db r) (Advance now ∷ calls_of db J r))
    → KeepsRadio db (moment_is now ∷ J) r (record old { book = book })
advanced db J r now old book kept due stands =
    let same = now_of-calls db J r in
    let later = due.0 in
    record {
      profile = kept.profile;
      is_profile = kept.is_profile;
      custom = kept.custom;
      driver = kept.driver;
      table = kept.table;
      records = kept.records;
      book = stands (omega (arith, same, later), due.1);
    }

-- what a new moment does to a place
abbrev pub Advances : ℕ → ℕ → RadioPlace → RadioPlace → Type 0
Advances now r old new = (db : List Domain) (J : Journal) → KeepsPlace db J r old → MayFollow db J (moment_is now) → KeepsPlace db (moment_is now ∷ J) r new

-- ---- hints

pub calls_of-moved : (db : List Domain) (J : Journal) (r : ℕ) (hint : Hinted) → true ≡ not (is_same_region (region_of db (hinted hint ∷ J) r) (region_of db J r))
    → calls_of db (hinted hint ∷ J) r ≡ RegionChanged (checks_last_on db (hinted hint ∷ J) r) ∷ calls_of db J r
calls_of-moved db J r hint moved = by_test (is_same_region (region_of db (hinted hint ∷ J) r) (region_of db J r)) moved
  where
    by_test : (same : Bool) → true ≡ not same → pushed (if same then None else Some (RegionChanged (checks_last_on db (hinted hint ∷ J) r))) (calls_of db J r)
        ≡ RegionChanged (checks_last_on db (hinted hint ∷ J) r) ∷ calls_of db J r
    by_test true moved = cc
    by_test false moved = refl

pub calls_of-unmoved : (db : List Domain) (J : Journal) (r : ℕ) (hint : Hinted) → false ≡ not (is_same_region (region_of db (hinted hint ∷ J) r) (region_of db J r))
    → calls_of db (hinted hint ∷ J) r ≡ calls_of db J r
calls_of-unmoved db J r hint same = by_test (is_same_region (region_of db (hinted hint ∷ J) r) (region_of db J r)) same
  where
    by_test : (same : Bool) → false ≡ not same → pushed (if same then None else Some (RegionChanged (checks_last_on db (hinted hint ∷ J) r))) (calls_of db J r) ≡ calls_of db J r
    by_test true same = refl
    by_test false same = cc

pub retuned : (db : List Domain) (J : Journal) (r : ℕ) (hint : Hinted) (old : Radio) (driver : Option Alpha2) (table : Joined) (chans : Recorded) (book : Book)
    → KeepsRadio db J r old → driver_code_of (hinted hint ∷ J) r ≡ driver → IsTableOf (applies db (hinted hint ∷ J) r) table
    → chans.profile ≡ old.chans.profile → map (λ c. c.khz) chans.chans ≡ map (λ c. c.khz) old.chans.chans
    → ((ds : List Domain) → IsTableOf ds table → AreRecords ds chans.chans)
    → BookStandsFor book (map (λ c. c.khz) old.chans.chans) (opening_of db r) (calls_of db (hinted hint ∷ J) r)
    → KeepsRadio db (hinted hint ∷ J) r (record { custom = old.custom; driver = driver; table = table; chans = chans; book = book })
retuned db J r hint old driver table chans book kept is_driver is_table profile channels records is_book = record {
  profile = kept.profile ∙ ap (λ p. Some p) (sym profile);
  is_profile = subst IsProfile (sym profile) kept.is_profile;
  custom = kept.custom;
  driver = is_driver;
  table = is_table;
  records = records _ is_table;
  book = subst (λ khz. BookStandsFor book khz (opening_of db r) (calls_of db (hinted hint ∷ J) r)) (sym channels) is_book;
}

-- ---- hints that the table of hints treats, by what is kept

is_self_managed-kept : (db : List Domain) (J : Journal) (r : ℕ) (radio : Radio) → KeepsRadio db J r radio → is_self_managed J r ≡ radio.chans.profile.self_managed
is_self_managed-kept db J r radio kept = ap (λ o. (unwrap_or o no_abilities).self_managed) kept.profile

pub driver_code_of-after : (J : Journal) (hint : Hint) (r : ℕ) → driver_code_of (hinted (Treated hint) ∷ J) r ≡ driver_after hint r (driver_code_of J r)
driver_code_of-after J (User a) r = refl
driver_code_of-after J (Driver q a) r = refl
driver_code_of-after J (Element q a deaf) r = refl

pub driver-after : (db : List Domain) (J : Journal) (r : ℕ) (radio : Radio) (hint : Hint) → KeepsRadio db J r radio
    → driver_code_of (hinted (Treated hint) ∷ J) r ≡ driver_after hint r radio.driver
driver-after db J r radio hint kept = driver_code_of-after J hint r ∙ ap (driver_after hint r) kept.driver

pub applies-after : (db : List Domain) (J : Journal) (r : ℕ) (radio : Radio) (hint : Hint) (after : State) → KeepsRadio db J r radio
    → hints_of (hinted (Treated hint) ∷ J) ≡ after → applies db (hinted (Treated hint) ∷ J) r ≡ list_after db after hint r radio
applies-after db J r radio hint after kept led =
    let J' : Journal = hinted (Treated hint) ∷ J in
    ap (λ hints. applies_by db hints (is_self_managed J r) (custom_domains J r) (driver_code_of J' r)) led
    ∙ applies_by-same db after _ _ _ _ _ _ (is_self_managed-kept db J r radio kept) kept.custom (driver-after db J r radio hint kept)

pub table-after : (db : List Domain) (J : Journal) (r : ℕ) (radio : Radio) (hint : Hint) (after : State) (table : Joined) → KeepsRadio db J r radio
    → hints_of (hinted (Treated hint) ∷ J) ≡ after → IsTableOf (list_after db after hint r radio) table → IsTableOf (applies db (hinted (Treated hint) ∷ J) r) table
table-after db J r radio hint after table kept led is = subst (λ ds. IsTableOf ds table) (sym (applies-after db J r radio hint after kept led)) is

pub region-before : (db : List Domain) (J : Journal) (r : ℕ) (radio : Radio) (before : State) → KeepsRadio db J r radio → hints_of J ≡ before
    → region_of db J r ≡ region_by db before radio.chans.profile.self_managed radio.driver
region-before db J r radio before kept led =
    ap (λ hints. region_by db hints (is_self_managed J r) (driver_code_of J r)) led
    ∙ ap (λ s. region_by db before s (driver_code_of J r)) (is_self_managed-kept db J r radio kept)
    ∙ ap (λ d. region_by db before radio.chans.profile.self_managed d) kept.driver

pub region-after : (db : List Domain) (J : Journal) (r : ℕ) (radio : Radio) (hint : Hint) (after : State) → KeepsRadio db J r radio
    → hints_of (hinted (Treated hint) ∷ J) ≡ after
    → region_of db (hinted (Treated hint) ∷ J) r ≡ region_by db after radio.chans.profile.self_managed (driver_after hint r radio.driver)
region-after db J r radio hint after kept led =
    let J' : Journal = hinted (Treated hint) ∷ J in
    ap (λ hints. region_by db hints (is_self_managed J r) (driver_code_of J' r)) led
    ∙ ap (λ s. region_by db after s (driver_code_of J' r)) (is_self_managed-kept db J r radio kept)
    ∙ ap (λ d. region_by db after radio.chans.profile.self_managed d) (driver-after db J r radio hint kept)

-- what such a hint does to a place
abbrev pub Retunes : List Domain → State → State → Hint → ℕ → RadioPlace → RadioPlace → Type 0
Retunes db before after hint r old new = (J : Journal) → KeepsPlace db J r old → hints_of J ≡ before → hints_of (hinted (Treated hint) ∷ J) ≡ after
    → KeepsPlace db (hinted (Treated hint) ∷ J) r new

-- ---- rules of the radio's own

custom_domains-ruled : (J : Journal) (r : ℕ) (rules : List Rule) → custom_domains (rules_are r rules ∷ J) r ≡ custom_domain rules ∷ []
custom_domains-ruled J r rules = ap (λ b. option_to_list (option_map custom_domain (if b then Some rules else custom_rules_of J r))) (eq-eqb r r refl)

pub applies-ruled : (db : List Domain) (J : Journal) (r : ℕ) (rules : List Rule) (radio : Radio) (hints : State) → KeepsRadio db J r radio → hints_of J ≡ hints
    → applies db (rules_are r rules ∷ J) r ≡ applies_by db hints radio.chans.profile.self_managed (custom_domain rules ∷ []) radio.driver
applies-ruled db J r rules radio hints kept led =
    ap (λ hints. applies_by db hints (is_self_managed J r) (custom_domains (rules_are r rules ∷ J) r) (driver_code_of J r)) led
    ∙ applies_by-same db hints _ _ _ _ _ _ (is_self_managed-kept db J r radio kept) (custom_domains-ruled J r rules) kept.driver

-- ---- a driver's hint on a radio that manages itself

pub driver-own : (J : Journal) (r : ℕ) (a : Alpha2) → driver_code_of (hinted (Own r a) ∷ J) r ≡ Some a
driver-own J r a = ap (λ b. if b then Some a else driver_code_of J r) (eq-eqb r r refl)

pub applies-own : (db : List Domain) (J : Journal) (r : ℕ) (a : Alpha2) (radio : Radio) (hints : State) → KeepsRadio db J r radio → hints_of J ≡ hints
    → applies db (hinted (Own r a) ∷ J) r ≡ applies_by db hints radio.chans.profile.self_managed (option_to_list radio.custom) (Some a)
applies-own db J r a radio hints kept led =
    ap (λ hints. applies_by db hints (is_self_managed J r) (custom_domains J r) (driver_code_of (hinted (Own r a) ∷ J) r)) led
    ∙ applies_by-same db hints _ _ _ _ _ _ (is_self_managed-kept db J r radio kept) kept.custom (driver-own J r a)

pub region-own : (db : List Domain) (J : Journal) (r : ℕ) (a : Alpha2) (radio : Radio) (hints : State) → KeepsRadio db J r radio → hints_of J ≡ hints
    → region_of db (hinted (Own r a) ∷ J) r ≡ region_by db hints radio.chans.profile.self_managed (Some a)
region-own db J r a radio hints kept led =
    ap (λ hints. region_by db hints (is_self_managed J r) (driver_code_of (hinted (Own r a) ∷ J) r)) led
    ∙ ap (λ s. region_by db hints s (driver_code_of (hinted (Own r a) ∷ J) r)) (is_self_managed-kept db J r radio kept)
    ∙ ap (λ d. region_by db hints radio.chans.profile.self_managed d) (driver-own J r a)
