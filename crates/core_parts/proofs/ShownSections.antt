-- The sections, by what is kept of hints and radios.
use Rattle.std.proofs.Common.{◌≡◌, ◌+◌, ◌<◌, ℕ, zero, suc, Bool, true, false, ◌||◌, List, [], ◌∷◌, ◌++◌, length, map, filter, slice_get, Option, Some, None, is_some, unwrap_or, arith, refl, sym, subst, ap, ◌∙◌, add-one, add-zero, zero-add}
use Rattle.std.proofs.lemmas.List.{append-nil}
use Rattle.std.proofs.lemmas.List.Elements.{filter-append}
use Rattle.std.specs.List.{AllZip}
use Rattle.std.specs.Option.{option_map, option_to_list}
use Rattle.freq_range.specs.declared.rule.Rule.{Rule}
use Rattle.rule_tables.specs.Regions.{common_region}
use Rattle.rule_tables.specs.World.{custom_domain}
use Rattle.rule_tables.specs.declared.code.Region.{Region}
use Rattle.rule_tables.specs.declared.domain.Domain.{Domain}
use Rattle.rule_intersect.specs.Tables.{IsTableOf, Joined}
use Rattle.reg_hints.specs.Table.{State}
use Rattle.reg_journal.specs.Applicable.{applies, custom_domains, driver_code_of, global_domains, global_region, hints_of, is_self_managed, or_nothing, region_of}
use Rattle.reg_journal.specs.Dumps.{AreSections, IsGlobalSection, IsRadioSection, IsSection, has_own_list}
use Rattle.reg_journal.specs.Facts.{Journal}
use Rattle.reg_journal.specs.Present.{custom_rules_of, no_abilities, profile_of}
use Rattle.reg_journal.specs.declared.report.Section.{Section}
use Rattle.core_parts.specs.Kept.{KeepsRadio}
use Rattle.reg_books.specs.Slots.{numbers}
use Rattle.reg_books.specs.Lists.{applies_by, region_by}
use Rattle.core_parts.specs.Reading.{AreSectionsBelow, with_own_list}
use Rattle.core_parts.specs.declared.radio.Radio.{Radio}
use Rattle.core_parts.proofs.KeptOn.{region-before}
use Rattle.core_parts.proofs.NewLists.{or_nothing-some}
use Rattle.reg_books.proofs.ListsAlike.{applies_by-same}
use Rattle.core_parts.proofs.Zipped.{zip_append}

-- ---- the global list

-- it is what a radio with neither rules of its own nor a driver's hint has, where there is a domain
applies_global : (ds : List Domain) → 0 < length ds → or_nothing (ds ++ [] ++ []) ≡ ds
applies_global ds some = ap or_nothing (append-nil (ds ++ []) ∙ append-nil ds) ∙ or_nothing-some ds some

pub global_shown : (db : List Domain) (J : Journal) (hints : State) (table : Joined) (first : Domain) (region : Region) (section : Section) → hints_of J ≡ hints
    → IsTableOf (global_domains db J) table → slice_get (applies_by db hints false [] None) 0 ≡ Some first → region ≡ region_by db hints false None
    → ((ds : List Domain) → IsTableOf ds table → slice_get ds 0 ≡ Some first → IsSection None ds region section) → IsGlobalSection db J section
global_shown db J hints table first region section led is here region_is shows =
    subst (λ r. IsSection None (global_domains db J) r section) same_region (shows (global_domains db J) is (sym (ap (λ ds. slice_get ds 0) same_list) ∙ here))
  where
    same_list : applies_by db hints false [] None ≡ global_domains db J
    same_list = ap (λ h. applies_by db h false [] None) (sym led) ∙ applies_global (global_domains db J) is.some

    same_region : region ≡ global_region db J
    same_region = region_is ∙ ap (λ h. region_by db h false None) (sym led) ∙ ap (λ ds. common_region (map (λ (d : Domain). d.region) ds)) (append-nil (global_domains db J))

-- ---- a radio

pub self_managed_kept : (db : List Domain) (J : Journal) (r : ℕ) (radio : Radio) → KeepsRadio db J r radio → is_self_managed J r ≡ radio.chans.profile.self_managed
self_managed_kept db J r radio keeps = ap (λ o. (unwrap_or o no_abilities).self_managed) keeps.profile

pub radio_shown : (db : List Domain) (J : Journal) (r : ℕ) (radio : Radio) (hints : State) (self_managed : Bool) (first : Domain) (region : Region) (section : Section) → hints_of J ≡ hints
    → KeepsRadio db J r radio → self_managed ≡ radio.chans.profile.self_managed
    → slice_get (applies_by db hints self_managed (option_to_list radio.custom) radio.driver) 0 ≡ Some first → region ≡ region_by db hints self_managed radio.driver
    → ((ds : List Domain) → IsTableOf ds radio.table → slice_get ds 0 ≡ Some first → IsSection (Some r) ds region section) → IsRadioSection db J r section
radio_shown db J r radio hints self_managed first region section led keeps managed here region_is shows =
    subst (λ g. IsSection (Some r) (applies db J r) g section) same_region (shows (applies db J r) keeps.table (ap (λ ds. slice_get ds 0) same_list ∙ here))
  where
    same_list : applies db J r ≡ applies_by db hints self_managed (option_to_list radio.custom) radio.driver
    same_list = ap (λ h. applies_by db h (is_self_managed J r) (custom_domains J r) (driver_code_of J r)) led
        ∙ applies_by-same db hints _ _ _ _ _ _ (self_managed_kept db J r radio keeps ∙ sym managed) keeps.custom keeps.driver

    same_region : region ≡ region_of db J r
    same_region = region_is ∙ ap (λ s. region_by db hints s radio.driver) managed ∙ sym (region-before db J r radio hints keeps led)

-- whether it has a list of its own
pub own_list_kept : (db : List Domain) (J : Journal) (r : ℕ) (radio : Radio) → KeepsRadio db J r radio
    → has_own_list J r ≡ (is_some radio.custom || (is_some radio.driver || radio.chans.profile.self_managed))
own_list_kept db J r radio keeps =
    ap (λ b. b || (is_some (driver_code_of J r) || is_self_managed J r)) (custom_alike (custom_rules_of J r) radio.custom keeps.custom)
    ∙ ap (λ d. is_some radio.custom || (is_some d || is_self_managed J r)) keeps.driver
    ∙ ap (λ s. is_some radio.custom || (is_some radio.driver || s)) (self_managed_kept db J r radio keeps)
  where
    custom_alike : (rules : Option (List Rule)) (custom : Option Domain) → option_to_list (option_map custom_domain rules) ≡ option_to_list custom → is_some rules ≡ is_some custom
    custom_alike None None e = refl
    custom_alike (Some rules) (Some d) e = refl
    custom_alike None (Some d) e = cc
    custom_alike (Some rules) None e = cc

-- ---- one radio after the other

pub none_there : (db : List Domain) (J : Journal) (r : ℕ) → profile_of J r ≡ None → AllZip (IsRadioSection db J) (with_own_list J (r ∷ [])) []
none_there db J r gone = rw gone tt

pub none_own : (db : List Domain) (J : Journal) (r : ℕ) (radio : Radio) → KeepsRadio db J r radio → has_own_list J r ≡ false → AllZip (IsRadioSection db J) (with_own_list J (r ∷ [])) []
none_own db J r radio keeps lacks = rw (keeps.profile, lacks) tt

pub one_own : (db : List Domain) (J : Journal) (r : ℕ) (radio : Radio) (section : Section) → KeepsRadio db J r radio → has_own_list J r ≡ true → IsRadioSection db J r section
    → AllZip (IsRadioSection db J) (with_own_list J (r ∷ [])) (section ∷ [])
one_own db J r radio section keeps has is = rw (keeps.profile, has) (is, tt)

numbers_suc : (r n : ℕ) → numbers r (suc n) ≡ numbers r n ++ (r + n) ∷ []
numbers_suc r zero = ap (λ k. k ∷ []) (sym (add-zero r))
numbers_suc r (suc n) = ap (λ ns. r ∷ ns) (numbers_suc (r + 1) n) ∙ ap (λ k. r ∷ numbers (r + 1) n ++ k ∷ []) moved
  where
    moved : r + 1 + n ≡ r + suc n
    moved = omega arith

with_own_list-more : (J : Journal) (n : ℕ) → with_own_list J (numbers 0 (n + 1)) ≡ with_own_list J (numbers 0 n) ++ with_own_list J (n ∷ [])
with_own_list-more J n =
    ap (λ k. with_own_list J (numbers 0 k)) (add-one n)
    ∙ ap (with_own_list J) (numbers_suc 0 n ∙ ap (λ k. numbers 0 n ++ k ∷ []) (zero-add n))
    ∙ ap (filter (has_own_list J)) (filter-append (λ r. is_some (profile_of J r)) (numbers 0 n) (n ∷ []))
    ∙ filter-append (has_own_list J) (filter (λ r. is_some (profile_of J r)) (numbers 0 n)) (filter (λ r. is_some (profile_of J r)) (n ∷ []))

pub sections_begin : (db : List Domain) (J : Journal) (section : Section) (sections : List Section) → sections ≡ section ∷ [] → IsGlobalSection db J section → AreSectionsBelow db J 0 sections
sections_begin db J section sections same is = rw same (is, tt)

pub sections_more : (db : List Domain) (J : Journal) (n : ℕ) (sections more : List Section) → AreSectionsBelow db J n sections → AllZip (IsRadioSection db J) (with_own_list J (n ∷ [])) more
    → AreSectionsBelow db J (n + 1) (sections ++ more)
sections_more db J n [] more below own = absurd below
sections_more db J n (section ∷ sections) more below own = (
  below.0,
  subst (λ rs. AllZip (IsRadioSection db J) rs (sections ++ more)) (sym (with_own_list-more J n))
      (zip_append (IsRadioSection db J) (with_own_list J (numbers 0 n)) (with_own_list J (n ∷ [])) sections more below.1 own),
)

pub sections_all : (db : List Domain) (J : Journal) (n : ℕ) (sections : List Section) → n ≡ 8 → AreSectionsBelow db J n sections → AreSections db J sections
sections_all db J n sections eight below = by sections (subst (λ k. AreSectionsBelow db J k sections) eight below)
  where
    by : (sections : List Section) → AreSectionsBelow db J 8 sections → AreSections db J sections
    by [] below = below
    by (section ∷ sections) below = below
