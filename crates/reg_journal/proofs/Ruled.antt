-- Which domains apply, and what is shown of them, hangs on what rules the radios alone.
use Rattle.std.proofs.Common.{◌≡◌, ℕ, ◌==◌, Bool, ◌||◌, List, [], ◌∷◌, ◌++◌, map, filter, Option, Some, None, is_some, unwrap_or, if◌then◌else◌, refl, sym, ap, subst}
use Rattle.std.specs.List.{AllZip, filter_map}
use Rattle.std.specs.Option.{option_map, option_to_list}
use Rattle.std.specs.Prelude.{option_and_then, ◌<◌, length}
use Rattle.freq_range.specs.First.{IsFirst}
use Rattle.freq_range.specs.declared.rule.Rule.{Rule}
use Rattle.rule_tables.specs.Domains.{IsInvalidAt}
use Rattle.rule_tables.specs.Regions.{common_region}
use Rattle.rule_tables.specs.World.{custom_domain}
use Rattle.rule_tables.specs.declared.code.Region.{Region}
use Rattle.rule_tables.specs.declared.domain.Domain.{Domain}
use Rattle.chan_flags.specs.Profiles.{Abilities}
use Rattle.reg_hints.specs.Table.{Hinted, Own, State, Treated, IsOneTooMany, after_all}
use Rattle.reg_journal.specs.Applicable.{AddsFifthCode, applies, code_of_hint, driver_code_in, driver_code_of, find_domain, global_domains, hinted_of, hints_of, is_self_managed, or_nothing, region_of}
use Rattle.reg_journal.specs.Causes.{◌before◌, Where}
use Rattle.reg_journal.specs.Dumps.{AreSections, IsRadioSection, IsSection, has_own_list}
use Rattle.reg_journal.specs.Facts.{Journal, radio_added, radio_removed, rules_are, hinted}
use Rattle.reg_journal.specs.Present.{abilities_of, custom_rules_of, is_used, no_abilities, profile_of, radios_of}
use Rattle.reg_journal.specs.Refusals.{HintCauses, LacksRadio, RadioAddCauses, RowCauses, RulesCauses, all_lists}
use Rattle.reg_journal.specs.Rulings.{rulings}
use Rattle.reg_journal.specs.declared.refusal.Refusal.{Refusal}
use Rattle.reg_journal.specs.declared.refusal.Refusal.TheVariants.{BadRule, NoCountry, NoRadio, NoRules, SlotUsed, TooManyDomains, TooManyRules}
use Rattle.reg_journal.specs.declared.report.Section.{Section}

-- ---- what is seen of the facts

pub profile-rulings : (J : Journal) (r : ℕ) → profile_of (rulings J) r ≡ profile_of J r
profile-rulings [] r = refl
profile-rulings (radio_added q profile ∷ J) r = ap (λ o. if r == q then Some profile else o) (profile-rulings J r)
profile-rulings (radio_removed q ∷ J) r = ap (λ o. if r == q then None else o) (profile-rulings J r)
profile-rulings (rules_are q rules ∷ J) r = profile-rulings J r
profile-rulings (hinted hint ∷ J) r = profile-rulings J r
profile-rulings (f ∷ J) r = profile-rulings J r

used-rulings : (J : Journal) (r : ℕ) → is_used (rulings J) r ≡ is_used J r
used-rulings [] r = refl
used-rulings (radio_added q profile ∷ J) r = ap (λ b. r == q || b) (used-rulings J r)
used-rulings (radio_removed q ∷ J) r = used-rulings J r
used-rulings (rules_are q rules ∷ J) r = used-rulings J r
used-rulings (hinted hint ∷ J) r = used-rulings J r
used-rulings (f ∷ J) r = used-rulings J r

custom-rulings : (J : Journal) (r : ℕ) → custom_rules_of (rulings J) r ≡ custom_rules_of J r
custom-rulings [] r = refl
custom-rulings (radio_added q profile ∷ J) r = custom-rulings J r
custom-rulings (radio_removed q ∷ J) r = custom-rulings J r
custom-rulings (rules_are q rules ∷ J) r = ap (λ o. if r == q then Some rules else o) (custom-rulings J r)
custom-rulings (hinted hint ∷ J) r = custom-rulings J r
custom-rulings (f ∷ J) r = custom-rulings J r

hinted-rulings : (J : Journal) → hinted_of (rulings J) ≡ hinted_of J
hinted-rulings [] = refl
hinted-rulings (radio_added q profile ∷ J) = hinted-rulings J
hinted-rulings (radio_removed q ∷ J) = hinted-rulings J
hinted-rulings (rules_are q rules ∷ J) = hinted-rulings J
hinted-rulings (hinted hint ∷ J) = ap (λ hs. hint ∷ hs) (hinted-rulings J)
hinted-rulings (f ∷ J) = hinted-rulings J

-- ---- the domains

hints-rulings : (J : Journal) → hints_of (rulings J) ≡ hints_of J
hints-rulings J = ap after_all (hinted-rulings J)

driver-rulings : (J : Journal) (r : ℕ) → driver_code_of (rulings J) r ≡ driver_code_of J r
driver-rulings J r = ap (λ hs. driver_code_in hs r) (hinted-rulings J)

pub abilities-rulings : (J : Journal) (r : ℕ) → abilities_of (rulings J) r ≡ abilities_of J r
abilities-rulings J r = ap (λ o. unwrap_or o no_abilities) (profile-rulings J r)

pub managed-rulings : (J : Journal) (r : ℕ) → is_self_managed (rulings J) r ≡ is_self_managed J r
managed-rulings J r = ap (λ (a : Abilities). a.self_managed) (abilities-rulings J r)

global-rulings : (db : List Domain) (J : Journal) → global_domains db (rulings J) ≡ global_domains db J
global-rulings db J = ap (λ (state : State). filter_map (find_domain db) state.global) (hints-rulings J)

applies-rulings : (db : List Domain) (J : Journal) (r : ℕ) → applies db (rulings J) r ≡ applies db J r
applies-rulings db J r = λ i. or_nothing ((if managed-rulings J r i then [] else global-rulings db J i)
    ++ option_to_list (option_map custom_domain (custom-rulings J r i)) ++ option_to_list (option_and_then (find_domain db) (driver-rulings J r i)))

region-rulings : (db : List Domain) (J : Journal) (r : ℕ) → region_of db (rulings J) r ≡ region_of db J r
region-rulings db J r = λ i. common_region (map (λ (d : Domain). d.region) ((if managed-rulings J r i then [] else global-rulings db J i)
    ++ option_to_list (option_and_then (find_domain db) (driver-rulings J r i))))

radios-rulings : (J : Journal) → radios_of (rulings J) ≡ radios_of J
radios-rulings J = λ i. filter (λ r. is_some (profile-rulings J r i)) (0 ∷ 1 ∷ 2 ∷ 3 ∷ 4 ∷ 5 ∷ 6 ∷ 7 ∷ [])

lists-rulings : (db : List Domain) (J : Journal) → all_lists db (rulings J) ≡ all_lists db J
lists-rulings db J = λ i. global-rulings db J i ∷ map (λ r. applies-rulings db J r i) (radios-rulings J i)

-- ---- why a request is refused

pub add_causes : (J : Journal) (r : ℕ) (P : (Refusal → Type 0) → Type 0) → P (RadioAddCauses J r) → P (RadioAddCauses (rulings J) r)
add_causes J r P is = subst (λ b. P (Where (b ≡ Bool.true) (SlotUsed r))) (sym (used-rulings J r)) is

pub radio_causes : (J : Journal) (r : ℕ) (P : (Refusal → Type 0) → Type 0) → P (LacksRadio J r) → P (LacksRadio (rulings J) r)
radio_causes J r P is = subst (λ o. P (Where (o ≡ None) (NoRadio r))) (sym (profile-rulings J r)) is

pub rules_causes : (db : List Domain) (J : Journal) (r : ℕ) (rules : List Rule) (P : (Refusal → Type 0) → Type 0) → P (RulesCauses db J r rules) → P (RulesCauses db (rulings J) r rules)
rules_causes db J r rules P is =
    radio_causes J r (λ lacks. P (lacks before Where (32 < length rules) (TooManyRules (length rules)) before Where (rules ≡ []) NoRules
    before (λ e. (k : ℕ) × IsFirst (IsInvalidAt rules) k × (e ≡ BadRule k)) before RowCauses (applies db (rules_are r rules ∷ rulings J) r ∷ [])))
    (subst (λ ds. P (LacksRadio J r before Where (32 < length rules) (TooManyRules (length rules)) before Where (rules ≡ []) NoRules
    before (λ e. (k : ℕ) × IsFirst (IsInvalidAt rules) k × (e ≡ BadRule k)) before RowCauses (ds ∷ []))) (sym (applies-rulings db (rules_are r rules ∷ J) r)) is)

fifth_causes : (J : Journal) (hint : Hinted) (P : Type 0 → Type 0) → P (AddsFifthCode J hint) → P (AddsFifthCode (rulings J) hint)
fifth_causes J (Treated hint) P is = subst (λ state. P (IsOneTooMany state hint)) (sym (hints-rulings J)) is
fifth_causes J (Own r a) P is = is

pub hint_causes : (db : List Domain) (J : Journal) (hint : Hinted) (P : (Refusal → Type 0) → Type 0) → P (HintCauses db J hint) → P (HintCauses db (rulings J) hint)
hint_causes db J hint P is =
    fifth_causes J hint (λ adds. P (Where (find_domain db (code_of_hint hint) ≡ None) (NoCountry (code_of_hint hint)) before Where adds TooManyDomains
    before RowCauses (all_lists db (hinted hint ∷ rulings J))))
    (subst (λ lists. P (Where (find_domain db (code_of_hint hint) ≡ None) (NoCountry (code_of_hint hint)) before Where (AddsFifthCode J hint) TooManyDomains
    before RowCauses lists)) (sym (lists-rulings db (hinted hint ∷ J))) is)

-- ---- sections

zip_along : {X Y : Type 0} (P Q : X → Y → Type 0) → ((x : X) (y : Y) → P x y → Q x y) → (xs : List X) (ys : List Y) → AllZip P xs ys → AllZip Q xs ys
zip_along P Q to [] [] all = tt
zip_along P Q to [] (y ∷ ys) all = absurd all
zip_along P Q to (x ∷ xs) [] all = absurd all
zip_along P Q to (x ∷ xs) (y ∷ ys) (first, all) = (to x y first, zip_along P Q to xs ys all)

section_along : (radio : Option ℕ) (ds es : List Domain) (one other : Region) (section : Section) → ds ≡ es → one ≡ other → IsSection radio ds one section → IsSection radio es other section
section_along radio ds es one other section same region is = subst (λ xs. IsSection radio xs other section) same (subst (λ x. IsSection radio ds x section) region is)

own-rulings : (J : Journal) → filter (has_own_list (rulings J)) (radios_of (rulings J)) ≡ filter (has_own_list J) (radios_of J)
own-rulings J = λ i. filter (λ r. is_some (custom-rulings J r i) || (is_some (driver-rulings J r i) || managed-rulings J r i)) (radios-rulings J i)

pub sections_to : (db : List Domain) (J : Journal) (sections : List Section) → AreSections db J sections → AreSections db (rulings J) sections
sections_to db J [] are = are
sections_to db J (section ∷ sections) (global, each) = (
  section_along None _ _ _ _ section (sym (global-rulings db J)) (ap (λ ds. common_region (map (λ (d : Domain). d.region) ds)) (sym (global-rulings db J))) global,
  subst (λ rs. AllZip (IsRadioSection db (rulings J)) rs sections) (sym (own-rulings J))
      (zip_along (IsRadioSection db J) (IsRadioSection db (rulings J)) (λ r s is. section_along (Some r) _ _ _ _ s (sym (applies-rulings db J r)) (sym (region-rulings db J r)) is) _ sections each),
)

pub sections_from : (db : List Domain) (J : Journal) (sections : List Section) → AreSections db (rulings J) sections → AreSections db J sections
sections_from db J [] are = are
sections_from db J (section ∷ sections) (global, each) = (
  section_along None _ _ _ _ section (global-rulings db J) (ap (λ ds. common_region (map (λ (d : Domain). d.region) ds)) (global-rulings db J)) global,
  subst (λ rs. AllZip (IsRadioSection db J) rs sections) (own-rulings J)
      (zip_along (IsRadioSection db (rulings J)) (IsRadioSection db J) (λ r s is. section_along (Some r) _ _ _ _ s (applies-rulings db J r) (region-rulings db J r) is) _ sections each),
)
