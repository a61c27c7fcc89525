-- What the writer gathers is what is in use, and what is looked up in a section is there.
use Rattle.std.proofs.Common.{◌≡◌, ◌↔◌, ◌==◌, ℕ, zero, suc, true, false, if◌then◌else◌, ◌*◌, ◌≤◌, List, length, map, flat_map, get_or, All, Contains, IfSome, Option, Some, None, option_map, option_to_list, refl, sym, subst, arith}
use Rattle.std.proofs.lemmas.List.{length-map}
use Rattle.std.proofs.lemmas.List.Elements.{All-contains, Contains-get_or}
use Rattle.freq_range.specs.declared.rule.Rule.{Rule}
use Rattle.freq_range.specs.declared.wmm.Wmm.{Wmm}
use Rattle.rule_tables.specs.Databases.{IsDomain}
use Rattle.rule_tables.specs.declared.domain.Domain.{Domain}
use Rattle.db_writer.specs.Order.{IsFileSection}
use Rattle.db_writer.specs.Records.{wmm_bytes, rule_key, rule_words, rule_length, collection_words}
use Rattle.db_writer.specs.LaidOut.{UsesWmm, UsesRule, UsesCollection, IsRuleInUse, rule_record, collection_record}
use Rattle.db_writer.specs.inner.Gathered.{wmm_rules_of_rule, wmm_of_domain, records_of_domain, HasWmmAmong}
use Rattle.db_writer.specs.inner.Filed.{wmm_at_in, AreFiled}
use Rattle.db_writer.specs.declared.gather.RuleSections.{RuleSections}
use Rattle.db_writer.specs.declared.records.CollectionRecord.{CollectionRecord}
use Rattle.db_writer.specs.declared.records.RuleRecord.{RuleRecord}
use Rattle.db_writer.proofs.Members.{from_flat_map, into_flat_map, from_map, into_map, flat_map-few}

-- a section of what was gathered is one of what is in use
pub section_of_used : {X : Type 0} (key : X → List ℕ) (gathered xs : List X) (InUse : X → Type 0) → ((x : X) → Contains gathered x ↔ InUse x) →
    IsFileSection key (Contains gathered) xs → IsFileSection key InUse xs
section_of_used key gathered xs InUse same section = record {
  ascending = section.ascending;
  exactly = λ x. ((λ h. (same x).0 ((section.exactly x).0 h)), (λ h. (section.exactly x).1 ((same x).1 h)));
}

from_option : (r : Rule) (o : Option Wmm) (bytes : List ℕ) → r.wmm ≡ o → Contains (option_to_list (option_map wmm_bytes o)) bytes → (w : Wmm) × (r.wmm ≡ Some w) × (bytes ≡ wmm_bytes w)
from_option r None bytes e (k, within, is) = absurd (omega arith)
from_option r (Some w) bytes e (zero, within, is) = (w, e, sym is)
from_option r (Some w) bytes e (suc k, within, is) = absurd (omega arith)

-- the WMM rules that are gathered are those in use
pub wmm_used : (ds : List Domain) (bytes : List ℕ) → Contains (flat_map wmm_of_domain ds) bytes ↔ UsesWmm ds bytes
wmm_used ds bytes = (
  (λ h.
      let (d, among, has) = from_flat_map wmm_of_domain ds bytes h in
      let (r, has_rule, has_wmm) = from_flat_map wmm_rules_of_rule d.rules bytes has in
      let (w, is, same) = from_option r r.wmm bytes refl has_wmm in
      (r, w, (d, among, has_rule), is, same)),
  (λ (r, w, (d, among, has_rule), is, same).
      let here : Contains (wmm_rules_of_rule r) bytes = rw is (zero, omega arith, sym same) in
      into_flat_map wmm_of_domain ds d bytes among (into_flat_map wmm_rules_of_rule d.rules r bytes has_rule here)),
)

-- the records of rules that are gathered are those in use
pub rules_used : (wmm_at : Wmm → ℕ) (ds : List Domain) (x : RuleRecord) → Contains (flat_map (records_of_domain wmm_at) ds) x ↔ UsesRule wmm_at ds x
rules_used wmm_at ds x = (
  (λ h.
      let (d, among, has) = from_flat_map (records_of_domain wmm_at) ds x h in
      let (r, has_rule, same) = from_map (rule_record wmm_at) d.rules x has in
      (r, (d, among, has_rule), same)),
  (λ (r, (d, among, has_rule), same).
      into_flat_map (records_of_domain wmm_at) ds d x among (subst (Contains (records_of_domain wmm_at d)) (sym same) (into_map (rule_record wmm_at) d.rules r has_rule))),
)

-- the records of collections that are gathered are those in use
pub collections_used : (rule_at : Rule → ℕ) (ds : List Domain) (c : CollectionRecord) → Contains (map (collection_record rule_at) ds) c ↔ UsesCollection rule_at ds c
collections_used rule_at ds c = (
  (λ h. from_map (collection_record rule_at) ds c h),
  (λ (d, among, same). subst (Contains (map (collection_record rule_at) ds)) (sym same) (into_map (collection_record rule_at) ds d among)),
)

has_wmm : (r : Rule) (o : Option Wmm) (ds : List Domain) (wmm_rules : List (List ℕ)) → r.wmm ≡ o → IsRuleInUse ds r → IsFileSection (λ bytes. bytes) (UsesWmm ds) wmm_rules →
    IfSome o (λ w. Contains wmm_rules (wmm_bytes w))
has_wmm r None ds wmm_rules e has section = tt
has_wmm r (Some w) ds wmm_rules e has section = (section.exactly (wmm_bytes w)).1 (r, w, has, e, refl)

-- the WMM rule of each rule is in the section
pub all_have_wmm : (ds : List Domain) (wmm_rules : List (List ℕ)) → IsFileSection (λ bytes. bytes) (UsesWmm ds) wmm_rules → All (λ d. All (HasWmmAmong wmm_rules) d.rules) ds
all_have_wmm ds wmm_rules section = λ k d within j r lt.
    has_wmm _ _ ds wmm_rules refl (get_or ds k d, Contains-get_or ds k d within, Contains-get_or (get_or ds k d).rules j r lt) section

-- the record of each rule is in its section
pub all_filed : (ds : List Domain) (s : RuleSections) → IsFileSection (λ bytes. bytes) (UsesWmm ds) s.wmm_rules.records.items →
    IsFileSection rule_key (UsesRule (wmm_at_in s) ds) s.rules.records.items → All (AreFiled s) ds
all_filed ds s wmm_section rule_section = λ k d within. record {
  each = λ j r lt. record {
    wmm = all_have_wmm ds s.wmm_rules.records.items wmm_section k d within j r lt;
    rule = (rule_section.exactly _).1 (get_or (get_or ds k d).rules j r, (get_or ds k d, Contains-get_or ds k d within, Contains-get_or (get_or ds k d).rules j r lt), refl);
  };
}

rule_length-le : (seconds : ℕ) (wmm : Option ℕ) → rule_length seconds wmm ≤ 20
rule_length-le seconds None = elim (seconds == 0) as (λ t. (if t then 16 else 18) ≤ 20) [ true ↦ omega arith | false ↦ omega arith ]
rule_length-le seconds (Some place) = omega arith

-- a rule takes at most 5 words
pub rule_words-le : (x : RuleRecord) → rule_words x ≤ 65
unfolding rule_words
rule_words-le x = let small = rule_length-le x.cac_s x.wmm in omega (arith, small)

-- a collection of at most 128 rules takes at most 65 words
pub collections-short : (rule_at : Rule → ℕ) (ds : List Domain) → All IsDomain ds → All (λ c. collection_words c ≤ 65) (map (collection_record rule_at) ds)
unfolding collection_words collection_record
collections-short rule_at ds all = λ k c within.
    let (d, among, same) = from_map (collection_record rule_at) ds _ (Contains-get_or (map (collection_record rule_at) ds) k c within) in
    let few = (All-contains IsDomain ds d all among).rules.few in
    let len : length (map rule_at d.rules) ≡ length d.rules = length-map d.rules rule_at in
    subst (λ x. collection_words x ≤ 65) (sym same) (omega (arith, few, len))

wmm_of_one : (o : Option Wmm) → length (option_to_list (option_map wmm_bytes o)) ≤ 1
wmm_of_one None = omega arith
wmm_of_one (Some w) = omega arith

wmm_of_few : (d : Domain) → IsDomain d → length (wmm_of_domain d) ≤ 128
wmm_of_few d domain =
    let few = domain.rules.few in
    let all = flat_map-few wmm_rules_of_rule 1 d.rules (λ j r lt. wmm_of_one _) in
    omega (arith, few, all)

pub wmm-few : (ds : List Domain) → All IsDomain ds → length (flat_map wmm_of_domain ds) ≤ length ds * 128
wmm-few ds all = flat_map-few wmm_of_domain 128 ds (λ k d within. wmm_of_few _ (all k d within))

pub rules-few : (wmm_at : Wmm → ℕ) (ds : List Domain) → All IsDomain ds → length (flat_map (records_of_domain wmm_at) ds) ≤ length ds * 128
rules-few wmm_at ds all = flat_map-few (records_of_domain wmm_at) 128 ds (λ k d within. let few = (all k d within).rules.few in let len = length-map (get_or ds k d).rules (rule_record wmm_at) in omega (arith, few, len))
