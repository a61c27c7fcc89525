-- Where the last collection is in reach of a pointer, so is each record, and the file can be written.
use Rattle.std.proofs.Common.{◌≡◌, ℕ, ◌+◌, ◌-◌, ◌<◌, ◌≤◌, ◌++◌, List, length, take, flat_map, get_or, All, Contains, IfSome, Option, Some, None, option_map, sum_by, refl, sym, ap, ◌∙◌, subst, arith}
use Rattle.std.proofs.lemmas.List.{length-map, take-take}
use Rattle.std.proofs.lemmas.List.Elements.{All-contains, All-map, Contains-get_or}
use Rattle.std.proofs.lemmas.List.Sums.{sum_by-le, sum_by_more_le, sum_by-take-le}
use Rattle.freq_range.specs.declared.rule.Rule.{Rule}
use Rattle.freq_range.specs.declared.wmm.Wmm.{Wmm}
use Rattle.rule_tables.specs.Databases.{IsDb, IsDomain}
use Rattle.rule_tables.specs.declared.domain.Domain.{Domain}
use Rattle.db_writer.specs.Order.{IsFileSection, place_in}
use Rattle.db_writer.specs.Records.{be32, wmm_bytes, rule_key, rule_words, rule_bytes, collection_key, collection_words, collection_bytes}
use Rattle.db_writer.specs.LaidOut.{Sections, AreFileSections, UsesRule, UsesCollection, IsRuleInUse, wmm_place, rule_record, place_of_rule, collection_record, collection_place, first_wmm, first_rule, first_collection, wmm_at, rule_at, collection_at, last_collection, domain_entry, file}
use Rattle.db_writer.specs.inner.Fits.{RuleFits, CollectionFits}
use Rattle.db_writer.specs.inner.Filed.{wmm_at_in, rule_at_in, AreFiled}
use Rattle.db_writer.specs.inner.Planned.{sections_in, IsPlanOf, IsDomainPlanned, CanBeWritten, planned_collection, planned_file}
use Rattle.db_writer.specs.declared.plan.Plan.{Plan}
use Rattle.db_writer.specs.declared.records.CollectionRecord.{CollectionRecord}
use Rattle.db_writer.specs.declared.records.RuleRecord.{RuleRecord}
use Rattle.db_writer.proofs.Found.{Ascends, those_before}
use Rattle.db_writer.proofs.Uses.{all_filed}

-- the place of the record number k
pub place_at : {X : Type 0} (key : X → List ℕ) (words : X → ℕ) (first : ℕ) (xs : List X) (x : X) (k : ℕ) → Ascends key xs → k < length xs → get_or xs k x ≡ x →
    place_in key words first xs x ≡ first + sum_by words (take k xs)
place_at key words first xs x k up within is =
    ap (place_in key words first xs) (sym is) ∙ ap (λ ys. first + sum_by words ys) (those_before key xs k x up within)

-- a record of a section lies within it
pub place_within : {X : Type 0} (key : X → List ℕ) (words : X → ℕ) (first : ℕ) (xs : List X) (x : X) → Ascends key xs → Contains xs x →
    place_in key words first xs x + words x ≤ first + sum_by words xs
place_within key words first xs x up (k, within, is) =
    let at = place_at key words first xs x k up within is in
    let more = sum_by_more_le words xs k x within in
    let same : words (get_or xs k x) ≡ words x = ap words is in
    omega (arith, at, more, same)

-- no record of a section stands behind its last one
pub place_up_to_last : {X : Type 0} (key : X → List ℕ) (words : X → ℕ) (first : ℕ) (xs : List X) (x : X) → Ascends key xs → Contains xs x →
    place_in key words first xs x ≤ first + sum_by words (take (length xs - 1) xs)
place_up_to_last key words first xs x up (k, within, is) =
    let at = place_at key words first xs x k up within is in
    let upto = sum_by-take-le words (take (length xs - 1) xs) k in
    let cut : take k (take (length xs - 1) xs) ≡ take k xs = take-take k (length xs - 1) xs (omega arith) in
    let same = ap (sum_by words) cut in
    omega (arith, at, upto, same)

-- the sections in their order
rules_before : (ds : List Domain) (s : Sections) → first_rule ds s ≤ last_collection ds s
rules_before ds s = omega arith

pub wmm_in_reach : (ds : List Domain) (s : Sections) (r : Rule) (o : Option Wmm) → AreFileSections ds s → r.wmm ≡ o → IsRuleInUse ds r → last_collection ds s ≤ 65535 →
    IfSome (option_map (wmm_at ds s) o) (λ place. place ≤ 65535)
unfolding wmm_place
wmm_in_reach ds s r None sections e has small = tt
wmm_in_reach ds s r (Some w) sections e has small =
    let there = (sections.wmm_rules.exactly (wmm_bytes w)).1 (r, w, has, e, refl) in
    let within = place_within (λ bytes. bytes) (λ bytes. 8) (first_wmm ds) s.wmm_rules (wmm_bytes w) sections.wmm_rules.ascending there in
    let all = sum_by-le (λ bytes. 8) 8 s.wmm_rules (λ k d lt. omega arith) in
    omega (arith, within, all, small)

rule_fits : (ds : List Domain) (s : Sections) (x : RuleRecord) → AreFileSections ds s → UsesRule (wmm_at ds s) ds x → last_collection ds s ≤ 65535 → RuleFits x
unfolding rule_record
rule_fits ds s x sections (r, has, is) small = subst RuleFits (sym is) (wmm_in_reach ds s r r.wmm sections refl has small)

pub rule_in_reach : (ds : List Domain) (s : Sections) (r : Rule) → AreFileSections ds s → IsRuleInUse ds r → last_collection ds s ≤ 65535 → rule_at ds s r ≤ 65535
unfolding place_of_rule
rule_in_reach ds s r sections has small =
    let there = (sections.rules.exactly (rule_record (wmm_at ds s) r)).1 (r, has, refl) in
    let within = place_within rule_key rule_words (first_rule ds s) s.rules (rule_record (wmm_at ds s) r) sections.rules.ascending there in
    omega (arith, within, small)

collection_fits : (ds : List Domain) (s : Sections) (c : CollectionRecord) → All IsDomain ds → AreFileSections ds s → UsesCollection (rule_at ds s) ds c → last_collection ds s ≤ 65535 → CollectionFits c
unfolding collection_record
collection_fits ds s c all sections (d, among, is) small =
    let few = (All-contains IsDomain ds d all among).rules.few in
    let len = length-map d.rules (rule_at ds s) in
    let reach : All (λ r. rule_at ds s r ≤ 65535) d.rules = λ k r lt. rule_in_reach ds s _ sections (d, among, Contains-get_or d.rules k r lt) small in
    subst CollectionFits (sym is) (omega (arith, few, len), All-map (λ place. place ≤ 65535) (rule_at ds s) d.rules reach)

pub collection_in_reach : (ds : List Domain) (s : Sections) (d : Domain) → AreFileSections ds s → Contains ds d → last_collection ds s ≤ 65535 → collection_at ds s d ≤ 65535
unfolding collection_place
collection_in_reach ds s d sections among small =
    let there = (sections.collections.exactly (collection_record (rule_at ds s) d)).1 (d, among, refl) in
    let upto = place_up_to_last collection_key collection_words (first_collection ds s) s.collections (collection_record (rule_at ds s) d) sections.collections.ascending there in
    omega (arith, upto, small)

-- the places of the plan are those of the file
same_wmm : (ds : List Domain) (p : Plan) → IsPlanOf ds p → wmm_at_in p.rules ≡ wmm_at ds (sections_in p)
same_wmm ds p plan = λ i. wmm_place (plan.wmm_first i) p.rules.wmm_rules.records.items

same_rule : (ds : List Domain) (p : Plan) → IsPlanOf ds p → rule_at_in p.rules ≡ rule_at ds (sections_in p)
same_rule ds p plan = λ i. place_of_rule (same_wmm ds p plan i) (plan.rule_first i) p.rules.rules.records.items

same_collection : (ds : List Domain) (p : Plan) → IsPlanOf ds p → planned_collection p ≡ collection_at ds (sections_in p)
same_collection ds p plan = λ i. collection_place (same_rule ds p plan i) (plan.collection_first i) p.collections.records.items

pub same_file : (ds : List Domain) (p : Plan) → IsPlanOf ds p → planned_file ds p ≡ file ds (sections_in p)
unfolding planned_file file
same_file ds p plan =
    ap (λ place. be32 0x52474442 ++ (be32 20 ++ (flat_map (domain_entry place) ds ++ (be32 0
    ++ (flat_map (λ bytes. bytes) p.rules.wmm_rules.records.items ++ (flat_map rule_bytes p.rules.rules.records.items ++ flat_map collection_bytes p.collections.records.items))))))
    (same_collection ds p plan)

is_ready : (ds : List Domain) (p : Plan) (d : Domain) → All IsDomain ds → IsPlanOf ds p → last_collection ds (sections_in p) ≤ 65535 → Contains ds d → IsDomainPlanned p d
is_ready ds p d all plan small among =
    let s = sections_in p in
    let rules = subst (λ f. IsFileSection rule_key (UsesRule f ds) s.rules) (sym (same_wmm ds p plan)) plan.sections.rules in
    record {
      domain = All-contains IsDomain ds d all among;
      filed = All-contains (AreFiled p.rules) ds d (all_filed ds p.rules plan.sections.wmm_rules rules) among;
      there = subst (λ f. Contains s.collections (collection_record f d)) (sym (same_rule ds p plan)) ((plan.sections.collections.exactly _).1 (d, among, refl));
      in_reach = subst (λ f. f d ≤ 65535) (sym (same_collection ds p plan)) (collection_in_reach ds s d plan.sections among small);
    }

pub can_be_written : (ds : List Domain) (p : Plan) → IsDb ds → IsPlanOf ds p → last_collection ds (sections_in p) ≤ 65535 → CanBeWritten ds p
can_be_written ds p db plan small =
    let s = sections_in p in
    record {
      ready = λ k d within. is_ready ds p _ db.each plan small (Contains-get_or ds k d within);
      rules = λ k x within. rule_fits ds s _ plan.sections ((plan.sections.rules.exactly _).0 (Contains-get_or s.rules k x within)) small;
      collections = λ k c within. collection_fits ds s _ db.each plan.sections ((plan.sections.collections.exactly _).0 (Contains-get_or s.collections k c within)) small;
    }
