-- A collection's record reads as the domain that it was written for.
use Rattle.std.proofs.Common.{◌≡◌, ℕ, zero, suc, ◌+◌, ◌*◌, ◌/◌, ◌<◌, ◌≤◌, List, [], ◌∷◌, length, map, flat_map, get_or, slice_index_or, All, refl, sym, ap, ◌∙◌, subst, arith}
use Rattle.std.proofs.lemmas.List.{length-map}
use Rattle.std.proofs.lemmas.List.Elements.{All-head, All-tail}
use Rattle.freq_range.specs.declared.rule.Rule.{Rule}
use Rattle.rule_tables.specs.Databases.{IsDomain}
use Rattle.rule_tables.specs.FileFormat.{target_at, pointers_of, RuleAt, RulesAt, CollectionAt}
use Rattle.rule_tables.specs.declared.domain.Domain.{Domain}
use Rattle.db_writer.specs.Records.{be16, collection_padding, collection_bytes}
use Rattle.db_writer.specs.LaidOut.{collection_record}
use Rattle.db_writer.proofs.Holds.{Holds, Holds-front, Holds-back, Holds-cell, Holds-rest, Holds-be16, length-be16}
use Rattle.db_writer.proofs.Lengths.{length-pointers}
use Rattle.db_writer.proofs.Repeats.{keeps_all}

-- a pointer can name the rule's place, and the rule is read there
pub record RuleStands (b : List ℕ) (rule_at : Rule → ℕ) (r : Rule) : Type 0 where
  pub in_reach : rule_at r ≤ 65535
  pub there : RuleAt b (4 * rule_at r) r

-- the pointers from place i on lead to the rules
rules_read : (b : List ℕ) (i : ℕ) (rule_at : Rule → ℕ) (rs : List Rule) → Holds b i (flat_map be16 (map rule_at rs)) → All (RuleStands b rule_at) rs →
    (k : ℕ) (d : Rule) → k < length rs → (j : ℕ) → j ≡ i + 2 * k → RuleAt b (target_at b j) (slice_index_or rs k d)
rules_read b i rule_at [] h stand k d lt j e = absurd (omega arith)
rules_read b i rule_at (r ∷ rs) h stand zero d lt j e =
    let one = All-head (RuleStands b rule_at) r rs stand in
    let here = Holds-be16 b i (rule_at r) (omega (arith, one.in_reach)) (Holds-front b i (be16 (rule_at r)) (flat_map be16 (map rule_at rs)) h) in
    let target : target_at b j ≡ 4 * rule_at r = ap (target_at b) (let same : j ≡ i = omega arith in same) ∙ ap (λ n. 4 * n) here in
    subst (λ n. RuleAt b n r) (sym target) one.there
rules_read b i rule_at (r ∷ rs) h stand (suc k) d lt j e =
    let rest = Holds-back b i (i + 2) (be16 (rule_at r)) (flat_map be16 (map rule_at rs)) (omega (arith, length-be16 (rule_at r))) h in
    rules_read b (i + 2) rule_at rs rest (All-tail (RuleStands b rule_at) r rs stand) k d (omega arith) j (omega arith)

pub collection_reads : (b : List ℕ) (i : ℕ) (rule_at : Rule → ℕ) (d : Domain) → IsDomain d → All (RuleStands b rule_at) d.rules → Holds b i (collection_bytes (collection_record rule_at d)) →
    CollectionAt b i d.region d.rules
unfolding collection_bytes collection_record
collection_reads b i rule_at d domain stand h =
    let places = map rule_at d.rules in
    let count : length places ≡ length d.rules = length-map d.rules rule_at in
    let len : get_or b i 0 ≡ 3 = Holds-cell b i _ _ h in
    let h1 = Holds-rest b i (i + 1) _ _ refl h in
    let count_byte : get_or b (i + 1) 0 ≡ length d.rules = Holds-cell b (i + 1) _ _ h1 ∙ count in
    let h2 = Holds-rest b (i + 1) (i + 2) _ _ (omega arith) h1 in
    let region = Holds-cell b (i + 2) _ _ h2 in
    let h3 = Holds-rest b (i + 2) (i + 3) _ _ (omega arith) h2 in
    let h4 = Holds-rest b (i + 3) (i + 4) _ _ (omega arith) h3 in
    let hp = Holds-front b (i + 4) (flat_map be16 places) (collection_padding (length places)) h4 in
    let from : pointers_of b i ≡ i + 4 = ap (λ n. i + (n + 1) / 2 * 2) len in
    let few = domain.rules.few in
    let some = domain.rules.some in
    let reads : RulesAt b (i + 4) d.rules = λ k e lt. rules_read b (i + 4) rule_at d.rules hp stand k e lt (i + 4 + 2 * k) refl in
    record {
      long = omega arith;
      in_file = omega (arith, hp.in_range);
      some = omega arith;
      few = omega arith;
      region_byte = region;
      pointers_in_file = omega (arith, hp.in_range, length-pointers places, count);
      rules_read = (
        d.rules,
        sym count_byte,
        subst (λ j. RulesAt b j d.rules) (sym from) reads,
        keeps_all d.rules domain.distinct,
      );
    }
