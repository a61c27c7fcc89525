-- The file of a database reads as the database.
use Rattle.std.proofs.Common.{◌≡◌, ℕ, suc, ◌+◌, ◌*◌, ◌<◌, ◌≤◌, List, [], ◌∷◌, length, get_or, flat_map, slice_index_or, All, Contains, IfSome, Option, Some, None, refl, sym, ◌∙◌, subst, inl, inr, arith}
use Rattle.std.proofs.lemmas.List.Elements.{All-contains, Contains-get_or}
use Rattle.freq_range.specs.First.{IsFirst}
use Rattle.freq_range.specs.Valid.{IsValidRule}
use Rattle.freq_range.specs.declared.rule.Rule.{Rule}
use Rattle.freq_range.specs.declared.wmm.Wmm.{Wmm}
use Rattle.rule_tables.specs.Databases.{IsDb, IsDomain}
use Rattle.rule_tables.specs.FileFormat.{u16_at, EndsAt, AreEntries, ReadsAs}
use Rattle.rule_tables.specs.declared.domain.Domain.{Domain}
use Rattle.db_writer.specs.Order.{place_in}
use Rattle.db_writer.specs.Records.{be32, wmm_bytes, rule_key, rule_words, rule_bytes, collection_key, collection_words, collection_bytes}
use Rattle.db_writer.specs.LaidOut.{Sections, AreFileSections, IsRuleInUse, wmm_place, rule_record, place_of_rule, collection_record, collection_place, first_wmm, first_rule, first_collection, wmm_at, rule_at, collection_at, last_collection, domain_entry, file}
use Rattle.db_writer.proofs.Holds.{Holds, Holds-whole, Holds-front, Holds-back, Holds-be32, Holds-piece, length-be32, length-pieces, sum_by-eights}
use Rattle.db_writer.proofs.Lengths.{length-wmm_bytes, length-rule_bytes, length-collection_bytes}
use Rattle.db_writer.proofs.Found.{Ascends}
use Rattle.db_writer.proofs.Reach.{place_at, wmm_in_reach, rule_in_reach, collection_in_reach}
use Rattle.db_writer.proofs.Rules.{IsWritten, rule_reads}
use Rattle.db_writer.proofs.Collections.{RuleStands, collection_reads}
use Rattle.db_writer.proofs.Entries.{Stands, CollectionStands, entries_read, length-entries, code_at}

-- each entry stands at its place
abbrev AllStand : List ℕ → List Domain → Type 0
AllStand b ds = (k : ℕ) (d : Domain) → k < length ds → (i : ℕ) → i ≡ 8 + 4 * k → Stands b i (slice_index_or ds k d)

are_entries : (b : List ℕ) (ds : List Domain) → IsDb ds → AllStand b ds → AreEntries b (length ds) ds
are_entries b [] db stand = record {
  each = λ k lt. absurd (omega arith);
  all = λ k d lt. absurd (omega arith);
  once = λ j k lt within. absurd (omega arith);
}
are_entries b (x ∷ xs) db stand = record {
  each = λ k lt. (get_or (x ∷ xs) k x, Contains-get_or (x ∷ xs) k x lt, (stand k x lt (8 + 4 * k) refl).entry);
  all = λ k d lt. (k, lt, (stand k d lt (8 + 4 * k) refl).entry);
  once = λ j k lt within same.
      let left = code_at b (8 + 4 * j) _ (stand j x (omega arith) (8 + 4 * j) refl).entry in
      let right = code_at b (8 + 4 * k) _ (stand k x within (8 + 4 * k) refl).entry in
      let less = db.ascending j k x lt within in
      let same_key = sym left ∙ same ∙ right in
      absurd (omega (arith, less, same_key));
}

-- four zero bytes hold a pointer that is 0
zero_pointer : (b : List ℕ) (i : ℕ) → Holds b i (be32 0) → u16_at b (i + 2) ≡ 0
unfolding be32
zero_pointer b i zeros =
    let high : get_or b (i + 2) 0 ≡ 0 = zeros.each 2 (omega arith) in
    let low : get_or b (i + 3) 0 ≡ 0 = zeros.each 3 (omega arith) in
    let next : suc (i + 2) ≡ i + 3 = omega arith in
    rw (next, high, low) refl

-- no entry before the zero bytes is an end
goes_on : (b : List ℕ) (i j : ℕ) (d : Domain) → j < i → Holds b (8 + 4 * i) (be32 0) → Stands b (8 + 4 * j) d → EndsAt b j → ⊥
goes_on b i j d lt zeros stands (inl short) = omega (arith, zeros.in_range)
goes_on b i j d lt zeros stands (inr zero_there) = omega (arith, stands.pointer)

-- the entries end where the zero bytes stand
ends_first : (b : List ℕ) (ds : List Domain) → AllStand b ds → Holds b (8 + 4 * length ds) (be32 0) → IsFirst (EndsAt b) (length ds)
ends_first b [] stand zeros = record {
  here = inr (zero_pointer b 8 zeros);
  none_before = λ j lt e. omega arith;
}
ends_first b (x ∷ xs) stand zeros = record {
  here = inr (zero_pointer b (8 + 4 * length (x ∷ xs)) zeros);
  none_before = λ j lt e. goes_on b (length (x ∷ xs)) j _ lt zeros (stand j x lt (8 + 4 * j) refl) e;
}

-- the sections of records stand in b where they should
pub record HoldsSections (b : List ℕ) (ds : List Domain) (s : Sections) : Type 0 where
  pub wmm_rules : Holds b (4 * first_wmm ds) (flat_map (λ bytes. bytes) s.wmm_rules)
  pub rules : Holds b (4 * first_rule ds s) (flat_map rule_bytes s.rules)
  pub collections : Holds b (4 * first_collection ds s) (flat_map collection_bytes s.collections)

-- the bytes of a record stand at its place
record_there : {X : Type 0} (key : X → List ℕ) (words : X → ℕ) (bytes : X → List ℕ) (b : List ℕ) (first : ℕ) (xs : List X) (x : X) →
    Ascends key xs → Contains xs x → All (λ y. length (bytes y) ≡ 4 * words y) xs → Holds b (4 * first) (flat_map bytes xs) → Holds b (4 * place_in key words first xs x) (bytes x)
record_there key words bytes b first xs x up (k, within, is) lengths h =
    let at = place_at key words first xs x k up within is in
    subst (λ y. Holds b (4 * place_in key words first xs x) (bytes y)) is (Holds-piece bytes words b first (place_in key words first xs x) xs k x h lengths within at)

wmm_lengths : (ds : List Domain) (s : Sections) → AreFileSections ds s → All (λ bytes. length bytes ≡ 4 * 8) s.wmm_rules
wmm_lengths ds s sections = λ k d within.
    let (r, w, has, some, is) = (sections.wmm_rules.exactly _).0 (Contains-get_or s.wmm_rules k d within) in
    subst (λ bytes. length bytes ≡ 4 * 8) (sym is) (length-wmm_bytes w)

wmm_stands : (b : List ℕ) (ds : List Domain) (s : Sections) (r : Rule) (o : Option Wmm) → HoldsSections b ds s → AreFileSections ds s → last_collection ds s ≤ 65535 → IsRuleInUse ds r → r.wmm ≡ o →
    IfSome o (IsWritten b (wmm_at ds s))
unfolding wmm_place
wmm_stands b ds s r None holds sections small has e = tt
wmm_stands b ds s r (Some w) holds sections small has e =
    let there = (sections.wmm_rules.exactly (wmm_bytes w)).1 (r, w, has, e, refl) in
    record {
      in_reach = wmm_in_reach ds s r (Some w) sections e has small;
      there = record_there (λ bytes. bytes) (λ bytes. 8) (λ bytes. bytes) b (first_wmm ds) s.wmm_rules (wmm_bytes w) sections.wmm_rules.ascending there (wmm_lengths ds s sections) holds.wmm_rules;
    }

rule_stands : (b : List ℕ) (ds : List Domain) (s : Sections) (d : Domain) (r : Rule) → IsDomain d → HoldsSections b ds s → AreFileSections ds s → last_collection ds s ≤ 65535 →
    Contains ds d → Contains d.rules r → RuleStands b (rule_at ds s) r
unfolding place_of_rule
rule_stands b ds s d r domain holds sections small among has =
    let there = (sections.rules.exactly (rule_record (wmm_at ds s) r)).1 (r, (d, among, has), refl) in
    let bytes = record_there rule_key rule_words rule_bytes b (first_rule ds s) s.rules (rule_record (wmm_at ds s) r) sections.rules.ascending there (λ k x lt. length-rule_bytes _) holds.rules in
    let valid = All-contains IsValidRule d.rules r domain.rules.each has in
    record {
      in_reach = rule_in_reach ds s r sections (d, among, has) small;
      there = rule_reads b (4 * rule_at ds s r) (wmm_at ds s) r valid (wmm_stands b ds s r r.wmm holds sections small (d, among, has) refl) bytes;
    }

collection_stands : (b : List ℕ) (ds : List Domain) (s : Sections) (d : Domain) → IsDomain d → HoldsSections b ds s → AreFileSections ds s → last_collection ds s ≤ 65535 →
    Contains ds d → CollectionStands b (collection_at ds s) d
unfolding collection_place
collection_stands b ds s d domain holds sections small among =
    let there = (sections.collections.exactly (collection_record (rule_at ds s) d)).1 (d, among, refl) in
    let bytes = record_there collection_key collection_words collection_bytes b (first_collection ds s) s.collections (collection_record (rule_at ds s) d) sections.collections.ascending there (λ k x lt. length-collection_bytes _) holds.collections in
    let stand : All (RuleStands b (rule_at ds s)) d.rules = λ k r lt. rule_stands b ds s d _ domain holds sections small among (Contains-get_or d.rules k r lt) in
    record {
      domain = domain;
      above = omega arith;
      in_reach = collection_in_reach ds s d sections among small;
      there = collection_reads b (4 * collection_at ds s d) (rule_at ds s) d domain stand bytes;
    }

pub reads_as : (ds : List Domain) (s : Sections) → IsDb ds → AreFileSections ds s → last_collection ds s ≤ 65535 → ReadsAs (file ds s) ds
unfolding file
reads_as ds s db sections small =
    let b = file ds s in
    let places = collection_at ds s in
    let h0 = Holds-whole b in
    let magic = Holds-be32 b 0 0x52474442 (omega arith) (Holds-front b 0 (be32 0x52474442) _ h0) in
    let h4 = Holds-back b 0 4 (be32 0x52474442) _ (omega (arith, length-be32 0x52474442)) h0 in
    let version = Holds-be32 b 4 20 (omega arith) (Holds-front b 4 (be32 20) _ h4) in
    let h8 = Holds-back b 4 8 (be32 20) _ (omega (arith, length-be32 20)) h4 in
    let ze = 8 + 4 * length ds in
    let hz = Holds-back b 8 ze (flat_map (domain_entry places) ds) _ (omega (arith, length-entries places ds)) h8 in
    let hw = Holds-back b ze (4 * first_wmm ds) (be32 0) _ (omega (arith, length-be32 0)) hz in
    let wmm_length = length-pieces (λ bytes. bytes) (λ bytes. 8) s.wmm_rules (wmm_lengths ds s sections) in
    let eights = sum_by-eights s.wmm_rules in
    let hr = Holds-back b (4 * first_wmm ds) (4 * first_rule ds s) (flat_map (λ bytes. bytes) s.wmm_rules) _ (omega (arith, wmm_length, eights)) hw in
    let rule_length = length-pieces rule_bytes rule_words s.rules (λ k x lt. length-rule_bytes _) in
    let hc = Holds-back b (4 * first_rule ds s) (4 * first_collection ds s) (flat_map rule_bytes s.rules) _ (omega (arith, rule_length)) hr in
    let holds : HoldsSections b ds s = record {
      wmm_rules = Holds-front b (4 * first_wmm ds) (flat_map (λ bytes. bytes) s.wmm_rules) _ hw;
      rules = Holds-front b (4 * first_rule ds s) (flat_map rule_bytes s.rules) _ hr;
      collections = hc;
    } in
    let stand = entries_read b 8 places ds (Holds-front b 8 (flat_map (domain_entry places) ds) _ h8)
    (λ k d within. collection_stands b ds s _ (db.each k d within) holds sections small (Contains-get_or ds k d within)) in
    record {
      whole_header = omega (arith, h8.in_range);
      magic = magic;
      version = version;
      entries = (length ds, ends_first b ds stand (Holds-front b ze (be32 0) _ hz), are_entries b ds db stand);
      db = db;
    }
