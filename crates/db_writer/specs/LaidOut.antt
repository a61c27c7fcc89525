-- The one byte list that is the file of a database. Each section is the ascending list, without repeats, of the records in
-- use, so that equal records are written once; a pointer is the place of the record that it names.
use Rattle.std.specs.Prelude.{◌≡◌, ℕ, ◌+◌, ◌-◌, ◌*◌, ◌<◌, ◌≤◌, List, ◌∷◌, ◌++◌, length, map, take, flat_map, sum_by, Contains, Some, option_map}
use Rattle.freq_range.specs.declared.rule.Rule.{Rule}
use Rattle.freq_range.specs.declared.wmm.Wmm.{Wmm}
use Rattle.rule_tables.specs.Regions.{region_number}
use Rattle.rule_tables.specs.declared.domain.Domain.{Domain}
use Rattle.db_writer.specs.Order.{IsFileSection, place_in}
use Rattle.db_writer.specs.Records.{be16, be32, wmm_bytes, flags_byte, rule_key, rule_words, rule_bytes, collection_key, collection_words, collection_bytes}
use Rattle.db_writer.specs.declared.records.CollectionRecord.{CollectionRecord}
use Rattle.db_writer.specs.declared.records.RuleRecord.{RuleRecord}
use Rattle.db_writer.specs.declared.fault.WriteFault.{WriteFault}
use Rattle.db_writer.specs.declared.fault.WriteFault.TheVariants.{TooLarge, OutOfMemory}

-- Where the WMM rule w stands, in a section of WMM rules that begins at `first`.
unfoldable pub wmm_place : ℕ → List (List ℕ) → Wmm → ℕ
wmm_place first wmm_rules w = place_in (λ bytes. bytes) (λ bytes. 8) first wmm_rules (wmm_bytes w)

-- The record of the rule r, where `wmm_at` tells where WMM rules stand; and where it stands itself.
unfoldable pub rule_record : (Wmm → ℕ) → Rule → RuleRecord
rule_record wmm_at r = record {
  start_khz = r.start_khz;
  end_khz = r.end_khz;
  max_bw_khz = r.max_bw_khz;
  flags = flags_byte r.flags;
  eirp_mbm = r.eirp_mbm;
  cac_s = r.cac_s;
  wmm = option_map wmm_at r.wmm;
}

-- where the record of the rule stands, in words, in the section of rules that begins at `first`
unfoldable pub place_of_rule : (Wmm → ℕ) → ℕ → List RuleRecord → Rule → ℕ
place_of_rule wmm_at first rules r = place_in rule_key rule_words first rules (rule_record wmm_at r)

-- The record of the collection of the domain d, where `rule_at` tells where rules stand; and where it stands itself.
unfoldable pub collection_record : (Rule → ℕ) → Domain → CollectionRecord
collection_record rule_at d = record { region = region_number d.region; rules = map rule_at d.rules }

-- where the record of its collection stands, in words, in the section that begins at `first`
unfoldable pub collection_place : (Rule → ℕ) → ℕ → List CollectionRecord → Domain → ℕ
collection_place rule_at first collections d = place_in collection_key collection_words first collections (collection_record rule_at d)

-- what is in use: a rule of some domain, and what rules and domains need
abbrev pub IsRuleInUse : List Domain → Rule → Type 0
IsRuleInUse ds r = (d : Domain) × Contains ds d × Contains d.rules r

-- a rule in use has the WMM rule of these bytes
abbrev pub UsesWmm : List Domain → List ℕ → Type 0
UsesWmm ds bytes = (r : Rule) × (w : Wmm) × IsRuleInUse ds r × (r.wmm ≡ Some w) × (bytes ≡ wmm_bytes w)

-- a rule in use has this record
abbrev pub UsesRule : (Wmm → ℕ) → List Domain → RuleRecord → Type 0
UsesRule wmm_at ds x = (r : Rule) × IsRuleInUse ds r × (x ≡ rule_record wmm_at r)

-- a domain has this record of its collection
abbrev pub UsesCollection : (Rule → ℕ) → List Domain → CollectionRecord → Type 0
UsesCollection rule_at ds c = (d : Domain) × Contains ds d × (c ≡ collection_record rule_at d)

-- the three sections of records: the WMM rules, each by its 32 bytes, the rules, the collections
pub record Sections : Type 0 where
  pub wmm_rules : List (List ℕ)
  pub rules : List RuleRecord
  pub collections : List CollectionRecord

-- Where the sections begin, in words: the WMM rules behind the header of two words, a word for each entry and a word of zero
-- bytes; the rules behind the WMM rules of 8 words each; the collections behind the rules.
abbrev pub first_wmm : List Domain → ℕ
first_wmm ds = 2 + length ds + 1

-- where the rules begin, in words
abbrev pub first_rule : List Domain → Sections → ℕ
first_rule ds s = first_wmm ds + 8 * length s.wmm_rules

-- where the collections begin, in words
abbrev pub first_collection : List Domain → Sections → ℕ
first_collection ds s = first_rule ds s + sum_by rule_words s.rules

-- where each WMM rule, each rule and the collection of each domain stands
abbrev pub wmm_at : List Domain → Sections → Wmm → ℕ
wmm_at ds s = wmm_place (first_wmm ds) s.wmm_rules

-- where the record of a rule stands, in words
abbrev pub rule_at : List Domain → Sections → Rule → ℕ
rule_at ds s = place_of_rule (wmm_at ds s) (first_rule ds s) s.rules

-- where the record of a domain's collection stands, in words
abbrev pub collection_at : List Domain → Sections → Domain → ℕ
collection_at ds s = collection_place (rule_at ds s) (first_collection ds s) s.collections

-- Each section is the ascending list, without repeats, of the records in use.
pub record AreFileSections (ds : List Domain) (s : Sections) : Type 0 where
  pub wmm_rules : IsFileSection (λ bytes. bytes) (UsesWmm ds) s.wmm_rules
  pub rules : IsFileSection rule_key (UsesRule (wmm_at ds s) ds) s.rules
  pub collections : IsFileSection collection_key (UsesCollection (rule_at ds s) ds) s.collections

-- a domain's entry: its code, and a pointer to its collection
unfoldable pub domain_entry : (Domain → ℕ) → Domain → List ℕ
domain_entry collection_at d = d.alpha2.a ∷ d.alpha2.b ∷ be16 (collection_at d)

-- the whole file: header, entries, four zero bytes, WMM rules, rules, collections
unfoldable pub file : List Domain → Sections → List ℕ
file ds s =
    be32 0x52474442 ++ (be32 20 ++ (flat_map (domain_entry (collection_at ds s)) ds ++ (be32 0
    ++ (flat_map (λ bytes. bytes) s.wmm_rules ++ (flat_map rule_bytes s.rules ++ flat_map collection_bytes s.collections)))))

-- The bytes are the file of the database.
abbrev pub LaidOut : List Domain → List ℕ → Type 0
LaidOut ds bytes = (s : Sections) × AreFileSections ds s × (bytes ≡ file ds s)

-- the place of the last collection, in words: behind all others; of a database without domains, where it would be
abbrev pub last_collection : List Domain → Sections → ℕ
last_collection ds s = first_collection ds s + sum_by collection_words (take (length s.collections - 1) s.collections)

-- The last collection of the database's file stands at this place, in words.
abbrev pub EndsIn : List Domain → ℕ → Type 0
EndsIn ds words = (s : Sections) × AreFileSections ds s × (words ≡ last_collection ds s)

-- A pointer of 16 bits can name the last collection, and so each record.
abbrev pub IsWithinReach : List Domain → Type 0
IsWithinReach ds = (words : ℕ) × EndsIn ds words × (words ≤ 65535)

-- why there is no file
abbrev pub IsWriteFault : List Domain → WriteFault → Type 0
IsWriteFault ds (TooLarge words) = EndsIn ds words × (65535 < words)
IsWriteFault ds OutOfMemory = Unit {0}
