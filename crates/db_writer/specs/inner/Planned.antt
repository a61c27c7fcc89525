-- What the writer knows of a file before it writes it.
use Rattle.std.specs.Prelude.{◌≡◌, ℕ, ◌^◌, ◌≤◌, ◌++◌, List, length, flat_map, All, Contains}
use Rattle.rule_tables.specs.Databases.{IsDomain}
use Rattle.rule_tables.specs.declared.domain.Domain.{Domain}
use Rattle.db_writer.specs.inner.Fits.{RuleFits, CollectionFits}
use Rattle.db_writer.specs.LaidOut.{Sections, AreFileSections, collection_record, collection_place, first_wmm, first_rule, first_collection, domain_entry}
use Rattle.db_writer.specs.Records.{be32, rule_bytes, collection_bytes, collection_words}
use Rattle.db_writer.specs.inner.Filed.{rule_at_in, AreFiled}
use Rattle.db_writer.specs.declared.plan.Plan.{Plan}

abbrev pub sections_in : Plan → Sections
sections_in p = record {
  wmm_rules = p.rules.wmm_rules.records.items;
  rules = p.rules.rules.records.items;
  collections = p.collections.records.items;
}

-- the plan has the sections of the database's file, and where they begin
pub record IsPlanOf (ds : List Domain) (p : Plan) : Type 0 where
  pub sections : AreFileSections ds (sections_in p)
  pub wmm_first : p.rules.wmm_rules.first ≡ first_wmm ds
  pub rule_first : p.rules.rules.first ≡ first_rule ds (sections_in p)
  pub collection_first : p.collections.first ≡ first_collection ds (sections_in p)

-- where the collection of a domain stands by the plan
abbrev pub planned_collection : Plan → Domain → ℕ
planned_collection p = collection_place (rule_at_in p.rules) p.collections.first p.collections.records.items

-- the records of the domain are in the plan, and a pointer of 16 bits can name its collection
pub record IsDomainPlanned (p : Plan) (d : Domain) : Type 0 where
  pub domain : IsDomain d
  pub filed : AreFiled p.rules d
  pub there : Contains p.collections.records.items (collection_record (rule_at_in p.rules) d)
  pub in_reach : planned_collection p d ≤ 65535

-- so few and so short collections, that numbers of 64 bits hold their places
pub record IsSmall (p : Plan) : Type 0 where
  pub low : p.collections.first ≤ 2 ^ 32
  pub few : length p.collections.records.items ≤ 2 ^ 23
  pub short : All (λ c. collection_words c ≤ 65) p.collections.records.items

-- each domain and each record of the plan can be written
pub record CanBeWritten (ds : List Domain) (p : Plan) : Type 0 where
  pub ready : All (IsDomainPlanned p) ds
  pub rules : All RuleFits p.rules.rules.records.items
  pub collections : All CollectionFits p.collections.records.items

-- the whole file by the plan
unfoldable pub planned_file : List Domain → Plan → List ℕ
planned_file ds p =
    be32 0x52474442 ++ (be32 20 ++ (flat_map (domain_entry (planned_collection p)) ds ++ (be32 0
    ++ (flat_map (λ bytes. bytes) p.rules.wmm_rules.records.items ++ (flat_map rule_bytes p.rules.rules.records.items ++ flat_map collection_bytes p.collections.records.items)))))
