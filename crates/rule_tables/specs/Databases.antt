-- What a database of domains has to be.
use Rattle.std.specs.Prelude.{◌≡◌, ℕ, ◌<◌, ◌≤◌, List, length, All, AllPairs, Contains, slice_index_or, insert}
use Rattle.freq_range.specs.First.{IsFirst}
use Rattle.freq_range.specs.declared.rule.Rule.{Rule}
use Rattle.rule_tables.specs.declared.code.Alpha2.{Alpha2}
use Rattle.rule_tables.specs.declared.domain.Domain.{Domain}
use Rattle.rule_tables.specs.declared.database.DbInsertFault.{DbInsertFault}
use Rattle.rule_tables.specs.declared.database.DbInsertFault.TheVariants.{Twice, BadCode, Repeated, Bad, OutOfMemory}
use Rattle.rule_tables.specs.Code.{IsCode, key}
use Rattle.rule_tables.specs.Domains.{AreRules, AreDistinct, IsDomainFault}

-- a domain that a database may hold
pub record IsDomain (d : Domain) : Type 0 where
  pub code : IsCode d.alpha2
  pub distinct : AreDistinct d.rules
  pub rules : AreRules d.rules

-- domains in ascending order of their codes, so each code once
pub record IsDb (ds : List Domain) : Type 0 where
  pub ascending : AllPairs (λ c d. key c.alpha2 < key d.alpha2) ds
  pub each : All IsDomain ds

-- some domain has the code
abbrev pub HasCode : List Domain → Alpha2 → Type 0
HasCode ds c = (d : Domain) × Contains ds d × (d.alpha2 ≡ c)

-- the rule at place k equals an earlier one
abbrev pub IsRepeatedAt : List Rule → ℕ → Type 0
IsRepeatedAt rules k = (k < length rules) × (j : ℕ) × (j < k) × ((d : Rule) → slice_index_or rules j d ≡ slice_index_or rules k d)

-- which fault comes: the first of the list that applies
abbrev pub IsInsertFault : List Domain → Domain → DbInsertFault → Type 0
IsInsertFault ds d Twice = HasCode ds d.alpha2
IsInsertFault ds d BadCode = (HasCode ds d.alpha2 → ⊥) × (IsCode d.alpha2 → ⊥)
IsInsertFault ds d (Repeated k) = (HasCode ds d.alpha2 → ⊥) × IsCode d.alpha2 × IsFirst (IsRepeatedAt d.rules) k
IsInsertFault ds d (Bad fault) = (HasCode ds d.alpha2 → ⊥) × IsCode d.alpha2 × AreDistinct d.rules × IsDomainFault d.rules fault
IsInsertFault ds d OutOfMemory = (HasCode ds d.alpha2 → ⊥) × IsDomain d

-- the domain was put in among the others, which keep their order
pub record Inserts (old new : List Domain) (d : Domain) : Type 0 where
  pub fresh : HasCode old d.alpha2 → ⊥
  pub is_domain : IsDomain d
  pub place : (i : ℕ) × (i ≤ length old) × (new ≡ insert old i d)
