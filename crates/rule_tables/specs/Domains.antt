-- What the rules of a domain have to be, and which fault is the first.
use Rattle.std.specs.Prelude.{◌≡◌, ◌≢◌, ℕ, ◌<◌, ◌≤◌, List, [], length, All, AllPairs, slice_index_or}
use Rattle.freq_range.specs.First.{IsFirst}
use Rattle.freq_range.specs.Valid.{IsValidRule}
use Rattle.freq_range.specs.declared.rule.Rule.{Rule}
use Rattle.rule_tables.specs.declared.domain.DomainFault.{DomainFault}
use Rattle.rule_tables.specs.declared.domain.DomainFault.TheVariants.{NoRules, TooMany, BadRule}

-- 1 to 128 rules, each valid
pub record AreRules (rules : List Rule) : Type 0 where
  pub some : 0 < length rules
  pub few : length rules ≤ 128
  pub each : All IsValidRule rules

-- no two are equal
abbrev pub AreDistinct : List Rule → Type 0
AreDistinct rules = AllPairs (λ r s. r ≢ s) rules

-- there is a rule at place k, and it isn't valid
abbrev pub IsInvalidAt : List Rule → ℕ → Type 0
IsInvalidAt rules k = (k < length rules) × ((d : Rule) → IsValidRule (slice_index_or rules k d) → ⊥)

-- which fault comes: the first of the list that applies
abbrev pub IsDomainFault : List Rule → DomainFault → Type 0
IsDomainFault rules NoRules = rules ≡ []
IsDomainFault rules (TooMany n) = (n ≡ length rules) × (128 < n)
IsDomainFault rules (BadRule k) = (length rules ≤ 128) × IsFirst (IsInvalidAt rules) k
