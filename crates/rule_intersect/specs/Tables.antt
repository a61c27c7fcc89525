-- The rows of a list of domains, and the tables that hold them.
use Rattle.std.specs.Prelude.{◌≡◌, ℕ, ◌<◌, ◌≤◌, List, length, take, map, All, AllPairs, Contains}
use Rattle.rule_tables.specs.declared.domain.Domain.{Domain}
use Rattle.rule_intersect.specs.declared.row.Row.{Row}
use Rattle.rule_intersect.specs.declared.table.TheConstants.{MOST_ROWS}
use Rattle.rule_intersect.specs.declared.fault.ResolveFault.{ResolveFault}
use Rattle.rule_intersect.specs.declared.fault.ResolveFault.TheVariants.{TooManyRows, OutOfMemory}
use Rattle.rule_intersect.specs.Tuples.{Choice, IsTuple, IsBefore, HasCommonRange, row_of}

-- these are all tuples of one rule of each domain with a common range, in the order of their rule numbers
pub record AreTuples (ds : List Domain) (tuples : List (List Choice)) : Type 0 where
  pub all : (t : List Choice) → IsTuple ds t → HasCommonRange t → Contains tuples t
  pub only : All (λ t. IsTuple ds t × HasCommonRange t) tuples
  pub in_order : AllPairs IsBefore tuples

-- these are the rows of the list of domains: those of its tuples
pub record AreRows (ds : List Domain) (rows : List Row) : Type 0 where
  pub tuples : List (List Choice)
  pub are_tuples : AreTuples ds tuples
  pub rows_of_tuples : rows ≡ map row_of tuples

-- the list of domains has so many rows
abbrev pub HasRows : List Domain → ℕ → Type 0
HasRows ds n = (rows : List Row) × AreRows ds rows × (n ≡ length rows)

-- the list of domains has at most 1,024 rows
abbrev pub HasFewRows : List Domain → Type 0
HasFewRows ds = (n : ℕ) × HasRows ds n × (n ≤ MOST_ROWS)

-- what contracts see of a table: its rows, and how many domains it joins
pub record Joined : Type 0 where
  pub rows : List Row
  pub domains : ℕ

-- The table is that of the list of domains. An empty list has none, and neither has one of which some prefix, itself
-- included, has too many rows.
pub record IsTableOf (ds : List Domain) (table : Joined) : Type 0 where
  pub some : 0 < length ds
  pub domains : table.domains ≡ length ds
  pub rows : AreRows ds table.rows
  pub few : (n : ℕ) → 0 < n → n ≤ length ds → HasFewRows (take n ds)

-- the prefix of so many domains is the least one with more than 1,024 rows, and has this number of them
pub record IsTooMany (ds : List Domain) (after n : ℕ) : Type 0 where
  pub some : 0 < after
  pub within : after ≤ length ds
  pub has : HasRows (take after ds) n
  pub too_many : MOST_ROWS < n
  pub few_before : (m : ℕ) → 0 < m → m < after → HasFewRows (take m ds)

-- why the list of domains has no table; out of memory is a reason only where it has few rows
abbrev pub IsResolveFault : List Domain → ResolveFault → Type 0
IsResolveFault ds (TooManyRows after n) = IsTooMany ds after n
IsResolveFault ds OutOfMemory = HasFewRows ds
