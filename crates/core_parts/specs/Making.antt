-- What comes of making the table of a list of domains.
use Rattle.std.specs.Prelude.{◌≡◌, ℕ, List, [], Option, Some, None, Result, Ok, Err}
use Rattle.rule_tables.specs.declared.domain.Domain.{Domain}
use Rattle.rule_intersect.specs.Tables.{IsTableOf, IsTooMany, Joined}
use Rattle.rule_intersect.specs.declared.fault.ResolveFault.{ResolveFault}
use Rattle.rule_intersect.specs.declared.fault.ResolveFault.TheVariants.{TooManyRows, OutOfMemory}

-- the list has no table, for this reason; memory may be wanting for any list
abbrev pub IsMadeFault : List Domain → ResolveFault → Type 0
IsMadeFault ds (TooManyRows after rows) = IsTooMany ds after rows
IsMadeFault ds OutOfMemory = Unit {0}

-- the list's table, or why it has none
abbrev pub IsMade : List Domain → Result Joined ResolveFault → Type 0
IsMade ds (Ok table) = IsTableOf ds table
IsMade ds (Err fault) = IsMadeFault ds fault

-- the table of the domains so far, where there are some
abbrev pub IsTableSoFar : List Domain → Option Joined → Type 0
IsTableSoFar ds None = ds ≡ []
IsTableSoFar ds (Some table) = IsTableOf ds table

abbrev pub IsMadeSoFar : List Domain → Result (Option Joined) ResolveFault → Type 0
IsMadeSoFar ds (Ok table) = IsTableSoFar ds table
IsMadeSoFar ds (Err fault) = IsMadeFault ds fault

-- how many domains the table so far joins
abbrev pub joined_count : Option Joined → ℕ
joined_count None = 0
joined_count (Some table) = table.domains

-- the list has a table
abbrev pub HasTable : List Domain → Type 0
HasTable ds = (table : Joined) × IsTableOf ds table
