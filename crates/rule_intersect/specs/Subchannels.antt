-- The row that decides for a channel of 20 MHz.
use Rattle.std.specs.Prelude.{◌≡◌, ℕ, ◌<◌, List, length, All, Contains, slice_get, slice_index_or, Some}
use Rattle.std.specs.List.{AllZip}
use Rattle.freq_range.specs.Channels.{Holds}
use Rattle.freq_range.specs.First.{IsFirst}
use Rattle.rule_tables.specs.Governing.{Governs, NoneGoverns}
use Rattle.rule_tables.specs.declared.domain.Domain.{Domain}
use Rattle.rule_intersect.specs.declared.row.Row.{Row}
use Rattle.rule_intersect.specs.Tuples.{Choice, IsChoice, row_of}

-- the row's range holds the channel round the centre, in kHz
abbrev pub RowHolds : ℕ → Row → Type 0
RowHolds centre row = Holds row.start_khz row.end_khz centre

-- there is a row at place k, and its range holds the channel
abbrev pub RowHoldsAt : List Row → ℕ → ℕ → Type 0
RowHoldsAt rows centre k = (k < length rows) × ((d : Row) → RowHolds centre (slice_index_or rows k d))

-- the row at place k is the first whose range holds the channel
abbrev pub IsFirstRow : List Row → ℕ → ℕ → Type 0
IsFirstRow rows centre k = IsFirst (RowHoldsAt rows centre) k

-- no row's range holds the channel
abbrev pub NoRowHolds : List Row → ℕ → Type 0
NoRowHolds rows centre = All (λ row. RowHolds centre row → ⊥) rows

-- the tuple of each domain's governing rule
abbrev pub AreGoverning : List Domain → ℕ → List Choice → Type 0
AreGoverning ds centre t = AllZip (λ d c. IsChoice d.rules c × Governs d.rules centre c.number) ds t

-- the row at place k is that of each domain's governing rule
abbrev pub IsGoverningRow : List Domain → List Row → ℕ → ℕ → Type 0
IsGoverningRow ds rows centre k = (t : List Choice) × AreGoverning ds centre t × (slice_get rows k ≡ Some (row_of t))

-- each domain has a rule that governs the channel
abbrev pub EachHasRule : List Domain → ℕ → Type 0
EachHasRule ds centre = All (λ d. (k : ℕ) × Governs d.rules centre k) ds

-- some domain has no rule that holds the channel
abbrev pub SomeLacksRule : List Domain → ℕ → Type 0
SomeLacksRule ds centre = (d : Domain) × Contains ds d × NoneGoverns d.rules centre
