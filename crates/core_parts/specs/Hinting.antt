-- What a hint that the table of hints treats gives to the radios.
use Rattle.std.specs.Prelude.{◌≡◌, ◌<◌, ℕ, ◌+◌, ◌==◌, Bool, false, not, List, [], ◌∷◌, length, Option, Some, None, slice_index_or, if◌then◌else◌}
use Rattle.std.specs.Option.{option_to_list}
use Rattle.rule_tables.specs.declared.code.Alpha2.{Alpha2}
use Rattle.rule_tables.specs.Regions.{is_same_region}
use Rattle.rule_tables.specs.declared.domain.Domain.{Domain}
use Rattle.rule_intersect.specs.Tables.{IsTableOf, Joined}
use Rattle.rule_intersect.specs.declared.fault.ResolveFault.{ResolveFault}
use Rattle.rule_intersect.specs.declared.fault.ResolveFault.TheVariants.{TooManyRows, OutOfMemory}
use Rattle.reg_hints.specs.Table.{State}
use Rattle.reg_hints.specs.declared.hint.Hint.{Hint}
use Rattle.reg_hints.specs.declared.hint.Hint.TheVariants.{User, Driver, Element}
use Rattle.reg_journal.specs.Refusals.{RowCauses}
use Rattle.reg_journal.specs.declared.refusal.Refusal.TheVariants.{TooManyRows as RowsRefused}
use Rattle.reg_books.specs.Lists.{applies_by, region_by}
use Rattle.core_parts.specs.Making.{IsMadeFault}
use Rattle.core_parts.specs.declared.radio.Radio.{Radio}
use Rattle.core_parts.specs.declared.radio.RadioPlace.{RadioPlace}
use Rattle.core_parts.specs.declared.radio.RadioPlace.TheVariants.{Free, Removed, There}

-- the code of the last hint of the radio's driver, where it was this one before
abbrev pub driver_after : Hint → ℕ → Option Alpha2 → Option Alpha2
driver_after (User a) r driver = driver
driver_after (Driver q a) r driver = if r == q then Some a else driver
driver_after (Element q a deaf) r driver = driver

-- the list that then applies to the radio of this number, where all hints have led to these
abbrev pub list_after : List Domain → State → Hint → ℕ → Radio → List Domain
list_after db hints hint r radio = applies_by db hints radio.chans.profile.self_managed (option_to_list radio.custom) (driver_after hint r radio.driver)

-- the lists of the radios that are there, in these places of which the first has this number
abbrev pub lists_after : List Domain → State → Hint → ℕ → List RadioPlace → List (List Domain)
lists_after db hints hint r [] = []
lists_after db hints hint r (Free ∷ places) = lists_after db hints hint (r + 1) places
lists_after db hints hint r (Removed ∷ places) = lists_after db hints hint (r + 1) places
lists_after db hints hint r (There radio ∷ places) = list_after db hints hint r radio ∷ lists_after db hints hint (r + 1) places

-- the new table of a place: one where a radio is there
abbrev pub IsNewTable : List Domain → State → Hint → ℕ → RadioPlace → Option Joined → Type 0
IsNewTable db hints hint r Free table = table ≡ None
IsNewTable db hints hint r Removed table = table ≡ None
IsNewTable db hints hint r (There radio) None = ⊥
IsNewTable db hints hint r (There radio) (Some table) = IsTableOf (list_after db hints hint r radio) table

-- why a place has no new table
abbrev pub IsNewTableFault : List Domain → State → Hint → ℕ → RadioPlace → ResolveFault → Type 0
IsNewTableFault db hints hint r Free fault = ⊥
IsNewTableFault db hints hint r Removed fault = ⊥
IsNewTableFault db hints hint r (There radio) fault = IsMadeFault (list_after db hints hint r radio) fault

-- each place has its new table
pub record AreNewTables (db : List Domain) (hints : State) (hint : Hint) (places : List RadioPlace) (tables : List (Option Joined)) : Type 0 where
  pub all : length tables ≡ length places
  pub each : (r : ℕ) → r < length places → IsNewTable db hints hint r (slice_index_or places r Free) (slice_index_or tables r None)

-- why not all have: the first of the lists that has too many rows tells how many
abbrev pub IsRowsFault : List (List Domain) → ResolveFault → Type 0
IsRowsFault lists (TooManyRows after rows) = RowCauses lists (RowsRefused rows)
IsRowsFault lists OutOfMemory = Unit {0}

-- whether the hint, which led from the one state of hints to the other, changes the region of the radio in the place
abbrev pub place_moved : List Domain → State → State → Hint → ℕ → RadioPlace → Bool
place_moved db before after hint r Free = false
place_moved db before after hint r Removed = false
place_moved db before after hint r (There radio) = not (is_same_region
    (region_by db after radio.chans.profile.self_managed (driver_after hint r radio.driver))
    (region_by db before radio.chans.profile.self_managed radio.driver))
