-- What is wrong with bytes that aren't a `regulatory.db` of version 20, by places: the first breach in the order of the
-- file. The header is judged first, then each entry, and of an entry its code, its collection and the collection's rules.
use Rattle.std.specs.Prelude.{◌≡◌, ◌≢◌, ℕ, ◌+◌, ◌-◌, ◌*◌, ◌<◌, ◌≤◌, ◌⊎◌, List, length}
use Rattle.freq_range.specs.First.{IsFirst}
use Rattle.freq_range.specs.Valid.{IsValidWmm}
use Rattle.freq_range.specs.declared.wmm.Wmm.{Wmm}
use Rattle.rule_tables.specs.Code.{IsCode}
use Rattle.rule_tables.specs.FileFormat.{u8_at, u16_at, u32_at, target_at, pointers_of, entry_place, EndsAt, WmmAt}
use Rattle.rule_tables.specs.declared.code.Alpha2.{Alpha2}
use Rattle.rule_tables.specs.declared.file_fault.DbFault.{DbFault}
use Rattle.rule_tables.specs.declared.file_fault.DbFault.TheVariants.{Short, BadMagic, BadVersion, BadAlpha2, CountryTwice, BadCollection, BadRegion, BadRule, BadWmm}

-- ---- the header

-- the file begins with the magic number and the version
pub record HasHeader (b : List ℕ) : Type 0 where
  pub whole : 8 ≤ length b
  pub magic : u32_at b 0 ≡ 0x52474442
  pub version : u32_at b 4 ≡ 20

-- what is wrong with the header: too short, another magic number, another version
abbrev pub IsHeaderFault : List ℕ → DbFault → Type 0
IsHeaderFault b (Short n) = (n ≡ length b) × (n < 8)
IsHeaderFault b (BadMagic magic) = (8 ≤ length b) × (magic ≡ u32_at b 0) × (magic ≢ 0x52474442)
IsHeaderFault b (BadVersion version) = (8 ≤ length b) × (u32_at b 0 ≡ 0x52474442) × (version ≡ u32_at b 4) × (version ≢ 20)
IsHeaderFault b fault = ⊥

-- ---- rules

-- The record at place i is a rule, whatever WMM rule it names: it is in the file, its range begins above 0, ends after its
-- beginning and holds the width.
pub record IsRuleAt (b : List ℕ) (i : ℕ) : Type 0 where
  pub long : 16 ≤ u8_at b i
  pub in_file : i + u8_at b i ≤ length b
  pub above_zero : 0 < u32_at b (i + 4)
  pub in_order : u32_at b (i + 4) < u32_at b (i + 8)
  pub wide_enough : u32_at b (i + 12) ≤ u32_at b (i + 8) - u32_at b (i + 4)

-- the rule at place i names a WMM rule, and no valid one stands there
abbrev pub NamesBadWmm : List ℕ → ℕ → Type 0
NamesBadWmm b i = (20 ≤ u8_at b i) × ((w : Wmm) → WmmAt b (target_at b (i + 18)) w → IsValidWmm w → ⊥)

-- where the rule number k of the collection at place i stands, counted from 0
abbrev pub rule_place : List ℕ → ℕ → ℕ → ℕ
rule_place b i k = target_at b (pointers_of b i + 2 * k)

-- something is wrong with the rule number k of the collection at place i, or with the WMM rule that it names
abbrev pub IsFaultyRule : List ℕ → ℕ → ℕ → Type 0
IsFaultyRule b i k = (k < u8_at b (i + 1)) × ((IsRuleAt b (rule_place b i k) → ⊥) ⊎ NamesBadWmm b (rule_place b i k))

-- ---- collections

-- The record at place i is a collection, whatever its region and its rules are.
pub record HasCollection (b : List ℕ) (i : ℕ) : Type 0 where
  pub long : 3 ≤ u8_at b i
  pub in_file : i + u8_at b i ≤ length b
  pub some : 0 < u8_at b (i + 1)
  pub few : u8_at b (i + 1) ≤ 128
  pub pointers_in_file : pointers_of b i + 2 * u8_at b (i + 1) ≤ length b

-- the record at place i is a collection, and its region is one
pub record HasRegion (b : List ℕ) (i : ℕ) : Type 0 where
  pub collection : HasCollection b i
  pub region : u8_at b (i + 2) ≤ 3

-- what is wrong with the collection at place i, which is that of the code c
abbrev pub IsCollectionFault : List ℕ → ℕ → Alpha2 → DbFault → Type 0
IsCollectionFault b i c (BadCollection code) = (code ≡ c) × (HasCollection b i → ⊥)
IsCollectionFault b i c (BadRegion code region) = (code ≡ c) × HasCollection b i × (region ≡ u8_at b (i + 2)) × (3 < region)
IsCollectionFault b i c (BadRule code k) = (code ≡ c) × HasRegion b i × IsFirst (IsFaultyRule b i) k × (IsRuleAt b (rule_place b i k) → ⊥)
IsCollectionFault b i c (BadWmm code k) =
    (code ≡ c) × HasRegion b i × IsFirst (IsFaultyRule b i) k × IsRuleAt b (rule_place b i k) × NamesBadWmm b (rule_place b i k)
IsCollectionFault b i c fault = ⊥

-- ---- entries

-- the code in the two bytes at place i
abbrev pub entry_code : List ℕ → ℕ → Alpha2
entry_code b i = record { a = u8_at b i; b = u8_at b (i + 1) }

-- an entry before number k has the same two bytes
abbrev pub IsTwice : List ℕ → ℕ → Type 0
IsTwice b k = (j : ℕ) × (j < k) × (u16_at b (entry_place j) ≡ u16_at b (entry_place k))

-- the entry number k has a code, which no entry before it has
pub record HasNewCode (b : List ℕ) (k : ℕ) : Type 0 where
  pub code : IsCode (entry_code b (entry_place k))
  pub once : IsTwice b k → ⊥

-- what is wrong with the code of the entry number k
abbrev pub IsCodeFault : List ℕ → ℕ → DbFault → Type 0
IsCodeFault b k (BadAlpha2 first second) =
    (first ≡ u8_at b (entry_place k)) × (second ≡ u8_at b (entry_place k + 1)) × (IsCode (entry_code b (entry_place k)) → ⊥)
IsCodeFault b k (CountryTwice code) = (code ≡ entry_code b (entry_place k)) × IsCode code × IsTwice b k
IsCodeFault b k fault = ⊥

-- what is wrong with the entry number k: its code, or else the collection at its pointer
abbrev pub IsEntryFault : List ℕ → ℕ → DbFault → Type 0
IsEntryFault b k fault = IsCodeFault b k fault
    ⊎ (HasNewCode b k × IsCollectionFault b (target_at b (entry_place k + 2)) (entry_code b (entry_place k)) fault)

-- the entry at place k has some fault
abbrev pub HasEntryFault : List ℕ → ℕ → Type 0
HasEntryFault b k = (fault : DbFault) × IsEntryFault b k fault

-- the entries don't end before number k, nor at it
abbrev pub IsInList : List ℕ → ℕ → Type 0
IsInList b k = (j : ℕ) → j ≤ k → EndsAt b j → ⊥

-- the fault of the first entry that has one
pub record IsFirstEntryFault (b : List ℕ) (k : ℕ) (fault : DbFault) : Type 0 where
  pub in_list : IsInList b k
  pub first : IsFirst (HasEntryFault b) k
  pub fault_is : IsEntryFault b k fault

-- ---- the whole file

-- The first fault in the order of the file: that of the header, or else that of the first entry that has one.
abbrev pub IsDbFault : List ℕ → DbFault → Type 0
IsDbFault b fault = IsHeaderFault b fault ⊎ (HasHeader b × ((k : ℕ) × IsFirstEntryFault b k fault))
