-- What the bytes of a `regulatory.db` of version 20 say, by places. All numbers are big-endian, and a pointer is the
-- place of a record divided by 4. `docs/FORMATS.md` has the format in words.
use Rattle.std.specs.Prelude.{◌≡◌, ◌≢◌, ℕ, ◌+◌, ◌*◌, ◌/◌, ◌%◌, ◌<◌, ◌≤◌, ◌==◌, ◌⊎◌, Bool, nat_le, List, [], ◌∷◌, ◌++◌, length, reverse, All, Contains, slice_index, slice_index_or, Option, Some, None, if◌then◌else◌}
use Rattle.byteorder.specs.Endian.{big_from}
use Rattle.freq_range.specs.First.{IsFirst}
use Rattle.freq_range.specs.Valid.{IsValidRule}
use Rattle.freq_range.specs.declared.flags.RuleFlags.{RuleFlags}
use Rattle.freq_range.specs.declared.rule.Rule.{Rule}
use Rattle.freq_range.specs.declared.wmm.Wmm.{Wmm}
use Rattle.freq_range.specs.declared.wmm.WmmEntry.{WmmEntry}
use Rattle.rule_tables.specs.Code.{IsCode}
use Rattle.rule_tables.specs.Databases.{IsDb}
use Rattle.rule_tables.specs.Regions.{region_number}
use Rattle.rule_tables.specs.declared.code.Region.{Region}
use Rattle.rule_tables.specs.declared.domain.Domain.{Domain}

-- the number in the one, two or four bytes at place i
abbrev pub u8_at : List ℕ → ℕ → ℕ
u8_at b i = slice_index b i

-- the big-endian number in the two bytes at this place
abbrev pub u16_at : List ℕ → ℕ → ℕ
u16_at b i = big_from i 2 b

-- the big-endian number in the four bytes at this place
abbrev pub u32_at : List ℕ → ℕ → ℕ
u32_at b i = big_from i 4 b

-- the place that the pointer at place i names
abbrev pub target_at : List ℕ → ℕ → ℕ
target_at b i = 4 * u16_at b i

-- the flags of a rule in one byte: 1 NO-OFDM, 2 NO-OUTDOOR, 4 DFS, 8 NO-IR, 16 AUTO-BW; higher bits say nothing
abbrev pub has_bit : ℕ → ℕ → Bool
has_bit byte bit = byte / bit % 2 == 1

-- the flags that a byte of a rule sets
abbrev pub flags_in : ℕ → RuleFlags
flags_in byte = record {
  no_ofdm = has_bit byte 1;
  no_outdoor = has_bit byte 2;
  dfs = has_bit byte 4;
  no_ir = has_bit byte 8;
  auto_bw = has_bit byte 16;
}

-- The four bytes at place i are an entry of a WMM rule: the two exponents in one byte, the AIFSN and the COT.
pub record WmmEntryAt (b : List ℕ) (i : ℕ) (e : WmmEntry) : Type 0 where
  pub least_window : e.min_exp ≡ u8_at b i / 16
  pub greatest_window : e.max_exp ≡ u8_at b i % 16
  pub aifsn : e.aifsn ≡ u8_at b (i + 1)
  pub cot : e.cot_ms ≡ u16_at b (i + 2)

-- The 32 bytes at place i are the WMM rule w: its eight entries.
pub record WmmAt (b : List ℕ) (i : ℕ) (w : Wmm) : Type 0 where
  pub in_file : i + 32 ≤ length b
  pub vo_c : WmmEntryAt b i w.vo_c
  pub vi_c : WmmEntryAt b (i + 4) w.vi_c
  pub be_c : WmmEntryAt b (i + 8) w.be_c
  pub bk_c : WmmEntryAt b (i + 12) w.bk_c
  pub vo_ap : WmmEntryAt b (i + 16) w.vo_ap
  pub vi_ap : WmmEntryAt b (i + 20) w.vi_ap
  pub be_ap : WmmEntryAt b (i + 24) w.be_ap
  pub bk_ap : WmmEntryAt b (i + 28) w.bk_ap

-- The WMM rule that the rule at place i names: from a length of 20 on, the one at its pointer.
abbrev pub NamesWmm : List ℕ → ℕ → Option Wmm → Type 0
NamesWmm b i None = u8_at b i < 20
NamesWmm b i (Some w) = (20 ≤ u8_at b i) × WmmAt b (target_at b (i + 18)) w

-- The record at place i is the rule r. Its first byte is its length, of at least 16. From a length of 18 on it has a
-- check time, and from a length of 20 on it names a WMM rule.
pub record RuleAt (b : List ℕ) (i : ℕ) (r : Rule) : Type 0 where
  pub long : 16 ≤ u8_at b i
  pub in_file : i + u8_at b i ≤ length b
  pub flags : r.flags ≡ flags_in (u8_at b (i + 1))
  pub eirp : r.eirp_mbm ≡ u16_at b (i + 2)
  pub start : r.start_khz ≡ u32_at b (i + 4)
  pub end : r.end_khz ≡ u32_at b (i + 8)
  pub width : r.max_bw_khz ≡ u32_at b (i + 12)
  pub check_time : r.cac_s ≡ (if nat_le 18 (u8_at b i) then u16_at b (i + 16) else 0)
  pub wmm : NamesWmm b i r.wmm
  pub valid : IsValidRule r

-- rules after one another in a collection, read through the pointers that stand from place i on
abbrev pub RulesAt : List ℕ → ℕ → List Rule → Type 0
RulesAt b i rules = (k : ℕ) (d : Rule) → k < length rules → RuleAt b (target_at b (i + 2 * k)) (slice_index_or rules k d)

-- What is kept of the rules read where each one that stands earlier is dropped. The rules read come with the last one
-- first, so that those behind one are the earlier ones; the rules kept stand in order.
abbrev pub DropsRepeats : List Rule → List Rule → Type 0
DropsRepeats [] kept = kept ≡ []
DropsRepeats (r ∷ earlier) kept = (rest : List Rule) × DropsRepeats earlier rest
    × ((Contains earlier r × (kept ≡ rest)) ⊎ ((Contains earlier r → ⊥) × (kept ≡ rest ++ r ∷ [])))

-- where the pointers of the collection at place i begin: behind its `len` bytes, `len` rounded up to 2
abbrev pub pointers_of : List ℕ → ℕ → ℕ
pointers_of b i = i + (u8_at b i + 1) / 2 * 2

-- The record at place i is a collection: its length, of at least 3, the number of its rules, a region, and the pointers
-- to the rules.
pub record CollectionAt (b : List ℕ) (i : ℕ) (region : Region) (rules : List Rule) : Type 0 where
  pub long : 3 ≤ u8_at b i
  pub in_file : i + u8_at b i ≤ length b
  pub some : 0 < u8_at b (i + 1)
  pub few : u8_at b (i + 1) ≤ 128
  pub region_byte : u8_at b (i + 2) ≡ region_number region
  pub pointers_in_file : pointers_of b i + 2 * u8_at b (i + 1) ≤ length b
  pub rules_read : (read : List Rule) × (length read ≡ u8_at b (i + 1)) × RulesAt b (pointers_of b i) read × DropsRepeats (reverse read) rules

-- The four bytes at place i are the entry of the domain d: its code, and a pointer to its collection.
pub record EntryAt (b : List ℕ) (i : ℕ) (d : Domain) : Type 0 where
  pub first : d.alpha2.a ≡ u8_at b i
  pub second : d.alpha2.b ≡ u8_at b (i + 1)
  pub code : IsCode d.alpha2
  pub collection : CollectionAt b (target_at b (i + 2)) d.region d.rules

-- where the entry number k stands, counted from 0
abbrev pub entry_place : ℕ → ℕ
entry_place k = 8 + 4 * k

-- the entries end before number k: fewer than four bytes are left there, or its pointer is 0
abbrev pub EndsAt : List ℕ → ℕ → Type 0
EndsAt b k = (length b < entry_place k + 4) ⊎ (u16_at b (entry_place k + 2) ≡ 0)

-- the n entries are those of the domains, each code once
pub record AreEntries (b : List ℕ) (n : ℕ) (ds : List Domain) : Type 0 where
  pub each : (k : ℕ) → k < n → (d : Domain) × Contains ds d × EntryAt b (entry_place k) d
  pub all : All (λ d. (k : ℕ) × (k < n) × EntryAt b (entry_place k) d) ds
  pub once : (j k : ℕ) → j < k → k < n → u16_at b (entry_place j) ≢ u16_at b (entry_place k)

-- The bytes are a database file of version 20, and say these domains.
pub record ReadsAs (b : List ℕ) (ds : List Domain) : Type 0 where
  pub whole_header : 8 ≤ length b
  pub magic : u32_at b 0 ≡ 0x52474442
  pub version : u32_at b 4 ≡ 20
  pub entries : (n : ℕ) × IsFirst (EndsAt b) n × AreEntries b n ds
  pub db : IsDb ds
