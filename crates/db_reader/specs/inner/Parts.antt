-- What the parts of a file say, for private functions alone: each is read by itself.
use Rattle.std.specs.Prelude.{◌≡◌, ℕ, ◌+◌, nat_le, if◌then◌else◌, List, length, reverse, None}
use Rattle.freq_range.specs.First.{IsFirst}
use Rattle.freq_range.specs.declared.rule.Rule.{Rule}
use Rattle.rule_tables.specs.Databases.{HasCode, IsDomain}
use Rattle.rule_tables.specs.FileFormat.{u8_at, u16_at, u32_at, flags_in, RulesAt, DropsRepeats, pointers_of, entry_place, EntryAt}
use Rattle.rule_tables.specs.FileFaults.{IsRuleAt, NamesBadWmm, IsFaultyRule, rule_place, IsCollectionFault, IsEntryFault, IsTwice, IsFirstEntryFault}
use Rattle.rule_tables.specs.declared.code.Alpha2.{Alpha2}
use Rattle.rule_tables.specs.declared.domain.Domain.{Domain}
use Rattle.rule_tables.specs.declared.file_fault.DbFault.{DbFault}
use Rattle.rule_tables.specs.declared.file_fault.DbFault.TheVariants.{BadRule, BadWmm}
use Rattle.db_reader.specs.declared.fault.ReadFault.{ReadFault}
use Rattle.db_reader.specs.declared.fault.ReadFault.TheVariants.{Bad, OutOfMemory}
use Rattle.db_reader.specs.declared.rule_record.RuleStop.{RuleStop}
use Rattle.db_reader.specs.declared.rule_record.RuleStop.TheVariants.{NoRule, NoWmm}

-- the fields of the rule at place i, but for the WMM rule that it names
pub record BareRuleAt (b : List ℕ) (i : ℕ) (r : Rule) : Type 0 where
  pub flags : r.flags ≡ flags_in (u8_at b (i + 1))
  pub eirp : r.eirp_mbm ≡ u16_at b (i + 2)
  pub start : r.start_khz ≡ u32_at b (i + 4)
  pub end : r.end_khz ≡ u32_at b (i + 8)
  pub width : r.max_bw_khz ≡ u32_at b (i + 12)
  pub check_time : r.cac_s ≡ (if nat_le 18 (u8_at b i) then u16_at b (i + 16) else 0)
  pub no_wmm : r.wmm ≡ None

-- why no rule is read at place i
abbrev pub IsRuleStop : List ℕ → ℕ → RuleStop → Type 0
IsRuleStop b i NoRule = IsRuleAt b i → ⊥
IsRuleStop b i NoWmm = IsRuleAt b i × NamesBadWmm b i

-- the fault that the rule number k of the code c is then
abbrev pub rule_fault : Alpha2 → ℕ → RuleStop → DbFault
rule_fault c k NoRule = BadRule c k
rule_fault c k NoWmm = BadWmm c k

-- the rules are those of the first n pointers of the collection at place i, repeats dropped
abbrev pub AreFirstRules : List ℕ → ℕ → ℕ → List Rule → Type 0
AreFirstRules b i n rules = (read : List Rule) × (length read ≡ n) × RulesAt b (pointers_of b i) read × DropsRepeats (reverse read) rules

-- the rules are those of the collection at place i
abbrev pub AreRulesOf : List ℕ → ℕ → List Rule → Type 0
AreRulesOf b i rules = AreFirstRules b i (u8_at b (i + 1)) rules

-- the first rule of the collection at place i with something wrong, and what is wrong with it
abbrev pub IsRulesFault : List ℕ → ℕ → Alpha2 → DbFault → Type 0
IsRulesFault b i c fault = (k : ℕ) × (stop : RuleStop) × IsFirst (IsFaultyRule b i) k × IsRuleStop b (rule_place b i k) stop × (fault ≡ rule_fault c k stop)

-- why the rules of the collection at place i aren't read
abbrev pub IsRulesStop : List ℕ → ℕ → Alpha2 → ReadFault → Type 0
IsRulesStop b i c (Bad fault) = IsRulesFault b i c fault
IsRulesStop b i c OutOfMemory = Unit {0}

-- why the collection at place i isn't read
abbrev pub IsCollectionStop : List ℕ → ℕ → Alpha2 → ReadFault → Type 0
IsCollectionStop b i c (Bad fault) = IsCollectionFault b i c fault
IsCollectionStop b i c OutOfMemory = Unit {0}

-- the domain is that of the entry number k, whose code no entry before it and no domain so far has
pub record IsNewEntry (b : List ℕ) (k : ℕ) (ds : List Domain) (d : Domain) : Type 0 where
  pub entry : EntryAt b (entry_place k) d
  pub once : IsTwice b k → ⊥
  pub fresh : HasCode ds d.alpha2 → ⊥
  pub is_domain : IsDomain d

-- why the entry number k isn't read
abbrev pub IsEntryStop : List ℕ → ℕ → ReadFault → Type 0
IsEntryStop b k (Bad fault) = IsEntryFault b k fault
IsEntryStop b k OutOfMemory = Unit {0}

-- why the entries aren't read
abbrev pub IsEntriesStop : List ℕ → ReadFault → Type 0
IsEntriesStop b (Bad fault) = (k : ℕ) × IsFirstEntryFault b k fault
IsEntriesStop b OutOfMemory = Unit {0}
