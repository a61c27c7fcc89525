-- Nothing is wrong with a record that is read.
use Rattle.std.proofs.Common.{◌≡◌, ℕ, ◌+◌, ◌<◌, ◌≤◌, ◌⊎◌, List, [], ◌∷◌, length, get_or, reverse, Contains, Option, Some, None, IfSome, arith, subst, inl, inr}
use Rattle.std.proofs.lemmas.List.{length-reverse}
use Rattle.std.proofs.lemmas.List.Elements.{Contains-get_or}
use Rattle.freq_range.specs.Valid.{IsValidRule, IsValidWmm}
use Rattle.freq_range.specs.declared.rule.Rule.{Rule}
use Rattle.freq_range.specs.declared.wmm.Wmm.{Wmm}
use Rattle.freq_range.proofs.Members.{Contains-head, Contains-from_reverse}
use Rattle.rule_tables.proofs.Dropped.{DropsRepeats-few, DropsRepeats-keeps, DropsRepeats-only, dropped_distinct}
use Rattle.rule_tables.specs.Code.{IsCode}
use Rattle.rule_tables.specs.Databases.{IsDomain}
use Rattle.rule_tables.specs.Regions.{region_number}
use Rattle.rule_tables.specs.FileFormat.{u8_at, CollectionAt, DropsRepeats, EntryAt, NamesWmm, RuleAt, RulesAt, entry_place, pointers_of, target_at}
use Rattle.rule_tables.specs.FileFaults.{HasCollection, IsRuleAt, IsCodeFault, IsCollectionFault, IsEntryFault, IsFaultyRule, IsTwice, NamesBadWmm, entry_code, rule_place}
use Rattle.rule_tables.specs.declared.code.Alpha2.{Alpha2}
use Rattle.rule_tables.specs.declared.code.Region.{Region}
use Rattle.rule_tables.specs.declared.code.Region.TheVariants.{Unset, Fcc, Etsi, Jp}
use Rattle.rule_tables.specs.declared.domain.Domain.{Domain}
use Rattle.rule_tables.specs.declared.file_fault.DbFault.{DbFault}
use Rattle.rule_tables.specs.declared.file_fault.DbFault.TheVariants.{BadAlpha2, BadCollection, BadRegion, BadRule, BadWmm, CountryTwice}

-- ---- rules

has_rule : (b : List ℕ) (i : ℕ) (r : Rule) → RuleAt b i r → IsRuleAt b i
has_rule b i r at = record {
  long = at.long;
  in_file = at.in_file;
  above_zero = rw at.start at at.valid.above_zero;
  in_order = rw (at.start, at.end) at at.valid.in_order;
  wide_enough = rw (at.start, at.end, at.width) at at.valid.wide_enough;
}

no_bad_wmm : (b : List ℕ) (i : ℕ) (o : Option Wmm) → NamesWmm b i o → IfSome o IsValidWmm → NamesBadWmm b i → ⊥
no_bad_wmm b i None short valid bad = let long = bad.0 in omega (arith, short, long)
no_bad_wmm b i (Some w) named valid bad = bad.1 w named.1 valid

pub good_rule : (b : List ℕ) (i : ℕ) (r : Rule) → RuleAt b i r → (IsRuleAt b i → ⊥) ⊎ NamesBadWmm b i → ⊥
good_rule b i r at (inl none) = none (has_rule b i r at)
good_rule b i r at (inr bad) = no_bad_wmm b i r.wmm at.wmm at.valid.wmm bad

-- some rule is among those that are read, so rules after it can be named
pub good_rules : (b : List ℕ) (i : ℕ) (read : List Rule) → RulesAt b (pointers_of b i) read → (k : ℕ) → k < length read → IsFaultyRule b i k → ⊥
good_rules b i (r ∷ rs) are k within faulty = good_rule b (rule_place b i k) (get_or (r ∷ rs) k r) (are k r within) faulty.1
good_rules b i [] are k within faulty = absurd (omega (arith, within))

-- ---- collections

pub has_collection : (b : List ℕ) (i : ℕ) (region : Region) (rules : List Rule) → CollectionAt b i region rules → HasCollection b i
has_collection b i region rules at = record { long = at.long; in_file = at.in_file; some = at.some; few = at.few; pointers_in_file = at.pointers_in_file }

pub low_region : (region : Region) → region_number region ≤ 3
low_region Unset = omega arith
low_region Fcc = omega arith
low_region Etsi = omega arith
low_region Jp = omega arith

no_faulty_rule : (b : List ℕ) (i : ℕ) (region : Region) (rules : List Rule) (k : ℕ) → CollectionAt b i region rules → IsFaultyRule b i k → ⊥
no_faulty_rule b i region rules k at faulty =
    let (read, many, are, drops) = at.rules_read in
    let within = faulty.0 in
    good_rules b i read are k (omega (arith, many, within)) faulty

pub good_collection : (b : List ℕ) (i : ℕ) (c : Alpha2) (region : Region) (rules : List Rule) (fault : DbFault) → CollectionAt b i region rules → IsCollectionFault b i c fault → ⊥
good_collection b i c region rules (BadCollection code) at fault = fault.1 (has_collection b i region rules at)
good_collection b i c region rules (BadRegion code number) at fault =
    let is = fault.2 in
    let above = fault.3 in
    let low = low_region region in
    let byte = at.region_byte in
    omega (arith, is, above, low, byte)
good_collection b i c region rules (BadRule code k) at fault = no_faulty_rule b i region rules k at fault.2.here
good_collection b i c region rules (BadWmm code k) at fault = no_faulty_rule b i region rules k at fault.2.here
good_collection b i c region rules fault at is = absurd is

some_kept : (rules kept : List Rule) → DropsRepeats rules kept → 0 < length rules → 0 < length kept
some_kept [] kept drops some = absurd (omega (arith, some))
some_kept (rule ∷ earlier) kept drops some =
    let has = DropsRepeats-keeps (rule ∷ earlier) kept rule drops (Contains-head rule earlier) in
    let in_range = has.1 in
    omega (arith, in_range)

valid_among : (b : List ℕ) (i : ℕ) (read : List Rule) → RulesAt b i read → (r : Rule) → Contains read r → IsValidRule r
valid_among b i read are r (k, within, is) = subst IsValidRule is (are k r within).valid

-- the domain of a collection is one that a database may hold
pub is_domain : (b : List ℕ) (i : ℕ) (d : Domain) → IsCode d.alpha2 → CollectionAt b i d.region d.rules → IsDomain d
is_domain b i d code at =
    let (read, many, are, drops) = at.rules_read in
    let len = length-reverse read in
    let few = DropsRepeats-few (reverse read) d.rules drops in
    let most = at.few in
    let some = at.some in
    record {
      code = code;
      distinct = dropped_distinct (reverse read) d.rules drops;
      rules = record {
        some = some_kept (reverse read) d.rules drops (omega (arith, len, many, some));
        few = omega (arith, len, many, few, most);
        each = λ k r within. valid_among b (pointers_of b i) read are (get_or d.rules k r)
            (Contains-from_reverse read (get_or d.rules k r) (DropsRepeats-only (reverse read) d.rules (get_or d.rules k r) drops (Contains-get_or d.rules k r within)));
      };
    }

-- ---- entries

same_code : (c : Alpha2) (first second : ℕ) → c.a ≡ first → c.b ≡ second → c ≡ record { a = first; b = second }
same_code c first second p q = λ i. record { a = p i; b = q i }

-- the code of an entry is that of its domain
pub code_is : (b : List ℕ) (i : ℕ) (d : Domain) → EntryAt b i d → d.alpha2 ≡ entry_code b i
code_is b i d entry = same_code d.alpha2 (u8_at b i) (u8_at b (i + 1)) entry.first entry.second

pub good_code : (b : List ℕ) (k : ℕ) (fault : DbFault) → IsCode (entry_code b (entry_place k)) → (IsTwice b k → ⊥) → IsCodeFault b k fault → ⊥
good_code b k (BadAlpha2 first second) code once fault = fault.2 code
good_code b k (CountryTwice c) code once fault = once fault.2
good_code b k fault code once is = absurd is

pub good_entry : (b : List ℕ) (k : ℕ) (d : Domain) (fault : DbFault) → EntryAt b (entry_place k) d → (IsTwice b k → ⊥) → IsEntryFault b k fault → ⊥
good_entry b k d fault entry once (inl bad) = good_code b k fault (subst IsCode (code_is b (entry_place k) d entry) entry.code) once bad
good_entry b k d fault entry once (inr bad) = good_collection b (target_at b (entry_place k + 2)) (entry_code b (entry_place k)) d.region d.rules fault entry.collection bad.1
