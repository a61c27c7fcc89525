-- Bytes have at most one fault, and none where they say a database.
use Rattle.std.proofs.Common.{◌≡◌, ℕ, ◌+◌, ◌<◌, ◌≤◌, List, arith, sym, ◌∙◌, ap, subst, inl, inr}
use Rattle.std.proofs.lemmas.Bool.{cases_lt}
use Rattle.freq_range.specs.First.{IsFirst}
use Rattle.freq_range.proofs.Firsts.{IsFirst-unique}
use Rattle.rule_tables.specs.Code.{IsCode}
use Rattle.rule_tables.specs.FileFormat.{u8_at, AreEntries, EndsAt, ReadsAs, entry_place, target_at}
use Rattle.rule_tables.specs.FileFaults.{HasEntryFault, HasHeader, IsRuleAt, IsCodeFault, IsCollectionFault, IsDbFault, IsEntryFault, IsFaultyRule, IsFirstEntryFault, IsHeaderFault, entry_code, rule_place}
use Rattle.rule_tables.specs.declared.code.Alpha2.{Alpha2}
use Rattle.rule_tables.specs.declared.domain.Domain.{Domain}
use Rattle.rule_tables.specs.declared.file_fault.DbFault.{DbFault}
use Rattle.rule_tables.specs.declared.file_fault.DbFault.TheVariants.{Short, BadMagic, BadVersion, BadAlpha2, CountryTwice, BadCollection, BadRegion, BadRule, BadWmm}
use Rattle.db_reader.proofs.Entered.{no_fault_before}
use Rattle.db_reader.proofs.Records.{good_code}

-- ---- the header

good_header : (b : List ℕ) (fault : DbFault) → HasHeader b → IsHeaderFault b fault → ⊥
good_header b (Short n) header fault = let whole = header.whole in let short = fault.1 in let is = fault.0 in omega (arith, whole, short, is)
good_header b (BadMagic magic) header fault = fault.2 (fault.1 ∙ header.magic)
good_header b (BadVersion version) header fault = fault.3 (fault.2 ∙ header.version)
good_header b fault header is = absurd is

header_fault-unique : (b : List ℕ) (f g : DbFault) → IsHeaderFault b f → IsHeaderFault b g → f ≡ g
header_fault-unique b (Short m) (Short n) p q = ap Short (p.0 ∙ sym q.0)
header_fault-unique b (Short m) (BadMagic n) p q = let short = p.1 in let is = p.0 in let whole = q.0 in absurd (omega (arith, short, is, whole))
header_fault-unique b (Short m) (BadVersion n) p q = let short = p.1 in let is = p.0 in let whole = q.0 in absurd (omega (arith, short, is, whole))
header_fault-unique b (BadMagic m) (Short n) p q = let short = q.1 in let is = q.0 in let whole = p.0 in absurd (omega (arith, short, is, whole))
header_fault-unique b (BadMagic m) (BadMagic n) p q = ap BadMagic (p.1 ∙ sym q.1)
header_fault-unique b (BadMagic m) (BadVersion n) p q = absurd (p.2 (p.1 ∙ q.1))
header_fault-unique b (BadVersion m) (Short n) p q = let short = q.1 in let is = q.0 in let whole = p.0 in absurd (omega (arith, short, is, whole))
header_fault-unique b (BadVersion m) (BadMagic n) p q = absurd (q.2 (q.1 ∙ p.1))
header_fault-unique b (BadVersion m) (BadVersion n) p q = ap BadVersion (p.2 ∙ sym q.2)
header_fault-unique b (Short m) g p q = absurd q
header_fault-unique b (BadMagic m) g p q = absurd q
header_fault-unique b (BadVersion m) g p q = absurd q
header_fault-unique b f g p q = absurd p

-- ---- collections

same_rule_fault : (c d e : Alpha2) (j k : ℕ) → c ≡ e → d ≡ e → j ≡ k → BadRule c j ≡ BadRule d k
same_rule_fault c d e j k p q same = λ i. BadRule ((p ∙ sym q) i) (same i)

same_wmm_fault : (c d e : Alpha2) (j k : ℕ) → c ≡ e → d ≡ e → j ≡ k → BadWmm c j ≡ BadWmm d k
same_wmm_fault c d e j k p q same = λ i. BadWmm ((p ∙ sym q) i) (same i)

same_region_fault : (c d e : Alpha2) (r s n : ℕ) → c ≡ e → d ≡ e → r ≡ n → s ≡ n → BadRegion c r ≡ BadRegion d s
same_region_fault c d e r s n p q t u = λ i. BadRegion ((p ∙ sym q) i) ((t ∙ sym u) i)

rule_and_wmm : (b : List ℕ) (i j k : ℕ) → IsFirst (IsFaultyRule b i) j → IsFirst (IsFaultyRule b i) k → (IsRuleAt b (rule_place b i j) → ⊥) → IsRuleAt b (rule_place b i k) → ⊥
rule_and_wmm b i j k p q none has = none (subst (λ n. IsRuleAt b (rule_place b i n)) (sym (IsFirst-unique (IsFaultyRule b i) j k p q)) has)

region_apart : (b : List ℕ) (i r : ℕ) → r ≡ u8_at b (i + 2) → 3 < r → u8_at b (i + 2) ≤ 3 → ⊥
region_apart b i r is above low = omega (arith, is, above, low)

collection_fault-unique : (b : List ℕ) (i : ℕ) (c : Alpha2) (f g : DbFault) → IsCollectionFault b i c f → IsCollectionFault b i c g → f ≡ g
collection_fault-unique b i c (BadCollection x) (BadCollection y) p q = ap BadCollection (p.0 ∙ sym q.0)
collection_fault-unique b i c (BadCollection x) (BadRegion y s) p q = absurd (p.1 q.1)
collection_fault-unique b i c (BadCollection x) (BadRule y k) p q = absurd (p.1 q.1.collection)
collection_fault-unique b i c (BadCollection x) (BadWmm y k) p q = absurd (p.1 q.1.collection)
collection_fault-unique b i c (BadRegion x r) (BadCollection y) p q = absurd (q.1 p.1)
collection_fault-unique b i c (BadRegion x r) (BadRegion y s) p q = same_region_fault x y c r s (u8_at b (i + 2)) p.0 q.0 p.2 q.2
collection_fault-unique b i c (BadRegion x r) (BadRule y k) p q = absurd (region_apart b i r p.2 p.3 q.1.region)
collection_fault-unique b i c (BadRegion x r) (BadWmm y k) p q = absurd (region_apart b i r p.2 p.3 q.1.region)
collection_fault-unique b i c (BadRule x j) (BadCollection y) p q = absurd (q.1 p.1.collection)
collection_fault-unique b i c (BadRule x j) (BadRegion y s) p q = absurd (region_apart b i s q.2 q.3 p.1.region)
collection_fault-unique b i c (BadRule x j) (BadRule y k) p q = same_rule_fault x y c j k p.0 q.0 (IsFirst-unique (IsFaultyRule b i) j k p.2 q.2)
collection_fault-unique b i c (BadRule x j) (BadWmm y k) p q = absurd (rule_and_wmm b i j k p.2 q.2 p.3 q.3)
collection_fault-unique b i c (BadWmm x j) (BadCollection y) p q = absurd (q.1 p.1.collection)
collection_fault-unique b i c (BadWmm x j) (BadRegion y s) p q = absurd (region_apart b i s q.2 q.3 p.1.region)
collection_fault-unique b i c (BadWmm x j) (BadRule y k) p q = absurd (rule_and_wmm b i k j q.2 p.2 q.3 p.3)
collection_fault-unique b i c (BadWmm x j) (BadWmm y k) p q = same_wmm_fault x y c j k p.0 q.0 (IsFirst-unique (IsFaultyRule b i) j k p.2 q.2)
collection_fault-unique b i c (BadCollection x) g p q = absurd q
collection_fault-unique b i c (BadRegion x r) g p q = absurd q
collection_fault-unique b i c (BadRule x j) g p q = absurd q
collection_fault-unique b i c (BadWmm x j) g p q = absurd q
collection_fault-unique b i c f g p q = absurd p

-- ---- entries

same_code_fault : (a b c d m n : ℕ) → a ≡ m → c ≡ m → b ≡ n → d ≡ n → BadAlpha2 a b ≡ BadAlpha2 c d
same_code_fault a b c d m n p q r s = λ i. BadAlpha2 ((p ∙ sym q) i) ((r ∙ sym s) i)

code_fault-unique : (b : List ℕ) (k : ℕ) (f g : DbFault) → IsCodeFault b k f → IsCodeFault b k g → f ≡ g
code_fault-unique b k (BadAlpha2 w x) (BadAlpha2 y z) p q = same_code_fault w x y z (u8_at b (entry_place k)) (u8_at b (entry_place k + 1)) p.0 q.0 p.1 q.1
code_fault-unique b k (BadAlpha2 w x) (CountryTwice c) p q = absurd (p.2 (subst IsCode q.0 q.1))
code_fault-unique b k (CountryTwice c) (BadAlpha2 y z) p q = absurd (q.2 (subst IsCode p.0 p.1))
code_fault-unique b k (CountryTwice c) (CountryTwice d) p q = ap CountryTwice (p.0 ∙ sym q.0)
code_fault-unique b k (BadAlpha2 w x) g p q = absurd q
code_fault-unique b k (CountryTwice c) g p q = absurd q
code_fault-unique b k f g p q = absurd p

entry_fault-unique : (b : List ℕ) (k : ℕ) (f g : DbFault) → IsEntryFault b k f → IsEntryFault b k g → f ≡ g
entry_fault-unique b k f g (inl p) (inl q) = code_fault-unique b k f g p q
entry_fault-unique b k f g (inl p) (inr q) = absurd (good_code b k f q.0.code q.0.once p)
entry_fault-unique b k f g (inr p) (inl q) = absurd (good_code b k g p.0.code p.0.once q)
entry_fault-unique b k f g (inr p) (inr q) = collection_fault-unique b (target_at b (entry_place k + 2)) (entry_code b (entry_place k)) f g p.1 q.1

first_entry_fault-unique : (b : List ℕ) (j k : ℕ) (f g : DbFault) → IsFirstEntryFault b j f → IsFirstEntryFault b k g → f ≡ g
first_entry_fault-unique b j k f g p q =
    let same = IsFirst-unique (HasEntryFault b) j k p.first q.first in
    entry_fault-unique b j f g p.fault_is (subst (λ n. IsEntryFault b n g) (sym same) q.fault_is)

-- ---- the whole file

pub IsDbFault-unique : (b : List ℕ) (f g : DbFault) → IsDbFault b f → IsDbFault b g → f ≡ g
IsDbFault-unique b f g (inl p) (inl q) = header_fault-unique b f g p q
IsDbFault-unique b f g (inl p) (inr q) = absurd (good_header b f q.0 p)
IsDbFault-unique b f g (inr p) (inl q) = absurd (good_header b g p.0 q)
IsDbFault-unique b f g (inr (header, (j, p))) (inr (header', (k, q))) = first_entry_fault-unique b j k f g p q

entries_no_fault : (b : List ℕ) (n k : ℕ) (ds : List Domain) (fault : DbFault) → EndsAt b n → AreEntries b n ds → IsFirstEntryFault b k fault → ⊥
entries_no_fault b n k ds fault ends are is = elim (cases_lt k n) [
  | inl below ↦ no_fault_before b n ds are k below is.first.here
  | inr upto ↦ is.in_list n upto ends
]

pub ReadsAs-no_fault : (b : List ℕ) (ds : List Domain) (fault : DbFault) → ReadsAs b ds → IsDbFault b fault → ⊥
ReadsAs-no_fault b ds fault reads (inl bad) = good_header b fault (record { whole = reads.whole_header; magic = reads.magic; version = reads.version }) bad
ReadsAs-no_fault b ds fault reads (inr (header, (k, is))) =
    let (n, ends, are) = reads.entries in
    entries_no_fault b n k ds fault ends.here are is
