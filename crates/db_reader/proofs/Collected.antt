-- The rules of a collection, read one after another.
use Rattle.std.proofs.Common.{◌≡◌, ℕ, ◌+◌, ◌*◌, ◌<◌, List, [], ◌∷◌, ◌++◌, length, reverse, arith, refl, sym, subst, inl, inr}
use Rattle.std.proofs.lemmas.Bool.{cases_lt}
use Rattle.std.proofs.lemmas.List.{get_or_append_left, get_or_push, length-append, reverse-append}
use Rattle.freq_range.specs.First.{IsFirst}
use Rattle.freq_range.specs.declared.rule.Rule.{Rule}
use Rattle.rule_tables.proofs.Dropped.{DropsRepeats-keeps, DropsRepeats-only}
use Rattle.rule_tables.specs.Distinct.{IsPushedNew}
use Rattle.rule_tables.specs.FileFormat.{u8_at, DropsRepeats, RuleAt, RulesAt, pointers_of, target_at}
use Rattle.rule_tables.specs.FileFaults.{HasRegion, IsCollectionFault, IsFaultyRule, rule_place}
use Rattle.rule_tables.specs.declared.code.Alpha2.{Alpha2}
use Rattle.rule_tables.specs.declared.file_fault.DbFault.{DbFault}
use Rattle.db_reader.specs.inner.Parts.{AreFirstRules, IsCollectionStop, IsRuleStop, IsRulesFault, IsRulesStop, rule_fault}
use Rattle.db_reader.specs.declared.fault.ReadFault.{ReadFault}
use Rattle.db_reader.specs.declared.fault.ReadFault.TheVariants.{Bad, OutOfMemory}
use Rattle.db_reader.specs.declared.rule_record.RuleStop.{RuleStop}
use Rattle.db_reader.specs.declared.rule_record.RuleStop.TheVariants.{NoRule, NoWmm}
use Rattle.db_reader.proofs.Records.{good_rules}

-- one more rule that a pointer names
rules_more : (b : List ℕ) (i : ℕ) (read : List Rule) (r : Rule) → RulesAt b i read → RuleAt b (target_at b (i + 2 * length read)) r → RulesAt b i (read ++ r ∷ [])
rules_more b i read r are at k d within = elim (cases_lt k (length read)) [
  | inl below ↦ subst (RuleAt b (target_at b (i + 2 * k))) (sym (get_or_append_left read (r ∷ []) d k below)) (are k d below)
  | inr above ↦
      let len = length-append read (r ∷ []) in
      let last : length read ≡ k = omega (arith, within, len, above) in
      subst (RuleAt b (target_at b (i + 2 * k))) (sym (get_or_push read r d k last)) (subst (λ n. RuleAt b (target_at b (i + 2 * n)) r) last at)
]

-- one more rule, unless it stands earlier
drops_more : (earlier old new : List Rule) (r : Rule) → DropsRepeats earlier old → IsPushedNew old new r → DropsRepeats (r ∷ earlier) new
drops_more earlier old new r drops (inl there) = (old, drops, inl (DropsRepeats-only earlier old r drops there.0, there.1))
drops_more earlier old new r drops (inr fresh) = (old, drops, inr (λ has. fresh.0 (DropsRepeats-keeps earlier old r drops has), fresh.1))

pub collected_more : (b : List ℕ) (i n : ℕ) (old new : List Rule) (r : Rule) → AreFirstRules b i n old → RuleAt b (target_at b (pointers_of b i + 2 * n)) r → IsPushedNew old new r
    → AreFirstRules b i (n + 1) new
collected_more b i n old new r (read, many, are, drops) at pushed =
    let turned : reverse (read ++ r ∷ []) ≡ r ∷ reverse read = reverse-append read (r ∷ []) in
    let len = length-append read (r ∷ []) in (
      read ++ r ∷ [],
      omega (arith, len, many),
      rules_more b (pointers_of b i) read r are (subst (λ m. RuleAt b (target_at b (pointers_of b i + 2 * m)) r) (sym many) at),
      subst (λ rs. DropsRepeats rs new) (sym turned) (drops_more (reverse read) old new r drops pushed),
    )

faulty_from_stop : (b : List ℕ) (i k : ℕ) (stop : RuleStop) → k < u8_at b (i + 1) → IsRuleStop b (rule_place b i k) stop → IsFaultyRule b i k
faulty_from_stop b i k NoRule within is = (within, inl is)
faulty_from_stop b i k NoWmm within is = (within, inr is.1)

-- the rule behind those that are read is the first with something wrong
pub collected_stop : (b : List ℕ) (i n : ℕ) (old : List Rule) (c : Alpha2) (stop : RuleStop) (fault : DbFault) → AreFirstRules b i n old → n < u8_at b (i + 1)
    → IsRuleStop b (rule_place b i n) stop → fault ≡ rule_fault c n stop → IsRulesFault b i c fault
collected_stop b i n old c stop fault (read, many, are, drops) within is named = (
  n,
  stop,
  record {
    here = faulty_from_stop b i n stop within is;
    none_before = λ j less faulty. good_rules b i read are j (omega (arith, many, less)) faulty;
  },
  is,
  named,
)

by_stop : (b : List ℕ) (i k : ℕ) (c : Alpha2) (stop : RuleStop) → HasRegion b i → IsFirst (IsFaultyRule b i) k → IsRuleStop b (rule_place b i k) stop
    → IsCollectionFault b i c (rule_fault c k stop)
by_stop b i k c NoRule region first is = (refl, region, first, is)
by_stop b i k c NoWmm region first is = (refl, region, first, is.0, is.1)

-- what is wrong with the rules is what is wrong with their collection
pub rules_stop : (b : List ℕ) (i : ℕ) (c : Alpha2) (stop : ReadFault) → HasRegion b i → IsRulesStop b i c stop → IsCollectionStop b i c stop
rules_stop b i c (Bad fault) region (k, stop, first, is, named) = subst (IsCollectionFault b i c) (sym named) (by_stop b i k c stop region first is)
rules_stop b i c OutOfMemory region is = tt
