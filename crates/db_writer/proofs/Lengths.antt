-- How long the pieces of a file are.
use Rattle.std.proofs.Common.{◌≡◌, ◌≢◌, ◌==◌, ℕ, ◌+◌, ◌*◌, ◌/◌, ◌%◌, ◌<◌, ◌≤◌, true, false, List, [], ◌∷◌, ◌++◌, length, flat_map, Option, Some, None, if◌then◌else◌, refl, inl, inr, arith}
use Rattle.std.proofs.lemmas.Bool.{cases_eq}
use Rattle.std.proofs.lemmas.List.{length-append}
use Rattle.freq_range.specs.declared.wmm.Wmm.{Wmm}
use Rattle.freq_range.specs.declared.wmm.WmmEntry.{WmmEntry}
use Rattle.rule_tables.specs.declared.domain.Domain.{Domain}
use Rattle.db_writer.specs.Records.{be16, wmm_entry_bytes, wmm_bytes, rule_length, rule_end, rule_bytes, rule_words, collection_padding, collection_bytes, collection_words}
use Rattle.db_writer.specs.LaidOut.{domain_entry}
use Rattle.db_writer.specs.declared.records.CollectionRecord.{CollectionRecord}
use Rattle.db_writer.specs.declared.records.RuleRecord.{RuleRecord}
use Rattle.db_writer.proofs.Holds.{length-be16, length-be32}

pub length-wmm_entry_bytes : (e : WmmEntry) → length (wmm_entry_bytes e) ≡ 4
unfolding wmm_entry_bytes
length-wmm_entry_bytes e = omega (arith, length-be16 e.cot_ms)

pub length-wmm_bytes : (w : Wmm) → length (wmm_bytes w) ≡ 32
unfolding wmm_bytes
length-wmm_bytes w = simp (length-append, length-wmm_entry_bytes) refl

-- how many words a rule takes, by its check time and its WMM rule
rule_size : (seconds : ℕ) (wmm : Option ℕ) → 16 + length (rule_end seconds wmm) ≡ 4 * ((rule_length seconds wmm + 3) / 4)
rule_size seconds None =
    elim (seconds == 0) as (λ t. 16 + length (if t then [] else be16 seconds ++ be16 0) ≡ 4 * (((if t then 16 else 18) + 3) / 4)) [
      | true ↦ refl
      | false ↦ omega (arith, length-append (be16 seconds) (be16 0), length-be16 seconds, length-be16 0)
    ]
rule_size seconds (Some place) = omega (arith, length-append (be16 seconds) (be16 place), length-be16 seconds, length-be16 place)

pub length-rule_bytes : (x : RuleRecord) → length (rule_bytes x) ≡ 4 * rule_words x
unfolding rule_bytes rule_words
length-rule_bytes x = simp (length-append, length-be16, length-be32) (omega (arith, rule_size x.cac_s x.wmm))

pub rule_length-low : (seconds : ℕ) (wmm : Option ℕ) → 16 ≤ rule_length seconds wmm
rule_length-low seconds None = elim (seconds == 0) as (λ t. 16 ≤ (if t then 16 else 18)) [ true ↦ omega arith | false ↦ omega arith ]
rule_length-low seconds (Some place) = omega arith

pub rule_length-without : (seconds : ℕ) → rule_length seconds None < 20
rule_length-without seconds = elim (seconds == 0) as (λ t. (if t then 16 else 18) < 20) [ true ↦ omega arith | false ↦ omega arith ]

-- what a rule's record says is within it
pub rule_length-le : (x : RuleRecord) → rule_length x.cac_s x.wmm ≤ 4 * rule_words x
unfolding rule_words
rule_length-le x = omega arith

pub length-pointers : (places : List ℕ) → length (flat_map be16 places) ≡ 2 * length places
length-pointers [] = refl
length-pointers (p ∷ places) = omega (arith, length-append (be16 p) (flat_map be16 places), length-be16 p, length-pointers places)

length-padding : (n : ℕ) → 4 + 2 * n + length (collection_padding n) ≡ 4 * (1 + (n + 1) / 2)
unfolding collection_padding
length-padding n =
    let odd : n % 2 ≢ 0 → n % 2 ≡ 1 = λ ne. omega arith in
    elim (cases_eq (n % 2) 0) [
      | inl e ↦ rw e (omega arith)
      | inr ne ↦ rw (odd ne) (omega (arith, length-be16 0))
    ]

pub length-collection_bytes : (c : CollectionRecord) → length (collection_bytes c) ≡ 4 * collection_words c
unfolding collection_bytes collection_words
length-collection_bytes c =
    omega (arith, length-append (flat_map be16 c.rules) (collection_padding (length c.rules)), length-pointers c.rules, length-padding (length c.rules))

pub length-entry : (place : Domain → ℕ) (d : Domain) → length (domain_entry place d) ≡ 4 * 1
unfolding domain_entry
length-entry place d = omega (arith, length-be16 (place d))
