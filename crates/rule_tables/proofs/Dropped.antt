-- Lists of rules in which each rule that stands earlier is dropped.
use Rattle.std.proofs.Common.{◌≡◌, ◌≢◌, ◌≤◌, List, [], ◌∷◌, ◌++◌, length, get_or, Contains, arith, refl, sym, ◌∙◌, ap, subst, inl, inr}
use Rattle.std.proofs.lemmas.List.{length-append}
use Rattle.std.proofs.lemmas.List.Elements.{Contains-append_left, Contains-append_right, Contains-append_cases, Contains-get_or}
use Rattle.std.proofs.lemmas.List.Quantifiers.{all_pairs_push}
use Rattle.freq_range.proofs.Deciding.{told_among}
use Rattle.freq_range.proofs.Members.{Contains-cases, Contains-head, Contains-later, Contains-nothing}
use Rattle.freq_range.proofs.ToldRules.{tells_rule}
use Rattle.freq_range.specs.declared.rule.Rule.{Rule}
use Rattle.rule_tables.specs.Domains.{AreDistinct}
use Rattle.rule_tables.specs.FileFormat.{DropsRepeats}

-- each rule is kept
pub DropsRepeats-keeps : (rules kept : List Rule) (r : Rule) → DropsRepeats rules kept → Contains rules r → Contains kept r
DropsRepeats-keeps [] kept r drops has = absurd (Contains-nothing r has)
DropsRepeats-keeps (first ∷ earlier) kept r (rest, before, inl same) has =
    subst (λ xs. Contains xs r) (sym same.1) (DropsRepeats-keeps earlier rest r before (elim (Contains-cases first earlier r has) [
      | inl is ↦ subst (Contains earlier) is same.0
      | inr later ↦ later
    ]))
DropsRepeats-keeps (first ∷ earlier) kept r (rest, before, inr added) has =
    subst (λ xs. Contains xs r) (sym added.1) (elim (Contains-cases first earlier r has) [
      | inl is ↦ subst (λ x. Contains (rest ++ x ∷ []) r) (sym is) (Contains-append_right rest (r ∷ []) r (Contains-head r []))
      | inr later ↦ Contains-append_left rest (first ∷ []) r (DropsRepeats-keeps earlier rest r before later)
    ])

-- no other is kept
pub DropsRepeats-only : (rules kept : List Rule) (r : Rule) → DropsRepeats rules kept → Contains kept r → Contains rules r
DropsRepeats-only [] kept r drops has = absurd (Contains-nothing r (subst (λ xs. Contains xs r) drops has))
DropsRepeats-only (first ∷ earlier) kept r (rest, before, inl same) has =
    Contains-later first earlier r (DropsRepeats-only earlier rest r before (subst (λ xs. Contains xs r) same.1 has))
DropsRepeats-only (first ∷ earlier) kept r (rest, before, inr added) has =
    elim (Contains-append_cases rest (first ∷ []) r (subst (λ xs. Contains xs r) added.1 has)) [
      | inl early ↦ Contains-later first earlier r (DropsRepeats-only earlier rest r before early)
      | inr late ↦ elim (Contains-cases first [] r late) [
        | inl is ↦ subst (Contains (first ∷ earlier)) is (Contains-head first earlier)
        | inr none ↦ absurd (Contains-nothing r none)
      ]
    ]

-- one list is kept
pub DropsRepeats-unique : (rules kept other : List Rule) → DropsRepeats rules kept → DropsRepeats rules other → kept ≡ other
DropsRepeats-unique [] kept other p q = p ∙ sym q
DropsRepeats-unique (first ∷ earlier) kept other (rest, before, inl same) (rest', before', inl same') =
    same.1 ∙ DropsRepeats-unique earlier rest rest' before before' ∙ sym same'.1
DropsRepeats-unique (first ∷ earlier) kept other (rest, before, inl same) (rest', before', inr added) = absurd (added.0 same.0)
DropsRepeats-unique (first ∷ earlier) kept other (rest, before, inr added) (rest', before', inl same) = absurd (added.0 same.0)
DropsRepeats-unique (first ∷ earlier) kept other (rest, before, inr added) (rest', before', inr added') =
    added.1 ∙ ap (λ xs. xs ++ first ∷ []) (DropsRepeats-unique earlier rest rest' before before') ∙ sym added'.1

-- some list is kept
pub dropped : (rules : List Rule) → (kept : List Rule) × DropsRepeats rules kept
dropped [] = ([], refl)
dropped (rule ∷ earlier) = let rest = dropped earlier in elim (told_among tells_rule earlier rule) [
  | inl among ↦ (rest.0, (rest.0, rest.1, inl (among, refl)))
  | inr none ↦ (rest.0 ++ rule ∷ [], (rest.0, rest.1, inr (none, refl)))
]

-- no two of those that are kept are equal
pub dropped_distinct : (rules kept : List Rule) → DropsRepeats rules kept → AreDistinct kept
dropped_distinct [] kept drops = subst AreDistinct (sym drops) (λ i j d less in_range. absurd (omega (arith, in_range)))
dropped_distinct (rule ∷ earlier) kept (rest, before, inl same) = subst AreDistinct (sym same.1) (dropped_distinct earlier rest before)
dropped_distinct (rule ∷ earlier) kept (rest, before, inr added) =
    subst AreDistinct (sym added.1) (all_pairs_push (λ r s. r ≢ s) rest rule (dropped_distinct earlier rest before)
    (λ k d in_range same. added.0 (subst (Contains earlier) same (DropsRepeats-only earlier rest (get_or rest k d) before (Contains-get_or rest k d in_range)))))

-- no more are kept than there are
pub DropsRepeats-few : (rules kept : List Rule) → DropsRepeats rules kept → length kept ≤ length rules
DropsRepeats-few [] kept drops = let e : length kept ≡ 0 = ap length drops in omega (arith, e)
DropsRepeats-few (first ∷ earlier) kept (rest, before, inl same) =
    let few = DropsRepeats-few earlier rest before in
    let e : length kept ≡ length rest = ap length same.1 in
    omega (arith, few, e)
DropsRepeats-few (first ∷ earlier) kept (rest, before, inr added) =
    let few = DropsRepeats-few earlier rest before in
    let e : length kept ≡ length (rest ++ first ∷ []) = ap length added.1 in
    omega (arith, few, e, length-append rest (first ∷ []))
