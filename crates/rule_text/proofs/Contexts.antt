-- What can be told of the lines above one.
use Rattle.std.proofs.Common.{◌≡◌, ◌≢◌, ℕ, ◌<◌, ◌⊎◌, List, length, Contains, Option, Some, None, refl, sym, subst, ◌∙◌, inl, inr}
use Rattle.std.proofs.lemmas.Option.{none-some, same_Some}
use Rattle.freq_range.proofs.Deciding.{Told, told_any, told_lt}
use Rattle.freq_range.proofs.ToldRules.{told_entry}
use Rattle.freq_range.specs.Valid.{IsValidEntry}
use Rattle.freq_range.specs.declared.wmm.Wmm.{Wmm}
use Rattle.rule_tables.proofs.Dropped.{DropsRepeats-unique, dropped}
use Rattle.rule_tables.specs.declared.code.Alpha2.{Alpha2}
use Rattle.rule_tables.specs.declared.code.Region.{Region}
use Rattle.text_lines.specs.declared.form.Item.{Item}
use Rattle.rule_text.specs.Faults.{HasItem, HasTooManyRules, IsContradicted, IsInCountries, IsInWmm}
use Rattle.rule_text.specs.Forms.{Block, Form, NamesCode, block_of, item_entry, rules_of, wmm_of_name}
use Rattle.rule_text.specs.Forms.Block.{NoBlock, OfCountries, OfName}
use Rattle.rule_text.specs.Forms.Form.{Country, Empty, ItemLine, RuleLine, WmmHeader}
use Rattle.rule_text.proofs.FormLaws.{cases_among, same_header}
use Rattle.rule_text.proofs.Unique.{cases_region}

-- ---- the last header

pub told_in_countries : (above : List Form) → Told (IsInCountries above)
told_in_countries above = by_block (block_of above) refl
  where
    by_block : (block : Block) → block_of above ≡ block → Told (IsInCountries above)
    by_block (OfCountries cs) is = inl (cs, is)
    by_block NoBlock is = inr (λ in_countries. let e = sym is ∙ in_countries.1 in cc)
    by_block (OfName name) is = inr (λ in_countries. let e = sym is ∙ in_countries.1 in cc)

pub told_in_wmm : (above : List Form) → Told (IsInWmm above)
told_in_wmm above = by_block (block_of above) refl
  where
    by_block : (block : Block) → block_of above ≡ block → Told (IsInWmm above)
    by_block (OfName name) is = inl (name, is)
    by_block NoBlock is = inr (λ in_wmm. let e = sym is ∙ in_wmm.1 in cc)
    by_block (OfCountries cs) is = inr (λ in_wmm. let e = sym is ∙ in_wmm.1 in cc)

same_name_block : (name other : List ℕ) → OfName name ≡ OfName other → name ≡ other
same_name_block name other e = cc

pub same_codes_block : (cs ds : List Alpha2) → OfCountries cs ≡ OfCountries ds → cs ≡ ds
same_codes_block cs ds e = cc

told_item : (above : List Form) (item : Item) (name : List ℕ) (o : Option Wmm) → block_of above ≡ OfName name → wmm_of_name name above ≡ o → Told (HasItem above item)
told_item above item name None here at = inr (λ has.
    let same = same_name_block has.0 name (sym has.1 ∙ here) in
    none-some has.2 (sym at ∙ subst (λ n. wmm_of_name n above ≡ Some has.2) same has.3))
told_item above item name (Some w) here at = elim (told_entry (item_entry item w)) [
  | inl valid ↦ inl (name, here, w, at, valid)
  | inr never ↦ inr (λ has.
      let same = same_name_block has.0 name (sym has.1 ∙ here) in
      let one = same_Some w has.2 (sym at ∙ subst (λ n. wmm_of_name n above ≡ Some has.2) same has.3) in
      never (subst (λ x. IsValidEntry (item_entry item x)) (sym one) has.4))
]

-- whether the open WMM rule has the item
pub told_has_item : (above : List Form) (item : Item) → Told (HasItem above item)
told_has_item above item = by_block (block_of above) refl
  where
    by_block : (block : Block) → block_of above ≡ block → Told (HasItem above item)
    by_block (OfName name) is = told_item above item name (wmm_of_name name above) is refl
    by_block NoBlock is = inr (λ has. let e = sym is ∙ has.1 in cc)
    by_block (OfCountries cs) is = inr (λ has. let e = sym is ∙ has.1 in cc)

-- ---- headers of countries

-- the line is a header that names the code, with a region of this kind
abbrev NamesWith : Alpha2 → (Region → Type 0) → Form → Type 0
NamesWith code Q form = (cs : List Alpha2) × (region : Region) × (form ≡ Country cs region) × Contains cs code × Q region

told_names : (code : Alpha2) (Q : Region → Type 0) → ((r : Region) → Told (Q r)) → (form : Form) → Told (NamesWith code Q form)
told_names code Q tell (Country cs region) = elim (cases_among code cs) [
  | inr none ↦ inr (λ n. none.0 (subst (λ xs. Contains xs code) (sym (same_header cs n.0 region n.1 n.2).0) n.3))
  | inl among ↦ elim (tell region) [
    | inl is ↦ inl (cs, region, refl, among.0, is)
    | inr never ↦ inr (λ n. never (subst Q (sym (same_header cs n.0 region n.1 n.2).1) n.4))
  ]
]
told_names code Q tell Empty = inr (λ n. let e = n.2 in cc)
told_names code Q tell (WmmHeader name) = inr (λ n. let e = n.2 in cc)
told_names code Q tell (ItemLine item entry) = inr (λ n. let e = n.2 in cc)
told_names code Q tell (RuleLine rule name) = inr (λ n. let e = n.2 in cc)

-- whether some header names the code, with a region of this kind
pub named_with : (forms : List Form) (code : Alpha2) (Q : Region → Type 0) → ((r : Region) → Told (Q r))
    → ((r : Region) × NamesCode forms code r × Q r) ⊎ ((r : Region) → NamesCode forms code r → Q r → ⊥)
named_with forms code Q tell = elim (told_any (NamesWith code Q) (told_names code Q tell) forms) [
  | inl found ↦
      let named = found.2 in
      inl (named.1, (named.0, subst (Contains forms) named.2 found.1, named.3), named.4)
  | inr none ↦ inr (λ r named is. none (Country named.0 r) named.1 (named.0, r, refl, named.2, is))
]

pub told_named : (forms : List Form) (code : Alpha2) → ((r : Region) × NamesCode forms code r) ⊎ ((r : Region) → NamesCode forms code r → ⊥)
told_named forms code = elim (named_with forms code (λ r. Unit {0}) (λ r. inl tt)) [
  | inl found ↦ inl (found.0, found.1)
  | inr none ↦ inr (λ r named. none r named tt)
]

told_other : (r s : Region) → Told (r ≢ s)
told_other r s = elim (cases_region r s) [
  | inl same ↦ inr (λ apart. apart same)
  | inr apart ↦ inl apart
]

-- whether an earlier header has one of the codes with another region
pub told_contradicted : (above : List Form) (cs : List Alpha2) (region : Region) → Told (IsContradicted above cs region)
told_contradicted above cs region =
    elim (told_any (λ code. (other : Region) × NamesCode above code other × (other ≢ region)) (λ code. elim (named_with above code (λ r. r ≢ region) (λ r. told_other r region)) [
      | inl found ↦ inl found
      | inr none ↦ inr (λ n. none n.0 n.1 n.2)
    ]) cs) [
      | inl found ↦ inl (found.0, found.2.0, found.1, found.2.1, found.2.2)
      | inr none ↦ inr (λ c. none c.0 c.2 (c.1, c.3, c.4))
    ]

-- ---- rules

-- whether a code has more than 128 rules
pub told_too_many : (forms : List Form) (code : Alpha2) → Told (HasTooManyRules forms code)
told_too_many forms code =
    let kept = dropped (rules_of code forms) in
    elim (told_lt 128 (length kept.0)) [
      | inl many ↦ inl (kept.0, kept.1, many)
      | inr few ↦ inr (λ has. few (subst (λ xs. 128 < length xs) (DropsRepeats-unique (rules_of code forms) has.0 kept.0 has.1 kept.1) has.2))
    ]
