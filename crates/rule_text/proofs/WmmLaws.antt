-- What is kept of WMM rules says what the lines say, a further line included.
use Rattle.std.proofs.Common.{◌≡◌, ◌≢◌, ℕ, ◌+◌, ◌⊎◌, true, false, List, [], ◌∷◌, length, Option, Some, None, option_map, arith, refl, sym, subst, ◌∙◌, ap, inl, inr}
use Rattle.std.proofs.lemmas.Bool.{cases_Bool, false_from_ne_true}
use Rattle.std.proofs.lemmas.Slice.Eq.{bytes_eq-Decides}
use Rattle.freq_range.specs.First.{IsFirst}
use Rattle.freq_range.specs.Valid.{IsValidEntry}
use Rattle.freq_range.specs.declared.wmm.Wmm.{Wmm}
use Rattle.freq_range.specs.declared.wmm.WmmEntry.{WmmEntry}
use Rattle.text_lines.specs.declared.form.Item.{Item}
use Rattle.rule_text.specs.declared.wmm_rules.WmmBlock.{WmmBlock}
use Rattle.rule_text.specs.Faults.{HasItem}
use Rattle.reg_base.specs.Texts.{same_bytes}
use Rattle.rule_text.specs.Forms.{Block, Form, block_of, item_entry, form_at, is_of_name, named_wmm, with_entry, wmm_of_name}
use Rattle.rule_text.specs.Forms.Block.{OfName}
use Rattle.rule_text.specs.Forms.Form.{Country, Empty, ItemLine, RuleLine, WmmHeader}
use Rattle.rule_text.specs.inner.State.{AddsItemTo, AreBlocks, Blocks, IsBlockOf, IsItemAdded, IsWmmHeaderAt, BlocksNameWmm, OpensWmm, block_named}
use Rattle.rule_text.proofs.FormLaws.{form_at_cases, form_at_more, form_at_top, form_at_within}

-- ---- names

pub same_bytes-itself : (name : List ℕ) → same_bytes name name ≡ true
same_bytes-itself name = (bytes_eq-Decides name name).1 refl

pub same_bytes-true : (name other : List ℕ) → same_bytes name other ≡ true → name ≡ other
same_bytes-true name other is = (bytes_eq-Decides name other).0 is

pub same_bytes-apart : (name other : List ℕ) → name ≢ other → same_bytes name other ≡ false
same_bytes-apart name other apart = false_from_ne_true (same_bytes name other) (λ t. apart (same_bytes-true name other t))

pub cases_name : (name other : List ℕ) → (name ≡ other) ⊎ (name ≢ other)
cases_name name other = elim (cases_Bool (same_bytes name other)) [
  | inl is ↦ inl (same_bytes-true name other is)
  | inr differ ↦ inr (λ same. let e = (bytes_eq-Decides name other).1 same in cc)
]

pub is_of_name-apart : (name other : List ℕ) (block : Block) → block ≡ OfName name → other ≢ name → is_of_name other block ≡ false
is_of_name-apart name other block is apart = subst (λ b. is_of_name other b ≡ false) (sym is) (same_bytes-apart name other (λ e. apart (sym e)))

pub is_of_name-here : (name : List ℕ) (block : Block) → block ≡ OfName name → is_of_name name block ≡ true
is_of_name-here name block is = subst (λ b. is_of_name name b ≡ true) (sym is) (same_bytes-itself name)

-- ---- headers of WMM rules

-- a name that has a header has a WMM rule
pub wmm_of-header : (forms : List Form) (name : List ℕ) (k : ℕ) → IsWmmHeaderAt forms name k → wmm_of_name name forms ≢ None
wmm_of-header [] name k at = absurd cc
wmm_of-header (form ∷ above) name k at = elim (form_at_cases (WmmHeader name) form above k at) [
  | inl top ↦ subst (λ f. wmm_of_name name (f ∷ above) ≢ None) (sym top.1) (rw (same_bytes-itself name) (λ none. absurd cc))
  | inr later ↦ by_form form (wmm_of-header above name k later)
]
  where
    mapped : {X Y : Type 0} (f : X → Y) (o : Option X) → o ≢ None → option_map f o ≢ None
    mapped f None some = absurd (some refl)
    mapped f (Some x) some = λ none. absurd cc

    by_form : (form : Form) → wmm_of_name name above ≢ None → wmm_of_name name (form ∷ above) ≢ None
    by_form Empty some = some
    by_form (Country cs region) some = some
    by_form (RuleLine rule n) some = some
    by_form (WmmHeader other) some = elim (cases_Bool (same_bytes other name)) [
      | inl is ↦ rw is (λ none. absurd cc)
      | inr differ ↦ rw differ some
    ]
    by_form (ItemLine item e) some = elim (cases_Bool (is_of_name name (block_of above))) [
      | inl is ↦ rw is (mapped (with_entry item e) (wmm_of_name name above) some)
      | inr differ ↦ rw differ some
    ]

-- the open WMM rule has a header
pub open_header : (forms : List Form) (name : List ℕ) → block_of forms ≡ OfName name → (k : ℕ) × IsWmmHeaderAt forms name k
open_header [] name is = absurd cc
open_header (Empty ∷ above) name is = let h = open_header above name is in (h.0, form_at_more (WmmHeader name) Empty above h.0 h.1)
open_header (Country cs region ∷ above) name is = absurd cc
open_header (WmmHeader other ∷ above) name is = let same : other ≡ name = cc in (length above, subst (λ n. form_at (WmmHeader other ∷ above) (length above) ≡ Some (WmmHeader n)) same (form_at_top (WmmHeader other) above))
open_header (ItemLine item e ∷ above) name is = let h = open_header above name is in (h.0, form_at_more (WmmHeader name) (ItemLine item e) above h.0 h.1)
open_header (RuleLine rule n ∷ above) name is = let h = open_header above name is in (h.0, form_at_more (WmmHeader name) (RuleLine rule n) above h.0 h.1)

first_wmm-more : (form : Form) (above : List Form) (name : List ℕ) (k : ℕ) → IsFirst (IsWmmHeaderAt above name) k → IsFirst (IsWmmHeaderAt (form ∷ above) name) k
first_wmm-more form above name k first = record {
  here = form_at_more (WmmHeader name) form above k first.here;
  none_before = λ j less at.
      let within = form_at_within above k (WmmHeader name) first.here in
      elim (form_at_cases (WmmHeader name) form above j at) [
        | inl top ↦ omega (arith, top.0, less, within)
        | inr later ↦ first.none_before j less later
      ];
}

-- ---- lines that change nothing of a name

same_block : (form : Form) (above : List Form) (name : List ℕ) (o : Option WmmBlock) → wmm_of_name name (form ∷ above) ≡ wmm_of_name name above
    → IsBlockOf above name o → IsBlockOf (form ∷ above) name o
same_block form above name None same is = same ∙ is
same_block form above name (Some block) same is = (same ∙ is.0, is.1, is.2, first_wmm-more form above name is.1 is.3)

-- a line that is neither a header of a WMM rule nor an item
abbrev pub IsElse : Form → Type 0
IsElse (WmmHeader name) = ⊥
IsElse (ItemLine item e) = ⊥
IsElse form = Unit {0}

pub quiet_blocks : (form : Form) (above : List Form) (blocks : Blocks) → IsElse form → AreBlocks above blocks → AreBlocks (form ∷ above) blocks
quiet_blocks Empty above blocks quiet are = λ name. same_block Empty above name (block_named blocks name) refl (are name)
quiet_blocks (Country cs region) above blocks quiet are = λ name. same_block (Country cs region) above name (block_named blocks name) refl (are name)
quiet_blocks (RuleLine rule n) above blocks quiet are = λ name. same_block (RuleLine rule n) above name (block_named blocks name) refl (are name)
quiet_blocks (WmmHeader name) above blocks quiet are = absurd quiet
quiet_blocks (ItemLine item e) above blocks quiet are = absurd quiet

no_wmm : (forms : List Form) (name : List ℕ) (o : Option WmmBlock) → IsBlockOf forms name o → o ≡ None → wmm_of_name name forms ≡ None
no_wmm forms name None is none = is
no_wmm forms name (Some block) is none = absurd cc

-- ---- a header

pub opened_blocks : (name : List ℕ) (line : ℕ) (above : List Form) (old new : Blocks) → line ≡ length above + 1 → AreBlocks above old → OpensWmm name line old new
    → AreBlocks (WmmHeader name ∷ above) new
opened_blocks name line above old new at are opens other = elim (cases_name other name) [
  | inr apart ↦ subst (IsBlockOf (WmmHeader name ∷ above) other) (sym (opens.others other apart))
      (same_block (WmmHeader name) above other (block_named old other) (rw (same_bytes-apart name other (λ e. apart (sym e))) refl) (are other))
  | inl same ↦ subst (λ n. IsBlockOf (WmmHeader name ∷ above) n (block_named new n)) (sym same)
      (subst (IsBlockOf (WmmHeader name ∷ above) name) (sym opens.here) (
        rw (same_bytes-itself name) refl,
        length above,
        at,
        record {
          here = form_at_top (WmmHeader name) above;
          none_before = λ j less header. elim (form_at_cases (WmmHeader name) (WmmHeader name) above j header) [
            | inl top ↦ omega (arith, top.0, less)
            | inr later ↦ wmm_of-header above name j later (no_wmm above name (block_named old name) (are name) opens.fresh)
          ];
        },
      ))
]

pub opened_twice : (name : List ℕ) (above : List Form) (blocks : Blocks) (block : WmmBlock) → AreBlocks above blocks → block_named blocks name ≡ Some block → wmm_of_name name above ≢ None
opened_twice name above blocks block are is none =
    let here = subst (IsBlockOf above name) is (are name) in
    let e : Some block.wmm ≡ None = sym here.0 ∙ none in absurd cc

pub opened_once : (name : List ℕ) (line : ℕ) (above : List Form) (old new : Blocks) → AreBlocks above old → OpensWmm name line old new → wmm_of_name name above ≡ None
opened_once name line above old new are opens = no_wmm above name (block_named old name) (are name) opens.fresh

-- ---- an item

-- the open WMM rule is kept
pub open_block : (name : List ℕ) (above : List Form) (blocks : Blocks) → block_of above ≡ OfName name → AreBlocks above blocks
    → (block : WmmBlock) × (block_named blocks name ≡ Some block) × IsBlockOf above name (Some block)
open_block name above blocks is are = by_option (block_named blocks name) refl (are name)
  where
    by_option : (o : Option WmmBlock) → block_named blocks name ≡ o → IsBlockOf above name o → (block : WmmBlock) × (block_named blocks name ≡ Some block) × IsBlockOf above name (Some block)
    by_option None e none = let h = open_header above name is in absurd (wmm_of-header above name h.0 h.1 none)
    by_option (Some block) e here = (block, e, here)

pub added_blocks : (name : List ℕ) (item : Item) (entry : WmmEntry) (above : List Form) (old new : Blocks) → block_of above ≡ OfName name → AreBlocks above old
    → AddsItemTo name item entry old new → AreBlocks (ItemLine item entry ∷ above) new
added_blocks name item entry above old new is are adds other = elim (cases_name other name) [
  | inr apart ↦ subst (IsBlockOf (ItemLine item entry ∷ above) other) (sym (adds.others other apart))
      (same_block (ItemLine item entry) above other (block_named old other) (rw (is_of_name-apart name other (block_of above) is apart) refl) (are other))
  | inl same ↦ subst (λ n. IsBlockOf (ItemLine item entry ∷ above) n (block_named new n)) (sym same) (
      let block = open_block name above old is are in
      let change = subst (λ o. IsItemAdded item entry o (block_named new name)) block.1 adds.here in
      subst (IsBlockOf (ItemLine item entry ∷ above) name) (sym change.1) (
        rw (is_of_name-here name (block_of above) is) (ap (option_map (with_entry item entry)) block.2.0 ∙ ap (λ (b : WmmBlock). Some b.wmm) (sym change.2.changed)),
        block.2.1,
        ap (λ (b : WmmBlock). b.line) change.2.changed ∙ block.2.2,
        first_wmm-more (ItemLine item entry) above name block.2.1 block.2.3,
      ))
]

-- the item is named already; or it wasn't
pub item_there : (name : List ℕ) (item : Item) (above : List Form) (blocks : Blocks) (block : WmmBlock) → block_of above ≡ OfName name → AreBlocks above blocks
    → block_named blocks name ≡ Some block → IsValidEntry (item_entry item block.wmm) → HasItem above item
item_there name item above blocks block is are here valid =
    let of = subst (IsBlockOf above name) here (are name) in
    (name, is, block.wmm, of.0, valid)

pub item_not_there : (name : List ℕ) (item : Item) (entry : WmmEntry) (above : List Form) (old new : Blocks) → block_of above ≡ OfName name → AreBlocks above old
    → AddsItemTo name item entry old new → HasItem above item → ⊥
item_not_there name item entry above old new is are adds (other, open', wmm, of, valid) =
    let same : other ≡ name = let e = sym open' ∙ is in cc in
    let block = open_block name above old is are in
    let change = subst (λ o. IsItemAdded item entry o (block_named new name)) block.1 adds.here in
    let one : Some wmm ≡ Some block.0.wmm = sym (subst (λ n. wmm_of_name n above ≡ Some wmm) same of) ∙ block.2.0 in
    let two : wmm ≡ block.0.wmm = cc in
    change.2.unnamed (subst (λ w. IsValidEntry (item_entry item w)) two valid)

-- ---- the WMM rule that a rule names

pub named_is : (above : List Form) (blocks : Blocks) (name : Option (List ℕ)) (wmm : Option Wmm) → AreBlocks above blocks → BlocksNameWmm blocks name wmm → wmm ≡ named_wmm above name
named_is above blocks None wmm are is = is
named_is above blocks (Some name) wmm are (block, here, is) = let of = subst (IsBlockOf above name) here (are name) in is ∙ sym of.0

pub named_none : (above : List Form) (blocks : Blocks) (name : List ℕ) → AreBlocks above blocks → block_named blocks name ≡ None → wmm_of_name name above ≡ None
named_none above blocks name are none = no_wmm above name (block_named blocks name) (are name) none

pub named_some : (above : List Form) (blocks : Blocks) (name : List ℕ) (wmm : Option Wmm) → AreBlocks above blocks → BlocksNameWmm blocks (Some name) wmm → wmm_of_name name above ≢ None
named_some above blocks name wmm are (block, here, is) = opened_twice name above blocks block are here
