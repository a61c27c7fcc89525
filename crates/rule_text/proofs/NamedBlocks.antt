-- The WMM rules by their names: what a change at one name leaves at the others.
use Rattle.std.proofs.Common.{◌≡◌, ◌≢◌, ℕ, true, false, List, Option, Some, None, refl, sym, subst, ◌∙◌}
use Rattle.std.proofs.lemmas.Bool.{false_from_ne_true}
use Rattle.std.proofs.lemmas.Cmp.{eq_by_cmp_equiv, nat_list_cmp_total}
use Rattle.std.proofs.lemmas.Map.Text.{is_eq-slice_cmp}
use Rattle.std.proofs.lemmas.Slice.Eq.{bytes_eq-Decides}
use Rattle.std.specs.BTreeMap.{is_at}
use Rattle.std.specs.Cmp.Lexicographic.{slice_cmp}
use Rattle.std.specs.Map.{KeepsOthers, lookup}
use Rattle.std.specs.Option.{is_some}
use Rattle.std.specs.Ordering.{eq_by_cmp, is_eq, nat_cmp}
use Rattle.std.specs.declared.alloc.Global.{Global}
use Rattle.std.specs.declared.vec.Vec.{Vec}
use Rattle.freq_range.specs.declared.wmm.WmmEntry.{WmmEntry}
use Rattle.text_lines.specs.declared.form.Item.{Item}
use Rattle.rule_text.specs.declared.wmm_rules.WmmBlock.{WmmBlock}
use Rattle.rule_text.specs.Forms.{no_items}
use Rattle.rule_text.specs.inner.State.{AddsItem, AddsItemTo, Blocks, IsItemAdded, KeepsOtherNames, OpensWmm, block_named}

apart : (name other key : List ℕ) → other ≢ name → is_eq (slice_cmp nat_cmp name key) ≡ true → is_eq (slice_cmp nat_cmp other key) ≡ false
apart name other key differ here =
    let same : name ≡ key = (bytes_eq-Decides name key).0 (sym (is_eq-slice_cmp name key) ∙ here) in
    is_eq-slice_cmp other key ∙ false_from_ne_true _ (λ t. differ ((bytes_eq-Decides other key).0 t ∙ sym same))

-- what is found at another name
pub at_other : (name other : List ℕ) (old new : List (Vec ℕ Global × WmmBlock)) → other ≢ name
    → KeepsOthers (eq_by_cmp (λ (x y : Vec ℕ Global). slice_cmp nat_cmp x.items y.items)) (is_at (λ (k : Vec ℕ Global). slice_cmp nat_cmp name k.items)) old new
    → lookup (is_at (λ (k : Vec ℕ Global). slice_cmp nat_cmp other k.items)) new ≡ lookup (is_at (λ (k : Vec ℕ Global). slice_cmp nat_cmp other k.items)) old
unfolding KeepsOthers
at_other name other old new differ keeps =
    keeps (is_at (λ (k : Vec ℕ Global). slice_cmp nat_cmp other k.items))
    (λ x y. (eq_by_cmp_equiv nat_list_cmp_total).congr other x.items y.items)
    (λ k. apart name other k.items differ)

pub found : {X : Type 0} (o : Option X) → is_some o ≡ true → (x : X) × (o ≡ Some x)
found (Some x) is = (x, refl)
found None is = absurd cc

pub not_found : {X : Type 0} (o : Option X) → is_some o ≡ false → o ≡ None
not_found (Some x) is = absurd cc
not_found None is = refl

-- nothing but the entry at the name changes
abbrev pub KeepsEntries : List ℕ → Blocks → Blocks → Type 0
KeepsEntries name old new =
    KeepsOthers (eq_by_cmp (λ (x y : Vec ℕ Global). slice_cmp nat_cmp x.items y.items)) (is_at (λ (k : Vec ℕ Global). slice_cmp nat_cmp name k.items)) old.entries new.entries

keeps_names : (name : List ℕ) (old new : Blocks) → KeepsEntries name old new → KeepsOtherNames name old new
keeps_names name old new keeps = λ other differ. at_other name other old.entries new.entries differ keeps

pub opens : (name key : List ℕ) (line : ℕ) (old new : Blocks) → key ≡ name → KeepsEntries key old new
    → block_named new key ≡ Some (record { line = line; wmm = no_items }) → block_named old name ≡ None → OpensWmm name line old new
opens name key line old new same keeps here fresh = record {
  others = keeps_names name old new (subst (λ n. KeepsEntries n old new) same keeps);
  fresh = fresh;
  here = subst (λ n. block_named new n ≡ Some (record { line = line; wmm = no_items })) same here;
}

pub adds : (name : List ℕ) (item : Item) (entry : WmmEntry) (old new : Blocks) (block changed : WmmBlock) → block_named old name ≡ Some block → KeepsEntries name old new
    → block_named new name ≡ Some changed → AddsItem item entry block changed → AddsItemTo name item entry old new
adds name item entry old new block changed was keeps here added = record {
  others = keeps_names name old new keeps;
  here = subst (λ o. IsItemAdded item entry o (block_named new name)) (sym was) (changed, here, added);
}
