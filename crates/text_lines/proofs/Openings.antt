-- How a line begins: what is read is spelled so, what is spelled so is read, and a line begins in one way.
use Rattle.std.proofs.Common.{◌≡◌, ℕ, List, ◌++◌, Option, Some, None, ◌⊎◌, inl, inr, refl, ap, ◌∙◌, sym, subst}
use Rattle.std.specs.Prelude.{codes}
use Rattle.std.proofs.lemmas.Option.{same_Some}
use Rattle.text_lines.specs.declared.form.Item.{Item}
use Rattle.text_lines.specs.declared.form.Item.TheVariants.{VoC, ViC, BeC, BkC, VoAp, ViAp, BeAp, BkAp}
use Rattle.text_lines.specs.declared.form.Opening.{Opening}
use Rattle.text_lines.specs.declared.form.Opening.TheVariants.{Country as OfCountry, Wmm as OfWmm, Rule as OfRule, Item as OfItem}
use Rattle.text_lines.specs.inner.Reading.{after_byte, after_word, begins_with, item_at, item_opening, opening_at}
use Rattle.text_lines.specs.Spelling.{Opens, opening_text}
use Rattle.text_lines.proofs.Words.{begins_with-reads, chosen, known}

pub opening_at-again : (opening : Opening) (rest : List ℕ) → opening_at (opening_text opening ++ rest) ≡ Some opening
unfolding opening_at item_at after_word after_byte
opening_at-again OfCountry rest = refl
opening_at-again OfWmm rest = refl
opening_at-again OfRule rest = refl
opening_at-again (OfItem VoC) rest = refl
opening_at-again (OfItem ViC) rest = refl
opening_at-again (OfItem BeC) rest = refl
opening_at-again (OfItem BkC) rest = refl
opening_at-again (OfItem VoAp) rest = refl
opening_at-again (OfItem ViAp) rest = refl
opening_at-again (OfItem BeAp) rest = refl
opening_at-again (OfItem BkAp) rest = refl

item_at-reads : (bs : List ℕ) (item : Item) → item_at bs ≡ Some item → Opens bs (OfItem item)
unfolding item_at
item_at-reads bs item =
    let P : Item → Type 0 = λ item. Opens bs (OfItem item) in
    chosen P (begins_with (codes "vo_c:") bs) VoC _ item (begins_with-reads (codes "vo_c:") bs) (
    chosen P (begins_with (codes "vi_c:") bs) ViC _ item (begins_with-reads (codes "vi_c:") bs) (
    chosen P (begins_with (codes "be_c:") bs) BeC _ item (begins_with-reads (codes "be_c:") bs) (
    chosen P (begins_with (codes "bk_c:") bs) BkC _ item (begins_with-reads (codes "bk_c:") bs) (
    chosen P (begins_with (codes "vo_ap:") bs) VoAp _ item (begins_with-reads (codes "vo_ap:") bs) (
    chosen P (begins_with (codes "vi_ap:") bs) ViAp _ item (begins_with-reads (codes "vi_ap:") bs) (
    chosen P (begins_with (codes "be_ap:") bs) BeAp _ item (begins_with-reads (codes "be_ap:") bs) (
    chosen P (begins_with (codes "bk_ap:") bs) BkAp None item (begins_with-reads (codes "bk_ap:") bs) (λ e. absurd cc))))))))

item_opening-reads : (bs : List ℕ) (o : Option Item) (opening : Opening) → ((item : Item) → o ≡ Some item → Opens bs (OfItem item)) → item_opening o ≡ Some opening → Opens bs opening
item_opening-reads bs None opening h e = absurd cc
item_opening-reads bs (Some item) opening h e = subst (Opens bs) (same_Some (OfItem item) opening e) (h item refl)

pub opening_at-reads : (bs : List ℕ) (opening : Opening) → opening_at bs ≡ Some opening → Opens bs opening
unfolding opening_at
opening_at-reads bs opening =
    chosen (Opens bs) (begins_with (codes "country") bs) OfCountry _ opening (begins_with-reads (codes "country") bs) (
    chosen (Opens bs) (begins_with (codes "wmmrule") bs) OfWmm _ opening (begins_with-reads (codes "wmmrule") bs) (
    chosen (Opens bs) (begins_with (codes "(") bs) OfRule (item_opening (item_at bs)) opening (begins_with-reads (codes "(") bs) (
    item_opening-reads bs (item_at bs) opening (item_at-reads bs))))

pub Opens-read : (line : List ℕ) (opening : Opening) → Opens line opening → opening_at line ≡ Some opening
Opens-read line opening h = ap opening_at h.1 ∙ opening_at-again opening h.0

pub opening_at-none : (line : List ℕ) → opening_at line ≡ None → (opening : Opening) → Opens line opening → ⊥
opening_at-none line none opening h = let read = Opens-read line opening h in cc

-- a line begins in one way
pub Opens-unique : (line : List ℕ) (o p : Opening) → Opens line o → Opens line p → o ≡ p
Opens-unique line o p x y = same_Some o p (sym (Opens-read line o x) ∙ Opens-read line p y)

-- a line begins in some way, or in none
pub decide_opening : (line : List ℕ) → ((opening : Opening) × Opens line opening) ⊎ ((opening : Opening) → Opens line opening → ⊥)
decide_opening line = known (opening_at line) (λ none. inr (opening_at-none line none)) (λ opening e. inl (opening, opening_at-reads line opening e))
