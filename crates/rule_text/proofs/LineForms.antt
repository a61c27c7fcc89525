-- What the forms of lines are told by: a line opens in one way, has at most one form, and whether it has a form of a kind
-- is decided.
use Rattle.std.proofs.Common.{◌≡◌, ℕ, List, [], Option, Some, None, refl, ap, ◌∙◌, sym, subst, append_assoc, ◌++◌}
use Rattle.std.specs.Prelude.{codes}
use Rattle.std.proofs.lemmas.Option.{same_Some}
use Rattle.freq_range.specs.declared.rule.Rule.{Rule}
use Rattle.freq_range.specs.declared.wmm.WmmEntry.{WmmEntry}
use Rattle.rule_tables.specs.declared.code.Alpha2.{Alpha2}
use Rattle.rule_tables.specs.declared.code.Region.{Region}
use Rattle.text_lines.specs.declared.form.Item.{Item}
use Rattle.text_lines.specs.declared.form.Opening.{Opening}
use Rattle.text_lines.specs.declared.form.Opening.TheVariants.{Country as OfCountry, Wmm as OfWmm, Rule as OfRule, Item as OfItem}
use Rattle.rule_text.specs.Forms.{Form, IsForm}
use Rattle.rule_text.specs.Forms.Form.{Empty, Country, WmmHeader, ItemLine, RuleLine}
use Rattle.text_lines.specs.inner.Reading.{after_byte, after_word, item_at, opening_at}
use Rattle.text_lines.specs.Spelling.{HasCodes, IsHeader, IsItemLine, IsRuleLine, IsSpelledRule, IsWmmHeader, ItemText, Opens, RuleText, item_name}
use Rattle.text_lines.proofs.BareRules.{spelled-opens}
use Rattle.text_lines.proofs.Codes.{IsHeader-unique}
use Rattle.text_lines.proofs.Items.{IsItemLine-unique, item-cells}
use Rattle.text_lines.proofs.Names.{IsWmmHeader-unique}
use Rattle.text_lines.proofs.Openings.{Opens-read}
use Rattle.text_lines.proofs.RuleTexts.{IsRuleLine-unique}
pub use Rattle.text_lines.proofs.BareRules.{spelled-band, spelled-power}
pub use Rattle.text_lines.proofs.Codes.{HasCodes-unique, IsHeader-unique, decide_header}
pub use Rattle.text_lines.proofs.Items.{IsItemLine-unique, decide_entry}
pub use Rattle.text_lines.proofs.Names.{IsWmmHeader-unique, decide_wmm_name}
pub use Rattle.text_lines.proofs.Openings.{Opens-unique, decide_opening}
pub use Rattle.text_lines.proofs.RuleTexts.{IsRuleLine-unique, IsSpelledRule-unique, decide_rule}

-- ---- how the line of a form opens

pub IsHeader-opens : (line : List ℕ) (cs : List Alpha2) (region : Region) → IsHeader line cs region → Opens line OfCountry
IsHeader-opens line cs region h = (_, h.spelled)

pub HasCodes-opens : (line : List ℕ) (cs : List Alpha2) (rest : List ℕ) → HasCodes line cs rest → Opens line OfCountry
HasCodes-opens line cs rest h = (_, h.spelled)

pub IsWmmHeader-opens : (line name : List ℕ) → IsWmmHeader line name → Opens line OfWmm
IsWmmHeader-opens line name h = (_, h.spelled)

-- what stands behind the colon of an item
abbrev item_behind : ItemText → List ℕ
item_behind t = codes "cw_min=" ++ (t.cw_min ++ (codes ",cw_max=" ++ (t.cw_max ++ (codes ",aifsn=" ++ (t.aifsn ++ (codes ",cot=" ++ (t.cot ++ [])))))))

pub IsItemLine-opens : (line : List ℕ) (item : Item) (e : WmmEntry) → IsItemLine line item e → Opens line (OfItem item)
IsItemLine-opens line item e (t, spelled, means) =
    (item_behind t, spelled ∙ item-cells item t ∙ sym (append_assoc (item_name item) (codes ":") (item_behind t)))

pub IsSpelledRule-opens : (line : List ℕ) (t : RuleText) (rule : Rule) → IsSpelledRule line t rule → Opens line OfRule
IsSpelledRule-opens line t rule h = spelled-opens line t rule h

pub IsRuleLine-opens : (line : List ℕ) (rule : Rule) (name : Option (List ℕ)) → IsRuleLine line rule name → Opens line OfRule
IsRuleLine-opens line rule name h = spelled-opens line h.text rule h.is

empty-opening : opening_at [] ≡ None
unfolding opening_at item_at after_word after_byte
empty-opening = refl

-- nothing opens an empty line
pub Opens-some : (opening : Opening) → Opens [] opening → ⊥
Opens-some opening h = let read = sym (Opens-read [] opening h) ∙ empty-opening in absurd cc

-- ---- one form

abbrev opening_of : Form → Option Opening
opening_of Empty = None
opening_of (Country cs region) = Some OfCountry
opening_of (WmmHeader name) = Some OfWmm
opening_of (ItemLine item e) = Some (OfItem item)
opening_of (RuleLine rule name) = Some OfRule

form-opens : (line : List ℕ) (form : Form) → IsForm line form → opening_at line ≡ opening_of form
form-opens line Empty h = ap opening_at h ∙ empty-opening
form-opens line (Country cs region) h = Opens-read line OfCountry (IsHeader-opens line cs region h)
form-opens line (WmmHeader name) h = Opens-read line OfWmm (IsWmmHeader-opens line name h)
form-opens line (ItemLine item e) h = Opens-read line (OfItem item) (IsItemLine-opens line item e h)
form-opens line (RuleLine rule name) h = Opens-read line OfRule (IsRuleLine-opens line rule name h)

same-country : (cs ds : List Alpha2) (r s : Region) → cs ≡ ds → r ≡ s → Country cs r ≡ Country ds s
same-country cs ds r s p q = cc

same-item : (i j : Item) (d e : WmmEntry) → i ≡ j → d ≡ e → ItemLine i d ≡ ItemLine j e
same-item i j d e p q = cc

same-rule : (r s : Rule) (m n : Option (List ℕ)) → r ≡ s → m ≡ n → RuleLine r m ≡ RuleLine s n
same-rule r s m n p q = cc

item-of : (i j : Item) → ◌≡◌ {A = Option Opening} (Some (OfItem i)) (Some (OfItem j)) → i ≡ j
item-of i j e = let same = same_Some (OfItem i) (OfItem j) e in cc

one-form : (line : List ℕ) (f g : Form) → opening_of f ≡ opening_of g → IsForm line f → IsForm line g → f ≡ g
one-form line Empty Empty e p q = refl
one-form line Empty (Country ds other) e p q = absurd cc
one-form line Empty (WmmHeader title) e p q = absurd cc
one-form line Empty (ItemLine thing d) e p q = absurd cc
one-form line Empty (RuleLine stated title) e p q = absurd cc
one-form line (Country cs region) Empty e p q = absurd cc
one-form line (Country cs region) (Country ds other) e p q = let same = IsHeader-unique line cs ds region other p q in same-country cs ds region other same.0 same.1
one-form line (Country cs region) (WmmHeader title) e p q = absurd cc
one-form line (Country cs region) (ItemLine thing d) e p q = absurd cc
one-form line (Country cs region) (RuleLine stated title) e p q = absurd cc
one-form line (WmmHeader name) Empty e p q = absurd cc
one-form line (WmmHeader name) (Country ds other) e p q = absurd cc
one-form line (WmmHeader name) (WmmHeader title) e p q = ap WmmHeader (IsWmmHeader-unique line name title p q)
one-form line (WmmHeader name) (ItemLine thing d) e p q = absurd cc
one-form line (WmmHeader name) (RuleLine stated title) e p q = absurd cc
one-form line (ItemLine item e0) Empty e p q = absurd cc
one-form line (ItemLine item e0) (Country ds other) e p q = absurd cc
one-form line (ItemLine item e0) (WmmHeader title) e p q = absurd cc
one-form line (ItemLine item e0) (ItemLine thing d) e p q = let same = item-of item thing e in same-item item thing e0 d same (IsItemLine-unique line thing e0 d (subst (λ (i : Item). IsItemLine line i e0) same p) q)
one-form line (ItemLine item e0) (RuleLine stated title) e p q = absurd cc
one-form line (RuleLine rule name) Empty e p q = absurd cc
one-form line (RuleLine rule name) (Country ds other) e p q = absurd cc
one-form line (RuleLine rule name) (WmmHeader title) e p q = absurd cc
one-form line (RuleLine rule name) (ItemLine thing d) e p q = absurd cc
one-form line (RuleLine rule name) (RuleLine stated title) e p q = let same = IsRuleLine-unique line rule stated name title p q in same-rule rule stated name title same.0 same.1

-- a line has at most one form
pub IsForm-unique : (line : List ℕ) (f g : Form) → IsForm line f → IsForm line g → f ≡ g
IsForm-unique line f g p q = one-form line f g (sym (form-opens line f p) ∙ form-opens line g q) p q
