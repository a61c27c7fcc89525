-- What the lines of a text say together. A list of forms has that of the last line first: the forms behind one are
-- those of the lines above it.
use Rattle.std.specs.Prelude.{◌≡◌, ℕ, ◌==◌, Bool, false, List, [], ◌∷◌, length, Contains, Option, Some, None, option_map, if◌then◌else◌}
use Rattle.std.specs.List.{list_any}
use Rattle.freq_range.specs.declared.rule.Rule.{Rule}
use Rattle.freq_range.specs.declared.wmm.Wmm.{Wmm}
use Rattle.freq_range.specs.declared.wmm.WmmEntry.{WmmEntry}
use Rattle.reg_base.specs.Texts.{same_bytes}
use Rattle.rule_tables.specs.Code.{is_same_code}
use Rattle.rule_tables.specs.declared.code.Alpha2.{Alpha2}
use Rattle.rule_tables.specs.declared.code.Region.{Region}
use Rattle.text_lines.specs.declared.form.Item.{Item}
use Rattle.text_lines.specs.declared.form.Item.TheVariants.{VoC, ViC, BeC, BkC, VoAp, ViAp, BeAp, BkAp}
use Rattle.text_lines.specs.Spelling.{IsHeader, IsItemLine, IsRuleLine, IsWmmHeader}

-- what a line says
pub data Form : Type 0 where
  Empty : Form
  Country : List Alpha2 → Region → Form
  WmmHeader : List ℕ → Form
  ItemLine : Item → WmmEntry → Form
  RuleLine : Rule → Option (List ℕ) → Form

-- the line, its comment and blanks dropped, has the form
abbrev pub IsForm : List ℕ → Form → Type 0
IsForm line Empty = line ≡ []
IsForm line (Country cs region) = IsHeader line cs region
IsForm line (WmmHeader name) = IsWmmHeader line name
IsForm line (ItemLine item e) = IsItemLine line item e
IsForm line (RuleLine rule name) = IsRuleLine line rule name

-- the form of line k, counted from 0: the one with k lines above it
abbrev pub form_at : List Form → ℕ → Option Form
form_at [] k = None
form_at (form ∷ above) k = if k == length above then Some form else form_at above k

-- what the last header opened
pub data Block : Type 0 where
  NoBlock : Block
  OfCountries : List Alpha2 → Block
  OfName : List ℕ → Block

-- the block in which the next line stands: that of the last header above
abbrev pub block_of : List Form → Block
block_of [] = NoBlock
block_of (Country cs region ∷ above) = OfCountries cs
block_of (WmmHeader name ∷ above) = OfName name
block_of (form ∷ above) = block_of above

-- ---- WMM rules

-- An item that isn't named yet. No line can spell it, since it waits for no slot.
abbrev pub unnamed : WmmEntry
unnamed = record { min_exp = 0; max_exp = 0; aifsn = 0; cot_ms = 0 }

-- a WMM rule of which no item is named yet
abbrev pub no_items : Wmm
no_items = record { vo_c = unnamed; vi_c = unnamed; be_c = unnamed; bk_c = unnamed; vo_ap = unnamed; vi_ap = unnamed; be_ap = unnamed; bk_ap = unnamed }

-- the entry of this item
abbrev pub item_entry : Item → Wmm → WmmEntry
item_entry VoC w = w.vo_c
item_entry ViC w = w.vi_c
item_entry BeC w = w.be_c
item_entry BkC w = w.bk_c
item_entry VoAp w = w.vo_ap
item_entry ViAp w = w.vi_ap
item_entry BeAp w = w.be_ap
item_entry BkAp w = w.bk_ap

-- the rule with this entry for the item
abbrev pub with_entry : Item → WmmEntry → Wmm → Wmm
with_entry VoC e w = record w { vo_c = e }
with_entry ViC e w = record w { vi_c = e }
with_entry BeC e w = record w { be_c = e }
with_entry BkC e w = record w { bk_c = e }
with_entry VoAp e w = record w { vo_ap = e }
with_entry ViAp e w = record w { vi_ap = e }
with_entry BeAp e w = record w { be_ap = e }
with_entry BkAp e w = record w { bk_ap = e }

-- the block is the WMM rule's of this name
abbrev pub is_of_name : List ℕ → Block → Bool
is_of_name name NoBlock = false
is_of_name name (OfCountries cs) = false
is_of_name name (OfName other) = same_bytes other name

-- the WMM rule of a name: the items below its header, or nothing where no line is its header
abbrev pub wmm_of_name : List ℕ → List Form → Option Wmm
wmm_of_name name [] = None
wmm_of_name name (WmmHeader other ∷ above) = if same_bytes other name then Some no_items else wmm_of_name name above
wmm_of_name name (ItemLine item e ∷ above) =
    if is_of_name name (block_of above) then option_map (with_entry item e) (wmm_of_name name above) else wmm_of_name name above
wmm_of_name name (form ∷ above) = wmm_of_name name above

-- ---- rules of countries

-- the block is this country's, among others perhaps
abbrev pub is_of_code : Alpha2 → Block → Bool
is_of_code code NoBlock = false
is_of_code code (OfCountries cs) = list_any (is_same_code code) cs
is_of_code code (OfName name) = false

-- the WMM rule that is named, as the lines above have it
abbrev pub named_wmm : List Form → Option (List ℕ) → Option Wmm
named_wmm above None = None
named_wmm above (Some name) = wmm_of_name name above

-- the rule with the WMM rule that its line names
abbrev pub with_named : List Form → Rule → Option (List ℕ) → Rule
with_named above rule name = record rule { wmm = named_wmm above name }

-- the rules of a code: those of the rule lines whose last header above names it, the last one first
abbrev pub rules_of : Alpha2 → List Form → List Rule
rules_of code [] = []
rules_of code (RuleLine rule name ∷ above) =
    if is_of_code code (block_of above) then with_named above rule name ∷ rules_of code above else rules_of code above
rules_of code (form ∷ above) = rules_of code above

-- some header names the code, with this region
abbrev pub NamesCode : List Form → Alpha2 → Region → Type 0
NamesCode forms code region = (cs : List Alpha2) × Contains forms (Country cs region) × Contains cs code
