-- Which kinds may apply to a line, by how it opens.
use Rattle.std.proofs.Common.{◌≡◌, ◌≢◌, ℕ, ◌<◌, ◌⊎◌, List, arith, ap, subst, inl, inr}
use Rattle.text_lines.specs.declared.fault.TextKind.{TextKind}
use Rattle.text_lines.specs.declared.fault.TextKind.TheVariants.{LineTooLong, NotUtf8, BadLine, NoBlock, BadCountry, BadRegion, RegionDiffers, BadBand, BadPower, BadFlag, FlagNotInVersion, NoWmm, BadWmm, WmmTwice, TooManyRules, WmmShort, NoRules}
use Rattle.text_lines.specs.declared.form.Item.{Item}
use Rattle.text_lines.specs.declared.form.Opening.{Opening}
use Rattle.text_lines.specs.declared.form.Opening.TheVariants.{Country as OfCountry, Wmm as OfWmm, Rule as OfRule, Item as OfItem}
use Rattle.freq_range.specs.declared.wmm.WmmEntry.{WmmEntry}
use Rattle.text_lines.specs.LineFaults.{place_of_kind}
use Rattle.rule_text.specs.Faults.{HasItem, IsInCountries, IsInWmm, IsWrong}
use Rattle.rule_text.specs.Forms.{Form}
use Rattle.text_lines.specs.Spelling.{IsItemLine, IsWmmHeader, Opens, region_name}
use Rattle.rule_text.proofs.LineForms.{HasCodes-opens, IsSpelledRule-opens, IsWmmHeader-opens, Opens-unique}

-- an opening, as a number that tells the four apart
abbrev rank : Opening → ℕ
rank OfCountry = 0
rank OfWmm = 1
rank OfRule = 2
rank (OfItem item) = 3

apart : (line : List ℕ) (o p : Opening) → Opens line o → Opens line p → rank o ≢ rank p → ⊥
apart line o p a b differ = differ (ap rank (Opens-unique line o p a b))

abbrev pub Denies : List Form → List ℕ → ℕ → TextKind → Type 0
Denies above line n kind = place_of_kind kind < n → IsWrong above line kind → ⊥

-- of a header of countries
pub country_first : (above : List Form) (line : List ℕ) (n : ℕ) → Opens line OfCountry → Denies above line n BadCountry → Denies above line n BadRegion → Denies above line n RegionDiffers
    → (other : TextKind) → Denies above line n other
country_first above line n opens a b c BadCountry less wrong = a less wrong
country_first above line n opens a b c BadRegion less wrong = b less wrong
country_first above line n opens a b c RegionDiffers less wrong = c less wrong
country_first above line n opens a b c BadLine less wrong = wrong.1 OfCountry opens
country_first above line n opens a b c NoBlock less (inl wrong) = apart line OfCountry OfRule opens wrong.0 (λ e. omega (arith, e))
country_first above line n opens a b c NoBlock less (inr wrong) = apart line OfCountry (OfItem wrong.0) opens wrong.1 (λ e. omega (arith, e))
country_first above line n opens a b c BadBand less wrong = apart line OfCountry OfRule opens wrong.0 (λ e. omega (arith, e))
country_first above line n opens a b c BadPower less wrong = apart line OfCountry OfRule opens wrong.0 (λ e. omega (arith, e))
country_first above line n opens a b c BadFlag less wrong = apart line OfCountry OfRule opens wrong.0 (λ e. omega (arith, e))
country_first above line n opens a b c FlagNotInVersion less wrong = apart line OfCountry OfRule opens (IsSpelledRule-opens line wrong.0 wrong.1 wrong.2) (λ e. omega (arith, e))
country_first above line n opens a b c NoWmm less wrong = apart line OfCountry OfRule opens (IsSpelledRule-opens line wrong.0 wrong.1 wrong.2) (λ e. omega (arith, e))
country_first above line n opens a b c BadWmm less (inl wrong) = apart line OfCountry OfWmm opens wrong.0 (λ e. omega (arith, e))
country_first above line n opens a b c BadWmm less (inr wrong) = apart line OfCountry (OfItem wrong.0) opens wrong.1 (λ e. omega (arith, e))
country_first above line n opens a b c WmmTwice less wrong = apart line OfCountry OfWmm opens (IsWmmHeader-opens line wrong.0 wrong.1) (λ e. omega (arith, e))
country_first above line n opens a b c TooManyRules less wrong = apart line OfCountry OfRule opens (IsSpelledRule-opens line wrong.2.text wrong.0 wrong.2.is) (λ e. omega (arith, e))
country_first above line n opens a b c other less wrong = wrong

-- of the header of a WMM rule
pub wmm_first : (above : List Form) (line : List ℕ) (n : ℕ) → Opens line OfWmm → Denies above line n BadWmm → Denies above line n WmmTwice
    → (other : TextKind) → Denies above line n other
wmm_first above line n opens a b BadWmm less wrong = a less wrong
wmm_first above line n opens a b WmmTwice less wrong = b less wrong
wmm_first above line n opens a b BadLine less wrong = wrong.1 OfWmm opens
wmm_first above line n opens a b NoBlock less (inl wrong) = apart line OfWmm OfRule opens wrong.0 (λ e. omega (arith, e))
wmm_first above line n opens a b NoBlock less (inr wrong) = apart line OfWmm (OfItem wrong.0) opens wrong.1 (λ e. omega (arith, e))
wmm_first above line n opens a b BadCountry less wrong = apart line OfWmm OfCountry opens wrong.0 (λ e. omega (arith, e))
wmm_first above line n opens a b BadRegion less wrong = apart line OfWmm OfCountry opens wrong.0 (λ e. omega (arith, e))
wmm_first above line n opens a b RegionDiffers less wrong = apart line OfWmm OfCountry opens (HasCodes-opens line wrong.0 (region_name wrong.1) wrong.2) (λ e. omega (arith, e))
wmm_first above line n opens a b BadBand less wrong = apart line OfWmm OfRule opens wrong.0 (λ e. omega (arith, e))
wmm_first above line n opens a b BadPower less wrong = apart line OfWmm OfRule opens wrong.0 (λ e. omega (arith, e))
wmm_first above line n opens a b BadFlag less wrong = apart line OfWmm OfRule opens wrong.0 (λ e. omega (arith, e))
wmm_first above line n opens a b FlagNotInVersion less wrong = apart line OfWmm OfRule opens (IsSpelledRule-opens line wrong.0 wrong.1 wrong.2) (λ e. omega (arith, e))
wmm_first above line n opens a b NoWmm less wrong = apart line OfWmm OfRule opens (IsSpelledRule-opens line wrong.0 wrong.1 wrong.2) (λ e. omega (arith, e))
wmm_first above line n opens a b TooManyRules less wrong = apart line OfWmm OfRule opens (IsSpelledRule-opens line wrong.2.text wrong.0 wrong.2.is) (λ e. omega (arith, e))
wmm_first above line n opens a b other less wrong = wrong

-- of an item
pub item_first : (above : List Form) (line : List ℕ) (n : ℕ) (item : Item) → Opens line (OfItem item) → Denies above line n NoBlock → Denies above line n BadWmm
    → (other : TextKind) → Denies above line n other
item_first above line n item opens a b NoBlock less wrong = a less wrong
item_first above line n item opens a b BadWmm less wrong = b less wrong
item_first above line n item opens a b BadLine less wrong = wrong.1 (OfItem item) opens
item_first above line n item opens a b BadCountry less wrong = apart line (OfItem item) OfCountry opens wrong.0 (λ e. omega (arith, e))
item_first above line n item opens a b BadRegion less wrong = apart line (OfItem item) OfCountry opens wrong.0 (λ e. omega (arith, e))
item_first above line n item opens a b RegionDiffers less wrong = apart line (OfItem item) OfCountry opens (HasCodes-opens line wrong.0 (region_name wrong.1) wrong.2) (λ e. omega (arith, e))
item_first above line n item opens a b BadBand less wrong = apart line (OfItem item) OfRule opens wrong.0 (λ e. omega (arith, e))
item_first above line n item opens a b BadPower less wrong = apart line (OfItem item) OfRule opens wrong.0 (λ e. omega (arith, e))
item_first above line n item opens a b BadFlag less wrong = apart line (OfItem item) OfRule opens wrong.0 (λ e. omega (arith, e))
item_first above line n item opens a b FlagNotInVersion less wrong = apart line (OfItem item) OfRule opens (IsSpelledRule-opens line wrong.0 wrong.1 wrong.2) (λ e. omega (arith, e))
item_first above line n item opens a b NoWmm less wrong = apart line (OfItem item) OfRule opens (IsSpelledRule-opens line wrong.0 wrong.1 wrong.2) (λ e. omega (arith, e))
item_first above line n item opens a b WmmTwice less wrong = apart line (OfItem item) OfWmm opens (IsWmmHeader-opens line wrong.0 wrong.1) (λ e. omega (arith, e))
item_first above line n item opens a b TooManyRules less wrong = apart line (OfItem item) OfRule opens (IsSpelledRule-opens line wrong.2.text wrong.0 wrong.2.is) (λ e. omega (arith, e))
item_first above line n item opens a b other less wrong = wrong

-- of a rule
pub rule_first : (above : List Form) (line : List ℕ) (n : ℕ) → Opens line OfRule → Denies above line n NoBlock → Denies above line n BadBand → Denies above line n BadPower
    → Denies above line n BadFlag → Denies above line n FlagNotInVersion → Denies above line n NoWmm → Denies above line n TooManyRules → (other : TextKind) → Denies above line n other
rule_first above line n opens a b c d e f g NoBlock less wrong = a less wrong
rule_first above line n opens a b c d e f g BadBand less wrong = b less wrong
rule_first above line n opens a b c d e f g BadPower less wrong = c less wrong
rule_first above line n opens a b c d e f g BadFlag less wrong = d less wrong
rule_first above line n opens a b c d e f g FlagNotInVersion less wrong = e less wrong
rule_first above line n opens a b c d e f g NoWmm less wrong = f less wrong
rule_first above line n opens a b c d e f g TooManyRules less wrong = g less wrong
rule_first above line n opens a b c d e f g BadLine less wrong = wrong.1 OfRule opens
rule_first above line n opens a b c d e f g BadCountry less wrong = apart line OfRule OfCountry opens wrong.0 (λ h. omega (arith, h))
rule_first above line n opens a b c d e f g BadRegion less wrong = apart line OfRule OfCountry opens wrong.0 (λ h. omega (arith, h))
rule_first above line n opens a b c d e f g RegionDiffers less wrong = apart line OfRule OfCountry opens (HasCodes-opens line wrong.0 (region_name wrong.1) wrong.2) (λ h. omega (arith, h))
rule_first above line n opens a b c d e f g BadWmm less (inl wrong) = apart line OfRule OfWmm opens wrong.0 (λ h. omega (arith, h))
rule_first above line n opens a b c d e f g BadWmm less (inr wrong) = apart line OfRule (OfItem wrong.0) opens wrong.1 (λ h. omega (arith, h))
rule_first above line n opens a b c d e f g WmmTwice less wrong = apart line OfRule OfWmm opens (IsWmmHeader-opens line wrong.0 wrong.1) (λ h. omega (arith, h))
rule_first above line n opens a b c d e f g other less wrong = wrong

-- each kind has a place below 18
pub place_below : (kind : TextKind) → place_of_kind kind < 18
place_below LineTooLong = omega arith
place_below NotUtf8 = omega arith
place_below BadLine = omega arith
place_below NoBlock = omega arith
place_below BadCountry = omega arith
place_below BadRegion = omega arith
place_below RegionDiffers = omega arith
place_below BadBand = omega arith
place_below BadPower = omega arith
place_below BadFlag = omega arith
place_below FlagNotInVersion = omega arith
place_below NoWmm = omega arith
place_below BadWmm = omega arith
place_below WmmTwice = omega arith
place_below TooManyRules = omega arith
place_below WmmShort = omega arith
place_below NoRules = omega arith

-- nothing is wrong where each kind is denied
pub good : (above : List Form) (line : List ℕ) → ((kind : TextKind) → Denies above line 18 kind) → (kind : TextKind) → IsWrong above line kind → ⊥
good above line denied kind wrong = denied kind (place_below kind) wrong

-- ---- what `NoBlock` and `BadWmm` say of a line that opens so

pub wmm_header_wrong : (above : List Form) (line : List ℕ) → Opens line OfWmm → IsWrong above line BadWmm → (name : List ℕ) → IsWmmHeader line name → ⊥
wmm_header_wrong above line opens (inl wrong) = wrong.1
wmm_header_wrong above line opens (inr wrong) = absurd (apart line OfWmm (OfItem wrong.0) opens wrong.1 (λ e. omega (arith, e)))

same_item : (line : List ℕ) (item other : Item) → Opens line (OfItem item) → Opens line (OfItem other) → other ≡ item
same_item line item other a b = let e = Opens-unique line (OfItem other) (OfItem item) b a in cc

pub item_wrong : (above : List Form) (line : List ℕ) (item : Item) → Opens line (OfItem item) → IsWrong above line BadWmm
    → ((e : WmmEntry) → IsItemLine line item e → ⊥) ⊎ HasItem above item
item_wrong above line item opens (inl wrong) = absurd (apart line (OfItem item) OfWmm opens wrong.0 (λ e. omega (arith, e)))
item_wrong above line item opens (inr wrong) =
    subst (λ i. ((e : WmmEntry) → IsItemLine line i e → ⊥) ⊎ HasItem above i) (same_item line item wrong.0 opens wrong.1) wrong.2

pub item_outside : (above : List Form) (line : List ℕ) (item : Item) → Opens line (OfItem item) → IsWrong above line NoBlock → IsInWmm above → ⊥
item_outside above line item opens (inl wrong) = absurd (apart line (OfItem item) OfRule opens wrong.0 (λ e. omega (arith, e)))
item_outside above line item opens (inr wrong) = wrong.2

pub rule_outside : (above : List Form) (line : List ℕ) → Opens line OfRule → IsWrong above line NoBlock → IsInCountries above → ⊥
rule_outside above line opens (inl wrong) = wrong.1
rule_outside above line opens (inr wrong) = absurd (apart line OfRule (OfItem wrong.0) opens wrong.1 (λ e. omega (arith, e)))
