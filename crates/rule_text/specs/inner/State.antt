-- What the parser keeps of the lines so far. Only private functions' clauses cite it; the laws of proofs/ tie it to what
-- the lines say.
use Rattle.std.specs.Prelude.{◌≡◌, ◌≢◌, ℕ, ◌+◌, ◌<◌, ◌≤◌, ◌⊎◌, List, [], ◌∷◌, ◌++◌, length, reverse, All, AllPairs, Contains, Option, Some, None, IfSome, if◌then◌else◌}
use Rattle.std.specs.BTreeMap.{BTreeMap, get}
use Rattle.std.specs.Ordering.{nat_cmp}
use Rattle.std.specs.BTreeMap.{get_by}
use Rattle.std.specs.Cmp.Lexicographic.{slice_cmp}
use Rattle.std.specs.declared.alloc.Global.{Global}
use Rattle.std.specs.declared.vec.Vec.{Vec}
use Rattle.freq_range.specs.Valid.{IsValidEntry}
use Rattle.freq_range.specs.declared.wmm.Wmm.{Wmm}
use Rattle.freq_range.specs.declared.wmm.WmmEntry.{WmmEntry}
use Rattle.text_lines.specs.declared.form.Item.{Item}
use Rattle.rule_text.specs.declared.wmm_rules.WmmBlock.{WmmBlock}
use Rattle.std.specs.List.{list_any}
use Rattle.freq_range.specs.First.{IsFirst}
use Rattle.rule_tables.specs.Code.{IsCode, is_same_code}
use Rattle.rule_tables.specs.FileFormat.{DropsRepeats}
use Rattle.rule_tables.specs.Databases.{IsDb, IsDomain}
use Rattle.rule_tables.specs.declared.domain.Domain.{Domain}
use Rattle.rule_text.specs.declared.fault.ParseFault.{ParseFault}
use Rattle.rule_text.specs.declared.fault.ParseFault.TheVariants.{Text, OutOfMemory as NoMemory}
use Rattle.rule_text.specs.declared.fault.TextFault.{TextFault}
use Rattle.text_lines.specs.Lines.{IsReadableLine, text_lines}
use Rattle.rule_text.specs.TextOf.{IsShortAt}
use Rattle.text_lines.specs.LineFaults.{place_of_kind}
use Rattle.rule_text.specs.Faults.{AreAccepted, HasTooManyRules, IsContradicted, IsGoodLine, IsLineFault, IsWrong}
use Rattle.rule_text.specs.Forms.{Form, IsForm, NamesCode, block_of, item_entry, form_at, no_items, rules_of, with_entry, wmm_of_name}
use Rattle.rule_text.specs.Forms.Block.{NoBlock, OfCountries, OfName}
use Rattle.rule_text.specs.Forms.Form.{Country, RuleLine, WmmHeader}
use Rattle.text_lines.specs.Spelling.{AreCodes}
use Rattle.freq_range.specs.declared.rule.Rule.{Rule}
use Rattle.rule_tables.specs.Code.{key}
use Rattle.rule_tables.specs.declared.code.Alpha2.{Alpha2}
use Rattle.rule_tables.specs.declared.code.Region.{Region}
use Rattle.rule_text.specs.declared.countries.Country.{Country as Kept}
use Rattle.rule_text.specs.declared.parser.Open.{Open}
use Rattle.rule_text.specs.declared.parser.Open.TheVariants.{Nothing, Countries as OpenCountries, Wmm as OpenWmm}
use Rattle.rule_text.specs.declared.parser.Parser.{Parser}
use Rattle.text_lines.specs.declared.fault.LineStop.{LineStop}
use Rattle.text_lines.specs.declared.fault.LineStop.TheVariants.{Kind, OutOfMemory}
use Rattle.text_lines.specs.declared.fault.TextKind.{TextKind}
use Rattle.text_lines.specs.declared.fault.TextKind.TheVariants.{BadWmm, NoWmm, RegionDiffers, TooManyRules, WmmTwice}

-- ---- countries

-- the countries by the keys of their codes
abbrev pub Countries : Type 0
Countries = BTreeMap ℕ Kept

abbrev pub country_of : Countries → Alpha2 → Option Kept
country_of countries code = get nat_cmp countries (key code)

-- nothing but the country of this code changes
abbrev pub KeepsOthers : Alpha2 → Countries → Countries → Type 0
KeepsOthers code old new = (q : ℕ) → q ≢ key code → get nat_cmp new q ≡ get nat_cmp old q

-- the rule is one more, or it was there
abbrev pub AddsRule : Rule → Kept → Kept → Type 0
AddsRule rule old new =
    (Contains old.rules rule × (new ≡ old))
    ⊎ ((Contains old.rules rule → ⊥) × (length old.rules < 128) × (new ≡ record old { rules = old.rules ++ rule ∷ [] }))

abbrev pub IsAddStop : Rule → Kept → LineStop → Type 0
IsAddStop rule old (Kind TooManyRules) = (Contains old.rules rule → ⊥) × (128 ≤ length old.rules)
IsAddStop rule old (Kind kind) = ⊥
IsAddStop rule old OutOfMemory = Unit {0}

abbrev pub new_country : Alpha2 → Region → ℕ → Kept
new_country code region line = record { alpha2 = code; region = region; line = line; rules = [] }

-- the country is there, as before where it was there before
abbrev pub IsOpened : Alpha2 → Region → ℕ → Option Kept → Option Kept → Type 0
IsOpened code region line None new = new ≡ Some (new_country code region line)
IsOpened code region line (Some country) new = (new ≡ Some country) × (country.region ≡ region)

pub record OpensCountry (code : Alpha2) (region : Region) (line : ℕ) (old new : Countries) : Type 0 where
  pub others : KeepsOthers code old new
  pub here : IsOpened code region line (country_of old code) (country_of new code)

abbrev pub IsOpenStop : Alpha2 → Region → Countries → LineStop → Type 0
IsOpenStop code region old (Kind RegionDiffers) = (country : Kept) × (country_of old code ≡ Some country) × (country.region ≢ region)
IsOpenStop code region old (Kind kind) = ⊥
IsOpenStop code region old OutOfMemory = Unit {0}

-- the rule is one more of the country, where it is there
abbrev pub IsAdded : Rule → Option Kept → Option Kept → Type 0
IsAdded rule None new = new ≡ None
IsAdded rule (Some country) new = (changed : Kept) × (new ≡ Some changed) × AddsRule rule country changed

pub record AddsTo (code : Alpha2) (rule : Rule) (old new : Countries) : Type 0 where
  pub others : KeepsOthers code old new
  pub here : IsAdded rule (country_of old code) (country_of new code)

abbrev pub IsAddToStop : Alpha2 → Rule → Countries → LineStop → Type 0
IsAddToStop code rule old stop = (country : Kept) × (country_of old code ≡ Some country) × IsAddStop rule country stop

-- ---- WMM rules

-- the WMM rules by their names
abbrev pub Blocks : Type 0
Blocks = BTreeMap (Vec ℕ Global) WmmBlock

abbrev pub block_named : Blocks → List ℕ → Option WmmBlock
block_named blocks name = get_by (λ k. slice_cmp nat_cmp name k.items) blocks

-- nothing but the WMM rule of this name changes
abbrev pub KeepsOtherNames : List ℕ → Blocks → Blocks → Type 0
KeepsOtherNames name old new = (other : List ℕ) → other ≢ name → block_named new other ≡ block_named old other

-- the item wasn't named, and now is
pub record AddsItem (item : Item) (entry : WmmEntry) (old new : WmmBlock) : Type 0 where
  pub unnamed : IsValidEntry (item_entry item old.wmm) → ⊥
  pub changed : new ≡ record old { wmm = with_entry item entry old.wmm }

abbrev pub IsAddItemStop : Item → WmmBlock → LineStop → Type 0
IsAddItemStop item old (Kind BadWmm) = IsValidEntry (item_entry item old.wmm)
IsAddItemStop item old (Kind kind) = ⊥
IsAddItemStop item old OutOfMemory = Unit {0}

pub record OpensWmm (name : List ℕ) (line : ℕ) (old new : Blocks) : Type 0 where
  pub others : KeepsOtherNames name old new
  pub fresh : block_named old name ≡ None
  pub here : block_named new name ≡ Some (record { line = line; wmm = no_items })

abbrev pub IsOpenWmmStop : List ℕ → Blocks → LineStop → Type 0
IsOpenWmmStop name old (Kind WmmTwice) = (block : WmmBlock) × (block_named old name ≡ Some block)
IsOpenWmmStop name old (Kind kind) = ⊥
IsOpenWmmStop name old OutOfMemory = Unit {0}

abbrev pub IsItemAdded : Item → WmmEntry → Option WmmBlock → Option WmmBlock → Type 0
IsItemAdded item entry None new = new ≡ None
IsItemAdded item entry (Some block) new = (changed : WmmBlock) × (new ≡ Some changed) × AddsItem item entry block changed

pub record AddsItemTo (name : List ℕ) (item : Item) (entry : WmmEntry) (old new : Blocks) : Type 0 where
  pub others : KeepsOtherNames name old new
  pub here : IsItemAdded item entry (block_named old name) (block_named new name)

abbrev pub IsAddItemToStop : List ℕ → Item → Blocks → LineStop → Type 0
IsAddItemToStop name item old stop = (block : WmmBlock) × (block_named old name ≡ Some block) × IsAddItemStop item block stop

-- ---- what is kept of the lines

-- line k, counted from 0, is a header that names the code
abbrev pub IsHeaderAt : List Form → Alpha2 → ℕ → Type 0
IsHeaderAt forms code k = (cs : List Alpha2) × (region : Region) × (form_at forms k ≡ Some (Country cs region)) × Contains cs code

-- what is kept of a country that some header names
pub record IsKeptCountry (forms : List Form) (code : Alpha2) (country : Kept) : Type 0 where
  pub code_is : country.alpha2 ≡ code
  pub named : NamesCode forms code country.region
  pub one_region : (region : Region) → NamesCode forms code region → region ≡ country.region
  pub first_header : (k : ℕ) × (country.line ≡ k + 1) × IsFirst (IsHeaderAt forms code) k
  pub rules_are : DropsRepeats (rules_of code forms) country.rules
  pub few : length country.rules ≤ 128

abbrev pub IsCountryOf : List Form → Alpha2 → Option Kept → Type 0
IsCountryOf forms code None = (region : Region) → NamesCode forms code region → ⊥
IsCountryOf forms code (Some country) = IsKeptCountry forms code country

-- the countries of the lines, and no others
pub record AreCountries (forms : List Form) (countries : Countries) : Type 0 where
  pub each : (code : Alpha2) → IsCode code → IsCountryOf forms code (country_of countries code)
  pub keys : (q : ℕ) → IfSome (get nat_cmp countries q) (λ country. IsCode country.alpha2 × (q ≡ key country.alpha2))

-- line k, counted from 0, is the header of the name
abbrev pub IsWmmHeaderAt : List Form → List ℕ → ℕ → Type 0
IsWmmHeaderAt forms name k = form_at forms k ≡ Some (WmmHeader name)

abbrev pub IsBlockOf : List Form → List ℕ → Option WmmBlock → Type 0
IsBlockOf forms name None = wmm_of_name name forms ≡ None
IsBlockOf forms name (Some block) = (wmm_of_name name forms ≡ Some block.wmm) × (k : ℕ) × (block.line ≡ k + 1) × IsFirst (IsWmmHeaderAt forms name) k

-- the WMM rules of the lines
abbrev pub AreBlocks : List Form → Blocks → Type 0
AreBlocks forms blocks = (name : List ℕ) → IsBlockOf forms name (block_named blocks name)

-- what the last header opened
abbrev pub IsOpen : List Form → Open → List Alpha2 → List ℕ → Type 0
IsOpen forms Nothing codes name = block_of forms ≡ NoBlock
IsOpen forms OpenCountries codes name = block_of forms ≡ OfCountries codes
IsOpen forms OpenWmm codes name = block_of forms ≡ OfName name

-- the parser holds what these lines say
pub record ParserStands (forms : List Form) (parser : Parser) : Type 0 where
  pub countries_are : AreCountries forms parser.countries
  pub blocks_are : AreBlocks forms parser.blocks
  pub open_is : IsOpen forms parser.open parser.codes.items parser.name.items

-- each header's codes are codes
abbrev pub AreSound : List Form → Type 0
AreSound [] = Unit {0}
AreSound (Country cs region ∷ above) = AreSound above × AreCodes cs
AreSound (form ∷ above) = AreSound above

-- the lines of a code, where the rule has come to the countries of the first codes alone
abbrev pub forms_at : Alpha2 → List Alpha2 → Form → List Form → List Form
forms_at code done form above = if list_any (is_same_code code) done then form ∷ above else above

-- the countries of the lines, where the last line's rule has come to those of the first codes alone
pub record AreRuled (above : List Form) (rule : Rule) (name : Option (List ℕ)) (done : List Alpha2) (countries : Countries) : Type 0 where
  pub each : (code : Alpha2) → IsCode code → IsCountryOf (forms_at code done (RuleLine rule name) above) code (country_of countries code)
  pub keys : (q : ℕ) → IfSome (get nat_cmp countries q) (λ country. IsCode country.alpha2 × (q ≡ key country.alpha2))

-- why a header, with the lines above it, wasn't taken
abbrev pub IsOpenAllStop : List Form → List Alpha2 → Region → LineStop → Type 0
IsOpenAllStop above cs region (Kind RegionDiffers) = IsContradicted above cs region
IsOpenAllStop above cs region (Kind kind) = ⊥
IsOpenAllStop above cs region OutOfMemory = Unit {0}

-- why a rule wasn't taken
abbrev pub IsAddAllStop : List Form → List Alpha2 → LineStop → Type 0
IsAddAllStop forms cs (Kind TooManyRules) = (code : Alpha2) × Contains cs code × HasTooManyRules forms code
IsAddAllStop forms cs (Kind kind) = ⊥
IsAddAllStop forms cs OutOfMemory = Unit {0}

-- why a line wasn't taken
abbrev pub IsLineStop : List Form → List ℕ → LineStop → Type 0
IsLineStop above line (Kind kind) = IsLineFault above line kind
IsLineStop above line OutOfMemory = IsReadableLine line

-- the line was taken
pub record TakesLine (above : List Form) (line : List ℕ) (parser : Parser) : Type 0 where
  pub form : Form
  pub good : IsGoodLine above line form
  pub stands : ParserStands (form ∷ above) parser

-- ---- one line, whose comment and blanks are dropped

-- the kind is the first that applies
pub record IsBareFault (above : List Form) (line : List ℕ) (kind : TextKind) : Type 0 where
  pub applies : IsWrong above line kind
  pub first : (other : TextKind) → place_of_kind other < place_of_kind kind → IsWrong above line other → ⊥

abbrev pub IsBareStop : List Form → List ℕ → LineStop → Type 0
IsBareStop above line (Kind kind) = IsBareFault above line kind
IsBareStop above line OutOfMemory = Unit {0}

-- the line was taken
pub record TakesBare (above : List Form) (line : List ℕ) (parser : Parser) : Type 0 where
  pub form : Form
  pub is : IsForm line form
  pub good : (kind : TextKind) → IsWrong above line kind → ⊥
  pub stands : ParserStands (form ∷ above) parser

-- why a rule's name wasn't found
abbrev pub IsNameStop : Blocks → Option (List ℕ) → LineStop → Type 0
IsNameStop blocks None stop = ⊥
IsNameStop blocks (Some name) stop = (stop ≡ Kind NoWmm) × (block_named blocks name ≡ None)

-- the WMM rule of a name that is there
abbrev pub BlocksNameWmm : Blocks → Option (List ℕ) → Option Wmm → Type 0
BlocksNameWmm blocks None wmm = wmm ≡ None
BlocksNameWmm blocks (Some name) wmm = (block : WmmBlock) × (block_named blocks name ≡ Some block) × (wmm ≡ Some block.wmm)

-- ---- the whole text

-- the parser holds what the lines of the text say, and nothing is wrong with any
pub record AreRead (text : List ℕ) (parser : Parser) : Type 0 where
  pub forms : List Form
  pub accepted : AreAccepted (reverse (text_lines text)) forms
  pub stands : ParserStands forms parser

-- the fault of a text whose line of that number isn't taken
abbrev pub fault_at : LineStop → ℕ → ParseFault
fault_at (Kind kind) line = Text (record { line = line; kind = kind })
fault_at OutOfMemory line = NoMemory

-- all countries of the lines
pub record AreAllCountries (forms : List Form) (countries : List Kept) : Type 0 where
  pub each : All (λ country. IsCode country.alpha2 × IsKeptCountry forms country.alpha2 country) countries
  pub all : (code : Alpha2) (region : Region) → IsCode code → NamesCode forms code region → (country : Kept) × Contains countries country × (country.alpha2 ≡ code)
  pub ascending : AllPairs (λ country other. key country.alpha2 < key other.alpha2) countries

-- all WMM rules of the lines
pub record AreAllBlocks (forms : List Form) (blocks : List WmmBlock) : Type 0 where
  pub each : All (λ block. (name : List ℕ) × IsBlockOf forms name (Some block)) blocks
  pub all : (name : List ℕ) → wmm_of_name name forms ≢ None → (block : WmmBlock) × Contains blocks block × IsBlockOf forms name (Some block)

-- the least line of the elements of which P holds
pub record IsLeastLine {X : Type 0} (P : X → Type 0) (line : X → ℕ) (xs : List X) (n : ℕ) : Type 0 where
  pub here : (x : X) × Contains xs x × P x × (line x ≡ n)
  pub least : (x : X) → Contains xs x → P x → n ≤ line x

-- the fault is that of the first header that is left short
abbrev pub IsFirstShortOf : List Form → TextFault → Type 0
IsFirstShortOf forms fault = (k : ℕ) × (fault.line ≡ k + 1) × IsShortAt forms k fault.kind × ((j : ℕ) (other : TextKind) → j < k → IsShortAt forms j other → ⊥)

abbrev pub domain_of : Kept → Domain
domain_of country = record { alpha2 = country.alpha2; region = country.region; rules = country.rules }

-- countries whose domains a database may hold
pub record AreReady (countries : List Kept) : Type 0 where
  pub each : All (λ country. IsDomain (domain_of country)) countries
  pub apart : AllPairs (λ country other. country.alpha2 ≢ other.alpha2) countries

-- the domains are those of the countries
pub record AreDomainsOf (countries : List Kept) (ds : List Domain) : Type 0 where
  pub db : IsDb ds
  pub each : All (λ d. (country : Kept) × Contains countries country × (domain_of country ≡ d)) ds
  pub all : (country : Kept) → Contains countries country → Contains ds (domain_of country)
