-- How the lines of a text are spelled. A line here has no blanks and no comment.
use Rattle.std.specs.Prelude.{◌≡◌, ℕ, ◌+◌, ◌-◌, ◌*◌, ◌^◌, ◌<◌, ◌≤◌, ◌⊎◌, List, [], ◌∷◌, ◌++◌, true, false, length, All, Option, Some, None, fold, codes}
use Rattle.std.specs.List.{flat_map}
use Rattle.freq_range.specs.Power.{IsMbm}
use Rattle.freq_range.specs.Valid.{IsValidEntry}
use Rattle.freq_range.specs.declared.flags.RuleFlags.{RuleFlags}
use Rattle.freq_range.specs.declared.rule.Rule.{Rule}
use Rattle.freq_range.specs.declared.wmm.WmmEntry.{WmmEntry}
use Rattle.rule_tables.specs.Code.{IsCode}
use Rattle.rule_tables.specs.declared.code.Alpha2.{Alpha2}
use Rattle.rule_tables.specs.declared.code.Region.{Region}
use Rattle.rule_tables.specs.declared.code.Region.TheVariants.{Unset, Fcc, Etsi, Jp}
use Rattle.text_lines.specs.declared.form.Flag.{Flag}
use Rattle.text_lines.specs.declared.form.Flag.TheVariants.{NoOfdm, NoOutdoor, Dfs, NoIr, AutoBw, NoCck, NoIndoor, PtpOnly, PtmpOnly}
use Rattle.text_lines.specs.declared.form.Item.{Item}
use Rattle.text_lines.specs.declared.form.Item.TheVariants.{VoC, ViC, BeC, BkC, VoAp, ViAp, BeAp, BkAp}
use Rattle.text_lines.specs.declared.form.Opening.{Opening}
use Rattle.text_lines.specs.declared.form.Opening.TheVariants.{Country as OfCountry, Wmm as OfWmm, Rule as OfRule, Item as OfItem}

-- ---- how a line begins

-- the name of an item of a WMM rule
abbrev pub item_name : Item → List ℕ
item_name VoC = codes "vo_c"
item_name ViC = codes "vi_c"
item_name BeC = codes "be_c"
item_name BkC = codes "bk_c"
item_name VoAp = codes "vo_ap"
item_name ViAp = codes "vi_ap"
item_name BeAp = codes "be_ap"
item_name BkAp = codes "bk_ap"

-- of the four kinds of lines that say something
abbrev pub opening_text : Opening → List ℕ
opening_text OfCountry = codes "country"
opening_text OfWmm = codes "wmmrule"
opening_text OfRule = codes "("
opening_text (OfItem item) = item_name item ++ codes ":"

-- the line begins so
abbrev pub Opens : List ℕ → Opening → Type 0
Opens line opening = (rest : List ℕ) × (line ≡ opening_text opening ++ rest)

-- ---- headers

-- the name of a region; none has no name
abbrev pub region_name : Region → List ℕ
region_name Unset = []
region_name Fcc = codes "DFS-FCC"
region_name Etsi = codes "DFS-ETSI"
region_name Jp = codes "DFS-JP"

-- codes, parted by commas
abbrev pub codes_text : List Alpha2 → List ℕ
codes_text [] = []
codes_text (c ∷ cs) = c.a ∷ c.b ∷ flat_map (λ (d : Alpha2). codes "," ++ d.a ∷ d.b ∷ []) cs

-- one or more codes
pub record AreCodes (cs : List Alpha2) : Type 0 where
  pub some : 0 < length cs
  pub each : All IsCode cs

-- the line has codes up to its colon, and this rest behind it
pub record HasCodes (line : List ℕ) (cs : List Alpha2) (rest : List ℕ) : Type 0 where
  pub are : AreCodes cs
  pub spelled : line ≡ codes "country" ++ codes_text cs ++ codes ":" ++ rest

-- the header of countries: the word `country`, codes, a colon, and the name of a region or nothing
abbrev pub IsHeader : List ℕ → List Alpha2 → Region → Type 0
IsHeader line cs region = HasCodes line cs (region_name region)

-- a letter (of ASCII), a digit, `_` or `-`
abbrev pub IsNameByte : ℕ → Type 0
IsNameByte b = ((65 ≤ b) × (b ≤ 90)) ⊎ ((97 ≤ b) × (b ≤ 122)) ⊎ ((48 ≤ b) × (b ≤ 57)) ⊎ (b ≡ 95) ⊎ (b ≡ 45)

-- the name of a WMM rule: 1 to 64 bytes that may stand in one
pub record IsWmmName (name : List ℕ) : Type 0 where
  pub some : 0 < length name
  pub few : length name ≤ 64
  pub each : All IsNameByte name

-- the header of a WMM rule: the word `wmmrule`, a name and a colon
pub record IsWmmHeader (line name : List ℕ) : Type 0 where
  pub is_name : IsWmmName name
  pub spelled : line ≡ codes "wmmrule" ++ name ++ codes ":"

-- ---- numbers

-- a digit of ASCII
abbrev pub IsDigit : ℕ → Type 0
IsDigit b = (48 ≤ b) × (b ≤ 57)

-- one or more digits
pub record IsNumber (digits : List ℕ) : Type 0 where
  pub some : 0 < length digits
  pub each : All IsDigit digits

-- the value of digits, the highest first
abbrev pub value_of_digits : List ℕ → ℕ
value_of_digits digits = fold (λ value digit. value * 10 + (digit - 48)) 0 digits

-- the digits before and behind a point
pub record Decimal : Type 0 where
  pub whole : List ℕ
  pub fraction : List ℕ

-- a point and the digits behind it, where there are any
abbrev pub fraction_text : List ℕ → List ℕ
fraction_text [] = []
fraction_text (d ∷ ds) = codes "." ++ d ∷ ds

-- the digits before the point, and the point with the digits behind it where there are some
abbrev pub decimal_text : Decimal → List ℕ
decimal_text n = n.whole ++ fraction_text n.fraction

-- one or more digits, and at most so many behind a point
pub record IsDecimalText (places : ℕ) (n : Decimal) : Type 0 where
  pub whole : IsNumber n.whole
  pub fraction : All IsDigit n.fraction
  pub short : length n.fraction ≤ places

-- the value in units of the last of so many places: all digits, and a zero for each place that isn't written
abbrev pub scaled : ℕ → Decimal → ℕ
scaled places n = value_of_digits (n.whole ++ n.fraction) * 10 ^ (places - length n.fraction)

-- ---- items of WMM rules

-- the digits of the four numbers of an item
pub record ItemText : Type 0 where
  pub cw_min : List ℕ
  pub cw_max : List ℕ
  pub aifsn : List ℕ
  pub cot : List ℕ

-- an item as it stands in a line
abbrev pub item_text : Item → ItemText → List ℕ
item_text item t =
    item_name item ++ codes ":cw_min=" ++ t.cw_min ++ codes ",cw_max=" ++ t.cw_max ++ codes ",aifsn=" ++ t.aifsn ++ codes ",cot=" ++ t.cot

-- the numbers are those of the entry: windows of 2^e - 1, a least one below the greatest, an AIFSN from 1 to 255, a COT
-- of at most 65,535 ms
pub record MeansEntry (t : ItemText) (e : WmmEntry) : Type 0 where
  pub cw_min_number : IsNumber t.cw_min
  pub cw_max_number : IsNumber t.cw_max
  pub aifsn_number : IsNumber t.aifsn
  pub cot_number : IsNumber t.cot
  pub least_window : value_of_digits t.cw_min + 1 ≡ 2 ^ e.min_exp
  pub greatest_window : value_of_digits t.cw_max + 1 ≡ 2 ^ e.max_exp
  pub aifsn : value_of_digits t.aifsn ≡ e.aifsn
  pub cot : value_of_digits t.cot ≡ e.cot_ms
  pub valid : IsValidEntry e

-- the line of an item
abbrev pub IsItemLine : List ℕ → Item → WmmEntry → Type 0
IsItemLine line item e = (t : ItemText) × (line ≡ item_text item t) × MeansEntry t e

-- ---- rules

-- the three numbers of a band, in MHz
pub record BandText : Type 0 where
  pub start : Decimal
  pub end : Decimal
  pub width : Decimal

-- `(START-END@WIDTH)`
abbrev pub band_text : BandText → List ℕ
band_text t = codes "(" ++ decimal_text t.start ++ codes "-" ++ decimal_text t.end ++ codes "@" ++ decimal_text t.width ++ codes ")"

-- MHz with at most three decimals, exact in kHz; a range above 0 that holds the width and ends at 4,294,967,295 kHz at most
pub record IsBand (t : BandText) (start end width : ℕ) : Type 0 where
  pub start_decimal : IsDecimalText 3 t.start
  pub end_decimal : IsDecimalText 3 t.end
  pub width_decimal : IsDecimalText 3 t.width
  pub start_khz : start ≡ scaled 3 t.start
  pub end_khz : end ≡ scaled 3 t.end
  pub width_khz : width ≡ scaled 3 t.width
  pub above_zero : 0 < start
  pub in_order : start < end
  pub wide_enough : width ≤ end - start
  pub end_fits : end < 2 ^ 32

-- what stands before a power: nothing, or the gain of an antenna, which isn't known or is 0
pub data Gain : Type 0 where
  NoGain : Gain
  UnknownGain : Gain
  ZeroGain : Gain

-- the gain as it stands in a line
abbrev pub gain_text : Gain → List ℕ
gain_text NoGain = []
gain_text UnknownGain = codes "N/A,"
gain_text ZeroGain = codes "0,"

-- a power: dBm, or the digits of milliwatts
pub data Power : Type 0 where
  Dbm : Decimal → Power
  Milliwatts : List ℕ → Power

-- the power as it stands in a line
abbrev pub power_text : Power → List ℕ
power_text (Dbm n) = decimal_text n
power_text (Milliwatts digits) = digits ++ codes "mW"

-- dBm with at most two decimals, at most 655.35; or 1 to 1,000,000 mW
abbrev pub IsPower : Power → ℕ → Type 0
IsPower (Dbm n) mbm = IsDecimalText 2 n × (mbm ≡ scaled 2 n) × (mbm ≤ 65535)
IsPower (Milliwatts digits) mbm = IsNumber digits × IsMbm (value_of_digits digits) mbm

-- `,(POWER)`
abbrev pub power_part : Gain → Power → List ℕ
power_part gain power = codes ",(" ++ gain_text gain ++ power_text power ++ codes ")"

-- the name of a flag
abbrev pub flag_name : Flag → List ℕ
flag_name NoOfdm = codes "NO-OFDM"
flag_name NoOutdoor = codes "NO-OUTDOOR"
flag_name Dfs = codes "DFS"
flag_name NoIr = codes "NO-IR"
flag_name AutoBw = codes "AUTO-BW"
flag_name NoCck = codes "NO-CCK"
flag_name NoIndoor = codes "NO-INDOOR"
flag_name PtpOnly = codes "PTP-ONLY"
flag_name PtmpOnly = codes "PTMP-ONLY"

-- what stands in the list behind a power: a flag, or the name of a WMM rule
pub data Word : Type 0 where
  OfFlag : Flag → Word
  OfName : List ℕ → Word

-- how the word is spelled
abbrev pub word_text : Word → List ℕ
word_text (OfFlag flag) = flag_name flag
word_text (OfName name) = codes "wmmrule=" ++ name

-- a flag, or a name that a WMM rule may have
abbrev pub IsWord : Word → Type 0
IsWord (OfFlag flag) = Unit {0}
IsWord (OfName name) = IsWmmName name

-- each word behind a comma
abbrev pub words_text : List Word → List ℕ
words_text words = flat_map (λ word. codes "," ++ word_text word) words

-- the names of WMM rules among the words
abbrev pub names_in : List Word → List (List ℕ)
names_in [] = []
names_in (OfFlag flag ∷ words) = names_in words
names_in (OfName name ∷ words) = name ∷ names_in words

-- a file of version 20 has a bit for the flag
abbrev pub HasBit : Flag → Type 0
HasBit NoCck = ⊥
HasBit NoIndoor = ⊥
HasBit PtpOnly = ⊥
HasBit PtmpOnly = ⊥
HasBit flag = Unit {0}

-- a flag that a file keeps, or the name of a WMM rule
abbrev pub IsKeptWord : Word → Type 0
IsKeptWord (OfFlag flag) = HasBit flag
IsKeptWord (OfName name) = Unit {0}

-- no flag is set
abbrev pub no_flags : RuleFlags
no_flags = record { no_ofdm = false; no_outdoor = false; dfs = false; no_ir = false; auto_bw = false }

-- the flags, and this one where it is kept
abbrev pub with_flag : Flag → RuleFlags → RuleFlags
with_flag NoOfdm flags = record flags { no_ofdm = true }
with_flag NoOutdoor flags = record flags { no_outdoor = true }
with_flag Dfs flags = record flags { dfs = true }
with_flag NoIr flags = record flags { no_ir = true }
with_flag AutoBw flags = record flags { auto_bw = true }
with_flag flag flags = flags

-- the flags with that of the word
abbrev pub with_word : Word → RuleFlags → RuleFlags
with_word (OfFlag flag) flags = with_flag flag flags
with_word (OfName name) flags = flags

-- each flag that is named; one that is named again changes nothing
abbrev pub flags_named : List Word → RuleFlags
flags_named words = fold (λ flags word. with_word word flags) no_flags words

-- what is spelled on the line of a rule
pub record RuleText : Type 0 where
  pub band : BandText
  pub gain : Gain
  pub power : Power
  pub words : List Word

-- the line begins with a valid band, and this rest stands behind it
abbrev pub BeginsWithBand : List ℕ → List ℕ → Type 0
BeginsWithBand line rest = (t : BandText) × (start : ℕ) × (end : ℕ) × (width : ℕ) × IsBand t start end width × (line ≡ band_text t ++ rest)

-- a power stands first behind the band
abbrev pub BeginsWithPower : List ℕ → List ℕ → Type 0
BeginsWithPower line rest = (gain : Gain) × (power : Power) × (mbm : ℕ) × IsPower power mbm × (line ≡ power_part gain power ++ rest)

-- a list of words, at most one of which names a WMM rule
pub record AreWords (line : List ℕ) (words : List Word) : Type 0 where
  pub each : All IsWord words
  pub one_name : length (names_in words) ≤ 1
  pub spelled : line ≡ words_text words

-- a list of the one part, or of none
abbrev pub list_of : Option (List ℕ) → List (List ℕ)
list_of None = []
list_of (Some name) = name ∷ []

-- the line of a rule: a band, a power and words; the rule says no check time, and its WMM rule is only named
pub record IsSpelledRule (line : List ℕ) (t : RuleText) (rule : Rule) : Type 0 where
  pub spelled : line ≡ band_text t.band ++ power_part t.gain t.power ++ words_text t.words
  pub band : IsBand t.band rule.start_khz rule.end_khz rule.max_bw_khz
  pub power : IsPower t.power rule.eirp_mbm
  pub words : AreWords (words_text t.words) t.words
  pub flags : rule.flags ≡ flags_named t.words
  pub check_time : rule.cac_s ≡ 0
  pub wmm : rule.wmm ≡ None

-- a line of a rule with the five flags alone, and the name of its WMM rule, if it has one
pub record IsRuleLine (line : List ℕ) (rule : Rule) (name : Option (List ℕ)) : Type 0 where
  pub text : RuleText
  pub is : IsSpelledRule line text rule
  pub kept : All IsKeptWord text.words
  pub named : names_in text.words ≡ list_of name
