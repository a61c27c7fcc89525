-- How a squeezed line is read from left to right, and which kind is told of one that isn't read. The first part is the
-- program's steps again: only clauses of private functions cite it, and the laws of proofs/ tie it to what Spelling says.
use Rattle.std.specs.Prelude.{◌≡◌, ◌≢◌, ℕ, ◌+◌, ◌-◌, ◌*◌, ◌^◌, ◌≤◌, ◌==◌, ◌&&◌, ◌||◌, nat_le, nat_lt, Bool, true, false, List, [], ◌∷◌, length, All, Option, Some, None, option_map, fold, codes, if◌then◌else◌}
use Rattle.std.specs.List.{list_all, slice_split}
use Rattle.freq_range.specs.Power.{IsMbm, IsMilliwatts}
use Rattle.freq_range.specs.Valid.{IsValidEntry}
use Rattle.freq_range.specs.declared.flags.RuleFlags.{RuleFlags}
use Rattle.freq_range.specs.declared.rule.Rule.{Rule}
use Rattle.freq_range.specs.declared.wmm.WmmEntry.{WmmEntry}
use Rattle.reg_base.specs.Texts.{◌>>=◌, same_bytes}
use Rattle.rule_tables.specs.Code.{is_capital, is_code}
use Rattle.rule_tables.specs.declared.code.Alpha2.{Alpha2}
use Rattle.rule_tables.specs.declared.code.Region.{Region}
use Rattle.rule_tables.specs.declared.code.Region.TheVariants.{Unset, Fcc, Etsi, Jp}
use Rattle.text_lines.specs.declared.fault.LineStop.{LineStop}
use Rattle.text_lines.specs.declared.fault.LineStop.TheVariants.{Kind, OutOfMemory}
use Rattle.text_lines.specs.declared.fault.TextKind.{TextKind}
use Rattle.text_lines.specs.declared.fault.TextKind.TheVariants.{BadLine, BadCountry, BadBand, BadPower, BadFlag, FlagNotInVersion}
use Rattle.text_lines.specs.declared.form.Flag.{Flag}
use Rattle.text_lines.specs.declared.form.Flag.TheVariants.{NoOfdm, NoOutdoor, Dfs, NoIr, AutoBw, NoCck, NoIndoor, PtpOnly, PtmpOnly}
use Rattle.text_lines.specs.declared.form.Item.{Item}
use Rattle.text_lines.specs.declared.form.Item.TheVariants.{VoC, ViC, BeC, BkC, VoAp, ViAp, BeAp, BkAp}
use Rattle.text_lines.specs.declared.form.Opening.{Opening}
use Rattle.text_lines.specs.declared.form.Opening.TheVariants.{Country as OfCountry, Wmm as OfWmm, Rule as OfRule, Item as OfItem}
use Rattle.text_lines.specs.declared.band_reader.Band.{Band}
use Rattle.text_lines.specs.declared.power_reader.Amount.{Amount}
use Rattle.text_lines.specs.declared.power_reader.Amount.TheVariants.{Mbm, Milliwatts}
use Rattle.text_lines.specs.declared.rule_words.RuleWords.{RuleWords}
use Rattle.text_lines.specs.declared.rule_words.Word.{Word as ReadWord}
use Rattle.text_lines.specs.declared.rule_words.Word.TheVariants.{Flag as ReadFlag, Name as ReadName}
use Rattle.text_lines.specs.declared.wmm_reader.ItemNumbers.{ItemNumbers}
use Rattle.text_lines.specs.LineFaults.{LacksBand, LacksPower, LacksWords}
use Rattle.text_lines.specs.Spelling.{BeginsWithBand, BeginsWithPower, IsKeptWord, IsRuleLine, IsSpelledRule, Opens, RuleText, Word, item_name, list_of, names_in, no_flags, scaled, value_of_digits, with_flag}
use Rattle.text_lines.specs.Spelling.Word.{OfFlag, OfName}

-- ---- which kind is told

-- the first part of the line of a rule that isn't of its form
abbrev pub IsPartKind : List ℕ → TextKind → Type 0
IsPartKind line BadBand = LacksBand line
IsPartKind line BadPower = ((rest : List ℕ) × BeginsWithBand line rest) × LacksPower line
IsPartKind line BadFlag = ((rest : List ℕ) × (behind : List ℕ) × BeginsWithBand line rest × BeginsWithPower rest behind) × LacksWords line
IsPartKind line kind = ⊥

-- what a squeezed line that stands for itself says
pub record IsBareRule (line : List ℕ) (rule : Rule) : Type 0 where
  pub is : IsRuleLine line rule None

-- the kind is the first that applies to the squeezed line of a rule that stands for itself
abbrev pub IsBareKind : List ℕ → TextKind → Type 0
IsBareKind line BadLine = Opens line OfRule → ⊥
IsBareKind line BadFlag = Opens line OfRule × ((rest : List ℕ) × (behind : List ℕ) × BeginsWithBand line rest × BeginsWithPower rest behind) × ((t : RuleText) (rule : Rule) → IsSpelledRule line t rule → names_in t.words ≢ [])
IsBareKind line FlagNotInVersion = Opens line OfRule × (t : RuleText) × (rule : Rule) × IsSpelledRule line t rule × (names_in t.words ≡ []) × (All IsKeptWord t.words → ⊥)
IsBareKind line kind = Opens line OfRule × IsPartKind line kind

-- ---- words

-- what is behind the byte
unfoldable pub after_byte : ℕ → List ℕ → Option (List ℕ)
after_byte byte [] = None
after_byte byte (b ∷ bs) = if b == byte then Some bs else None

-- what is behind the word
unfoldable pub after_word : List ℕ → List ℕ → Option (List ℕ)
after_word [] bs = Some bs
after_word (byte ∷ word) bs = after_byte byte bs >>= after_word word

-- what stands before the first such byte
unfoldable pub front_of : ℕ → List ℕ → List ℕ
front_of byte [] = []
front_of byte (b ∷ bs) = if b == byte then [] else b ∷ front_of byte bs

-- what is behind it, if there is one
unfoldable pub behind_of : ℕ → List ℕ → Option (List ℕ)
behind_of byte [] = None
behind_of byte (b ∷ bs) = if b == byte then Some bs else behind_of byte bs

-- ---- numbers

abbrev pub is_digit : ℕ → Bool
is_digit b = nat_le 48 b && nat_le b 57

-- the digits that stand first
unfoldable pub digits_of : List ℕ → List ℕ
digits_of [] = []
digits_of (b ∷ bs) = if is_digit b then b ∷ digits_of bs else []

-- what is behind them
unfoldable pub behind_digits : List ℕ → List ℕ
behind_digits [] = []
behind_digits (b ∷ bs) = if is_digit b then behind_digits bs else b ∷ bs

abbrev pub some_digits : List ℕ → List ℕ → Option (List ℕ × List ℕ)
some_digits [] rest = None
some_digits (d ∷ ds) rest = Some (d ∷ ds, rest)

-- one or more digits, and what is behind them
unfoldable pub digits_at : List ℕ → Option (List ℕ × List ℕ)
digits_at bs = some_digits (digits_of bs) (behind_digits bs)

-- the value of digits behind those of another value
abbrev pub digits_from : ℕ → List ℕ → ℕ
digits_from value digits = fold (λ value digit. value * 10 + (digit - 48)) value digits

-- the value of digits, where it is at most this
abbrev pub value_within : ℕ → List ℕ → Option ℕ
value_within most digits = if nat_le (value_of_digits digits) most then Some (value_of_digits digits) else None

-- the value of a decimal in units of the last place, where it has no more places and the value is at most this
abbrev pub scaled_within : ℕ → ℕ → List ℕ → List ℕ → Option ℕ
scaled_within places most whole fraction =
    if nat_le (length fraction) places && nat_le (scaled places (record { whole = whole; fraction = fraction })) most
    then Some (scaled places (record { whole = whole; fraction = fraction })) else None

-- the digits behind a point, which may both lack, and what is behind them
unfoldable pub fraction_at : List ℕ → Option (List ℕ × List ℕ)
fraction_at [] = Some ([], [])
fraction_at (b ∷ bs) = if b == 46 then digits_at bs else Some ([], b ∷ bs)

-- a decimal whose digits before the point were read, and what is behind it
unfoldable pub decimal_from : ℕ → ℕ → List ℕ → List ℕ → Option (ℕ × List ℕ)
decimal_from places most whole bs = do
  fraction ← fraction_at bs
  value ← scaled_within places most whole fraction.0
  Some (value, fraction.1)

-- a decimal of at most so many places and at most this value, and what is behind it
unfoldable pub decimal_at : ℕ → ℕ → List ℕ → Option (ℕ × List ℕ)
decimal_at places most bs = do
  whole ← digits_at bs
  decimal_from places most whole.0 whole.1

-- ---- how a line begins

abbrev pub is_there : Option (List ℕ) → Bool
is_there None = false
is_there (Some rest) = true

abbrev pub begins_with : List ℕ → List ℕ → Bool
begins_with word bs = is_there (after_word word bs)

unfoldable pub item_at : List ℕ → Option Item
item_at bs =
    if begins_with (codes "vo_c:") bs then Some VoC else
    if begins_with (codes "vi_c:") bs then Some ViC else
    if begins_with (codes "be_c:") bs then Some BeC else
    if begins_with (codes "bk_c:") bs then Some BkC else
    if begins_with (codes "vo_ap:") bs then Some VoAp else
    if begins_with (codes "vi_ap:") bs then Some ViAp else
    if begins_with (codes "be_ap:") bs then Some BeAp else
    if begins_with (codes "bk_ap:") bs then Some BkAp else None

abbrev pub item_opening : Option Item → Option Opening
item_opening None = None
item_opening (Some item) = Some (OfItem item)

unfoldable pub opening_at : List ℕ → Option Opening
opening_at bs =
    if begins_with (codes "country") bs then Some OfCountry else
    if begins_with (codes "wmmrule") bs then Some OfWmm else
    if begins_with (codes "(") bs then Some OfRule else item_opening (item_at bs)

-- ---- headers

-- the code that the bytes are
unfoldable pub code_from : List ℕ → Option Alpha2
code_from [] = None
code_from (a ∷ []) = None
code_from (a ∷ b ∷ []) = if is_code a b then Some (record { a = a; b = b }) else None
code_from (a ∷ b ∷ c ∷ bs) = None

-- the codes that the parts are
unfoldable pub codes_of : List (List ℕ) → Option (List Alpha2)
codes_of [] = Some []
codes_of (part ∷ parts) = do
  code ← code_from part
  others ← codes_of parts
  Some (code ∷ others)

-- the parts round a byte
abbrev pub parts_of : ℕ → Option (List ℕ) → List (List ℕ)
parts_of byte None = []
parts_of byte (Some bs) = slice_split (λ b. b == byte) bs

-- some part of the list is no code
abbrev pub IsCodeStop : List ℕ → LineStop → Type 0
IsCodeStop list (Kind BadCountry) = codes_of (parts_of 44 (Some list)) ≡ None
IsCodeStop list (Kind kind) = ⊥
IsCodeStop list OutOfMemory = Unit {0}

-- what stands between the word and the first colon, and what is behind the colon
unfoldable pub titled_at : List ℕ → List ℕ → Option (List ℕ × List ℕ)
titled_at word bs = do
  rest ← after_word word bs
  behind ← behind_of 58 rest
  Some (front_of 58 rest, behind)

-- the codes of a header, and what is behind its colon
unfoldable pub header_codes : List ℕ → Option (List Alpha2 × List ℕ)
header_codes bs = do
  title ← titled_at (codes "country") bs
  cs ← codes_of (parts_of 44 (Some title.0))
  Some (cs, title.1)

unfoldable pub region_from_text : List ℕ → Option Region
region_from_text bs =
    if same_bytes bs [] then Some Unset else
    if same_bytes bs (codes "DFS-FCC") then Some Fcc else
    if same_bytes bs (codes "DFS-ETSI") then Some Etsi else
    if same_bytes bs (codes "DFS-JP") then Some Jp else None

-- ---- WMM rules

abbrev pub is_name_byte : ℕ → Bool
is_name_byte b = is_capital b || (nat_le 97 b && nat_le b 122) || is_digit b || b == 95 || b == 45

abbrev pub is_wmm_name : List ℕ → Bool
is_wmm_name name = nat_le 1 (length name) && nat_le (length name) 64 && list_all is_name_byte name

abbrev pub whole_title : List ℕ × List ℕ → Option (List ℕ)
whole_title title = if is_wmm_name title.0 && same_bytes title.1 [] then Some title.0 else None

-- the name in the header of a WMM rule
unfoldable pub wmm_name_at : List ℕ → Option (List ℕ)
wmm_name_at bs = titled_at (codes "wmmrule") bs >>= whole_title

-- the number behind the word, at most this, and what is behind it
unfoldable pub field_at : List ℕ → ℕ → List ℕ → Option (ℕ × List ℕ)
field_at word most bs = do
  rest ← after_word word bs
  digits ← digits_at rest
  value ← value_within most digits.0
  Some (value, digits.1)

abbrev pub whole_numbers : ItemNumbers → List ℕ → Option ItemNumbers
whole_numbers numbers [] = Some numbers
whole_numbers numbers (b ∷ bs) = None

-- the four numbers of an item, behind its name
unfoldable pub numbers_of : List ℕ → Option ItemNumbers
numbers_of bs = do
  cw_min ← field_at (codes ":cw_min=") 32767 bs
  cw_max ← field_at (codes ",cw_max=") 32767 cw_min.1
  aifsn ← field_at (codes ",aifsn=") 255 cw_max.1
  cot ← field_at (codes ",cot=") 65535 aifsn.1
  whole_numbers (record { cw_min = cw_min.0; cw_max = cw_max.0; aifsn = aifsn.0; cot = cot.0 }) cot.1

-- the four numbers of the item
unfoldable pub item_numbers : Item → List ℕ → Option ItemNumbers
item_numbers item bs = after_word (item_name item) bs >>= numbers_of

-- the numbers fit the fields of an entry
pub record FitEntry (numbers : ItemNumbers) : Type 0 where
  pub cw_min : numbers.cw_min ≤ 32767
  pub cw_max : numbers.cw_max ≤ 32767
  pub aifsn : numbers.aifsn ≤ 255
  pub cot : numbers.cot ≤ 65535

-- the numbers are the entry's
pub record IsEntryOf (numbers : ItemNumbers) (e : WmmEntry) : Type 0 where
  pub least_window : numbers.cw_min + 1 ≡ 2 ^ e.min_exp
  pub greatest_window : numbers.cw_max + 1 ≡ 2 ^ e.max_exp
  pub aifsn : numbers.aifsn ≡ e.aifsn
  pub cot : numbers.cot ≡ e.cot_ms
  pub valid : IsValidEntry e

-- ---- rules

-- the band, where its range isn't empty, begins above 0 and holds the width, and what is behind it
abbrev pub valid_band : Band → List ℕ → Option (Band × List ℕ)
valid_band band rest =
    if nat_lt 0 band.start_khz && nat_lt band.start_khz band.end_khz && nat_le band.width_khz (band.end_khz - band.start_khz)
    then Some (band, rest) else None

-- MHz behind the byte, in kHz, and what is behind them
unfoldable pub khz_behind : ℕ → List ℕ → Option (ℕ × List ℕ)
khz_behind byte bs = after_byte byte bs >>= decimal_at 3 4294967295

unfoldable pub band_at : List ℕ → Option (Band × List ℕ)
band_at bs = do
  start ← khz_behind 40 bs
  end ← khz_behind 45 start.1
  width ← khz_behind 64 end.1
  rest ← after_byte 41 width.1
  valid_band (record { start_khz = start.0; end_khz = end.0; width_khz = width.0 }) rest

abbrev pub or_all : Option (List ℕ) → List ℕ → List ℕ
or_all None bs = bs
or_all (Some rest) bs = rest

-- what is behind a gain, if one stands first
unfoldable pub behind_gain : List ℕ → List ℕ
behind_gain bs = or_all (after_word (codes "N/A,") bs) (or_all (after_word (codes "0,") bs) bs)

abbrev pub milliwatts_of : List ℕ → List ℕ → Option (Amount × List ℕ)
milliwatts_of digits rest = do
  value ← value_within 1000000 digits
  if value == 0 then None else Some (Milliwatts value, rest)

abbrev pub mbm_of : ℕ × List ℕ → Option (Amount × List ℕ)
mbm_of x = Some (Mbm x.0, x.1)

abbrev pub amount_from : List ℕ → List ℕ → Option (List ℕ) → Option (Amount × List ℕ)
amount_from digits bs (Some rest) = milliwatts_of digits rest
amount_from digits bs None = decimal_from 2 65535 digits bs >>= mbm_of

-- an amount of power, and what is behind it
unfoldable pub amount_at : List ℕ → Option (Amount × List ℕ)
amount_at bs = digits_at bs >>= (λ digits. amount_from digits.0 digits.1 (after_word (codes "mW") digits.1))

-- a comma and a power, and what is behind it
unfoldable pub power_at : List ℕ → Option (Amount × List ℕ)
power_at bs = do
  one ← after_word (codes ",(") bs
  amount ← amount_at (behind_gain one)
  rest ← after_byte 41 amount.1
  Some (amount.0, rest)

abbrev pub IsAmount : Amount → Type 0
IsAmount (Mbm mbm) = mbm ≤ 65535
IsAmount (Milliwatts mw) = IsMilliwatts mw

-- the amount in mBm
abbrev pub MeansMbm : Amount → ℕ → Type 0
MeansMbm (Mbm value) mbm = mbm ≡ value
MeansMbm (Milliwatts mw) mbm = IsMbm mw mbm

-- ---- words behind a power

unfoldable pub flag_of : List ℕ → Option Flag
flag_of bs =
    if same_bytes bs (codes "NO-OFDM") then Some NoOfdm else
    if same_bytes bs (codes "NO-OUTDOOR") then Some NoOutdoor else
    if same_bytes bs (codes "DFS") then Some Dfs else
    if same_bytes bs (codes "NO-IR") then Some NoIr else
    if same_bytes bs (codes "AUTO-BW") then Some AutoBw else
    if same_bytes bs (codes "NO-CCK") then Some NoCck else
    if same_bytes bs (codes "NO-INDOOR") then Some NoIndoor else
    if same_bytes bs (codes "PTP-ONLY") then Some PtpOnly else
    if same_bytes bs (codes "PTMP-ONLY") then Some PtmpOnly else None

abbrev pub name_word : List ℕ → Option Word
name_word name = if is_wmm_name name then Some (OfName name) else None

abbrev pub flag_or_name : Option Flag → List ℕ → Option Word
flag_or_name (Some flag) bs = Some (OfFlag flag)
flag_or_name None bs = after_word (codes "wmmrule=") bs >>= name_word

-- the word that the bytes are
unfoldable pub word_of : List ℕ → Option Word
word_of bs = flag_or_name (flag_of bs) bs

abbrev pub word_read : ReadWord → Word
word_read (ReadFlag flag) = OfFlag flag
word_read (ReadName name) = OfName name.now

-- what words say together
pub record Gathered : Type 0 where
  pub flags : RuleFlags
  pub name : Option (List ℕ)
  pub kept : Bool

abbrev pub gathered : RuleWords → Gathered
gathered words = record { flags = words.flags; name = option_map (λ name. name.now) words.name; kept = words.is_kept }

abbrev pub nothing_gathered : Gathered
nothing_gathered = record { flags = no_flags; name = None; kept = true }

abbrev pub is_kept : Flag → Bool
is_kept NoCck = false
is_kept NoIndoor = false
is_kept PtpOnly = false
is_kept PtmpOnly = false
is_kept flag = true

abbrev pub with_name : List ℕ → Option (List ℕ) → Gathered → Option Gathered
with_name name None g = Some (record { flags = g.flags; name = Some name; kept = g.kept })
with_name name (Some other) g = None

-- one word more, which is no second name
unfoldable pub gather_word : Word → Gathered → Option Gathered
gather_word (OfFlag flag) g = Some (record { flags = with_flag flag g.flags; name = g.name; kept = g.kept && is_kept flag })
gather_word (OfName name) g = with_name name g.name g

-- what was gathered, and the words that the parts are
unfoldable pub gather : Gathered → List (List ℕ) → Option Gathered
gather g [] = Some g
gather g (part ∷ parts) = do
  word ← word_of part
  more ← gather_word word g
  gather more parts

-- what the words say, each of which stands behind a comma
unfoldable pub words_at : List ℕ → Option Gathered
words_at [] = Some nothing_gathered
words_at (b ∷ bs) = if b == 44 then gather nothing_gathered (parts_of 44 (Some bs)) else None

-- the rule of a band, a power and flags
abbrev pub rule_from : Band → ℕ → RuleFlags → Rule
rule_from band mbm flags =
    record { start_khz = band.start_khz; end_khz = band.end_khz; max_bw_khz = band.width_khz; flags = flags; eirp_mbm = mbm; cac_s = 0; wmm = None }

-- what is read of a rule's line
pub record IsSpelledAs (line : List ℕ) (rule : Rule) (name : Option (List ℕ)) (kept : Bool) : Type 0 where
  pub text : RuleText
  pub is : IsSpelledRule line text rule
  pub named : names_in text.words ≡ list_of name
  pub all_kept : kept ≡ true → All IsKeptWord text.words
  pub some_unkept : kept ≡ false → All IsKeptWord text.words → ⊥
