-- What a word by itself stands for.
use Rattle.std.specs.Prelude.{◌≡◌, ℕ, ◌+◌, ◌*◌, ◌-◌, ◌%◌, ◌^◌, ◌≤◌, ◌⊎◌, ◌==◌, ◌&&◌, ◌||◌, nat_le, nat_lt, not, Bool, true, false, List, [], ◌∷◌, length, take, drop, Option, Some, None, codes, if◌then◌else◌}
use Rattle.std.specs.List.{list_all}
use Rattle.std.specs.Char.{is_ascii_digit}
use Rattle.std.specs.Str.{all_ascii_digits}
use Rattle.std.specs.Str.Parse.{digits_value}
use Rattle.reg_base.specs.Texts.{◌>>=◌, same_bytes}
use Rattle.freq_range.specs.Channels.{IsChannel}
use Rattle.freq_range.specs.declared.channel.Band.TheVariants.{Ghz2, Ghz5}
use Rattle.rule_tables.specs.Code.{is_code}
use Rattle.rule_tables.specs.declared.code.Alpha2.{Alpha2}
use Rattle.chan_def.specs.Words.{IsNamedBy}
use Rattle.chan_def.specs.declared.definition.ChanDef.{ChanDef}
use Rattle.chan_def.specs.declared.kind.Kind.{Kind}
use Rattle.chan_def.specs.declared.kind.Kind.TheVariants.{Ap, Ibss, Mesh, Station, Monitor}
use Rattle.chan_def.specs.declared.width.Width.{Width}
use Rattle.chan_def.specs.declared.width.Width.TheVariants.{Noht, W20, W40, W80, W160, W320}
use Rattle.chan_flags.specs.declared.profile.Bands.{Bands}
use Rattle.line_forms.specs.Words.{is_empty}

-- ---- numbers

-- a digit stands first, and a 0 alone
abbrev pub begins_number : List ℕ → Bool
begins_number [] = false
begins_number (d ∷ ds) = is_ascii_digit d && (not (d == 48) || is_empty ds)

-- digits without a leading zero, of any value
abbrev pub is_numeral : List ℕ → Bool
is_numeral ds = list_all is_ascii_digit ds && begins_number ds

-- the number that the word spells in decimal, without sign or leading zeros, where it fits 64 bits
unfoldable pub number_of_word : List ℕ → Option ℕ
number_of_word ds = if all_ascii_digits ds && begins_number ds && nat_lt (digits_value 10 ds) (2 ^ 64) then Some (digits_value 10 ds) else None

-- a number, where it lies between these
abbrev pub between : ℕ → ℕ → ℕ → Option ℕ
between least most n = if nat_le least n && nat_le n most then Some n else None

-- the number from least to most that the word spells
unfoldable pub number_within : ℕ → ℕ → List ℕ → Option ℕ
number_within least most word = do
  n ← number_of_word word
  between least most n

-- ---- radios

-- what is behind this text
abbrev pub behind : List ℕ → List ℕ → Option (List ℕ)
behind text word = if same_bytes (take (length text) word) text then Some (drop (length text) word) else None

-- the radio of the word `phy` and its number, 0 to 7
unfoldable pub radio_of_word : List ℕ → Option ℕ
radio_of_word word = do
  digits ← behind (codes "phy") word
  number_within 0 7 digits

-- these bands
abbrev pub some_bands : Bool → Bool → Bool → Option Bands
some_bands ghz2 ghz5 ghz6 = Some (record { ghz2 = ghz2; ghz5 = ghz5; ghz6 = ghz6 })

-- the bands whose numbers the word lists, ascending
unfoldable pub bands_of_word : List ℕ → Option Bands
bands_of_word word =
    if same_bytes word (codes "2") then some_bands true false false else
    if same_bytes word (codes "5") then some_bands false true false else
    if same_bytes word (codes "6") then some_bands false false true else
    if same_bytes word (codes "2,5") then some_bands true true false else
    if same_bytes word (codes "2,6") then some_bands true false true else
    if same_bytes word (codes "5,6") then some_bands false true true else
    if same_bytes word (codes "2,5,6") then some_bands true true true else None

-- ---- codes, kinds and bytes

-- two capital letters, or `00`
unfoldable pub code_of_word : List ℕ → Option Alpha2
code_of_word (a ∷ b ∷ []) = if is_code a b then Some (record { a = a; b = b }) else None
code_of_word word = None

-- the kind of an interface, with the older names of three kinds
unfoldable pub kind_of_word : List ℕ → Option Kind
kind_of_word word =
    if same_bytes word (codes "__ap") then Some Ap else
    if same_bytes word (codes "ibss") then Some Ibss else
    if same_bytes word (codes "adhoc") then Some Ibss else
    if same_bytes word (codes "mesh") then Some Mesh else
    if same_bytes word (codes "mp") then Some Mesh else
    if same_bytes word (codes "managed") then Some Station else
    if same_bytes word (codes "station") then Some Station else
    if same_bytes word (codes "monitor") then Some Monitor else None

-- a digit, or a letter from a to f, small or capital
abbrev pub is_hex_digit : ℕ → Bool
is_hex_digit b = nat_le 48 b && nat_le b 57 || nat_le 97 b && nat_le b 102 || nat_le 65 b && nat_le b 70

-- the value of a digit of hexadecimal
abbrev pub hex_value : ℕ → ℕ
hex_value b = if nat_le b 57 then b - 48 else if nat_le b 70 then b - 55 else if nat_le b 102 then b - 87 else 0

-- the bytes that the digits spell, two for each
abbrev pub hex_bytes : List ℕ → List ℕ
hex_bytes [] = []
hex_bytes (a ∷ []) = []
hex_bytes (a ∷ b ∷ digits) = (hex_value a * 16 + hex_value b) ∷ hex_bytes digits

-- 1 to 255 bytes in hexadecimal
pub record IsHexWord (word : List ℕ) : Type 0 where
  pub some : 2 ≤ length word
  pub few : length word ≤ 510
  pub even : length word % 2 ≡ 0
  pub digits : list_all is_hex_digit word ≡ true

-- 1 to 32 bytes
abbrev pub IsSsid : List ℕ → Type 0
IsSsid word = (1 ≤ length word) × (length word ≤ 32)

-- ---- channels

-- the channel without HT round a centre, in kHz
abbrev pub noht : ℕ → ChanDef
noht khz = record { control_khz = khz; width = Noht; centre_khz = khz }

-- the width in MHz that the word spells
unfoldable pub width_of_word : List ℕ → Option Width
width_of_word word =
    if same_bytes word (codes "20") then Some W20 else
    if same_bytes word (codes "40") then Some W40 else
    if same_bytes word (codes "80") then Some W80 else
    if same_bytes word (codes "160") then Some W160 else
    if same_bytes word (codes "320") then Some W320 else None

-- one of the six words of iw for a channel round its control channel
unfoldable pub is_iw_word : List ℕ → Bool
is_iw_word word =
    same_bytes word (codes "NOHT") || same_bytes word (codes "HT20") || same_bytes word (codes "HT40+") || same_bytes word (codes "HT40-")
    || same_bytes word (codes "80MHz") || same_bytes word (codes "160MHz")

-- The word of iw gives this control channel, in kHz, the channel, whose centre is from 1 to 100,000 MHz.
pub record IsWordForm (control : ℕ) (word : List ℕ) (c : ChanDef) : Type 0 where
  pub named : IsNamedBy control word c
  pub some : 1000 ≤ c.centre_khz
  pub few : c.centre_khz ≤ 100000000

-- a channel of 2.4 GHz or 5 GHz has this number, and this centre in kHz: 1 to 14 are in 2.4 GHz, others in 5 GHz
abbrev pub HasChannelNumber : ℕ → ℕ → Type 0
HasChannelNumber number khz = IsChannel Ghz2 number khz ⊎ IsChannel Ghz5 number khz

-- The word is the number of the channel with this centre in kHz: 1 to 14 in 2.4 GHz, others in 5 GHz.
pub record IsChannelWord (word : List ℕ) (khz : ℕ) : Type 0 where
  pub number : ℕ
  pub spelled : number_within 1 255 word ≡ Some number
  pub centre : HasChannelNumber number khz
