-- What a word at a slot of a line has to be, and what it tells.
use Rattle.std.specs.Prelude.{◌≡◌, ◌≢◌, ℕ, ◌*◌, ◌/◌, ◌⊎◌, Bool, false, List, Some, codes}
use Rattle.radio_drv.specs.Names.{IsName}
use Rattle.rule_tables.specs.declared.code.Alpha2.{Alpha2}
use Rattle.chan_def.specs.Covered.{width_khz}
use Rattle.chan_def.specs.declared.definition.ChanDef.{ChanDef}
use Rattle.chan_def.specs.declared.kind.Kind.{Kind}
use Rattle.chan_def.specs.declared.width.Width.{Width}
use Rattle.chan_flags.specs.Profiles.{Abilities}
use Rattle.chan_flags.specs.declared.profile.Bands.{Bands}
use Rattle.line_forms.specs.Spelling.{IsChannelWord, IsHexWord, IsSsid, IsWordForm, bands_of_word, code_of_word, is_iw_word, is_numeral, kind_of_word, noht, number_of_word, number_within, radio_of_word, width_of_word}
use Rattle.line_forms.specs.Told.{Told, as_wide, round, twenty, with_bands, tell_chan, tell_code, with_contexts, tell_digits, tell_kind, tell_moment, with_most_power, tell_name, tell_power, tell_profile, with_radar, tell_radio, with_width}
use Rattle.line_forms.specs.declared.slot.Slot.{Slot}
use Rattle.line_forms.specs.declared.slot.Slot.TheVariants.{Fixed, Moment, Radio, Bands as OfBands, Width as OfWidth, RadarWidth, MostPower, Contexts, Rules, Hex, Code, Mhz, ChannelNo, WordForm, Twenty, Wide, Centre, Name, OfKind, Power, Ssid, Interval, Dtim}
use Rattle.line_forms.specs.declared.slot.Sort.{Sort}
use Rattle.line_forms.specs.declared.slot.Sort.TheVariants.{OneWord, Number, OtherForm}
use Rattle.line_forms.specs.declared.slot.Word.{Word}
use Rattle.line_forms.specs.declared.slot.Word.TheVariants.{At, RadioOf, Add, Del, RulesOf, BandsOf, WidthOf, RadarOf, PowerOf, ContextsOf, SelfManaged, Deaf, Element, Driver, Indoor, On, Off, Iw, Reg, Get, Set, Phy, Info, Channels, Interface, TypeOf, Dev, FreqOf, ChannelOf, TxPower, Auto, Limit, FixedAt, Cac, Trigger, Ap, Start, Stop, Head, Ibss, Join, Leave, Mesh, Connect, Disconnect}

-- the bytes of a fixed word
abbrev pub fixed_text : Word → List ℕ
fixed_text At = codes "at"
fixed_text RadioOf = codes "radio"
fixed_text Add = codes "add"
fixed_text Del = codes "del"
fixed_text RulesOf = codes "rules"
fixed_text BandsOf = codes "bands"
fixed_text WidthOf = codes "width"
fixed_text RadarOf = codes "radar"
fixed_text PowerOf = codes "power"
fixed_text ContextsOf = codes "contexts"
fixed_text SelfManaged = codes "self"
fixed_text Deaf = codes "noie"
fixed_text Element = codes "element"
fixed_text Driver = codes "driver"
fixed_text Indoor = codes "indoor"
fixed_text On = codes "on"
fixed_text Off = codes "off"
fixed_text Iw = codes "iw"
fixed_text Reg = codes "reg"
fixed_text Get = codes "get"
fixed_text Set = codes "set"
fixed_text Phy = codes "phy"
fixed_text Info = codes "info"
fixed_text Channels = codes "channels"
fixed_text Interface = codes "interface"
fixed_text TypeOf = codes "type"
fixed_text Dev = codes "dev"
fixed_text FreqOf = codes "freq"
fixed_text ChannelOf = codes "channel"
fixed_text TxPower = codes "txpower"
fixed_text Auto = codes "auto"
fixed_text Limit = codes "limit"
fixed_text FixedAt = codes "fixed"
fixed_text Cac = codes "cac"
fixed_text Trigger = codes "trigger"
fixed_text Ap = codes "ap"
fixed_text Start = codes "start"
fixed_text Stop = codes "stop"
fixed_text Head = codes "head"
fixed_text Ibss = codes "ibss"
fixed_text Join = codes "join"
fixed_text Leave = codes "leave"
fixed_text Mesh = codes "mesh"
fixed_text Connect = codes "connect"
fixed_text Disconnect = codes "disconnect"

-- The word tells one part of a profile, and takes it from p to q. Widths are in MHz, powers in mBm.
abbrev pub FillsProfile : Slot → Abilities → List ℕ → Abilities → Type 0
FillsProfile OfBands p w q = (bands : Bands) × (bands_of_word w ≡ Some bands) × (q ≡ with_bands bands p)
FillsProfile OfWidth p w q = (width : Width) × (width_of_word w ≡ Some width) × (q ≡ with_width (width_khz width / 1000) p)
FillsProfile RadarWidth p w q = ((w ≡ codes "0") × (q ≡ with_radar 0 p))
    ⊎ ((w ≢ codes "0") × (width : Width) × (width_of_word w ≡ Some width) × (q ≡ with_radar (width_khz width / 1000) p))
FillsProfile MostPower p w q = (n : ℕ) × (number_within 0 65535 w ≡ Some n) × (q ≡ with_most_power n p)
FillsProfile Contexts p w q = (n : ℕ) × (number_within 1 8 w ≡ Some n) × (q ≡ with_contexts n p)
FillsProfile s p w q = ⊥

-- The word tells one part of a channel, and takes it from c to x.
abbrev pub FillsChannel : Slot → ChanDef → List ℕ → ChanDef → Type 0
FillsChannel Mhz c w x = (n : ℕ) × (number_within 1 100000 w ≡ Some n) × (x ≡ noht (1000 * n))
FillsChannel ChannelNo c w x = (khz : ℕ) × IsChannelWord w khz × (x ≡ noht khz)
FillsChannel WordForm c w x = IsWordForm c.control_khz w x
FillsChannel Twenty c w x = (w ≡ codes "20") × (x ≡ twenty c)
FillsChannel Wide c w x = (width : Width) × (width_of_word w ≡ Some width) × (x ≡ as_wide width c)
FillsChannel Centre c w x = (n : ℕ) × (number_within 1 100000 w ≡ Some n) × (x ≡ round n c)
FillsChannel s c w x = ⊥

-- the word tells a part of the profile
abbrev pub ByProfile : Slot → Told → List ℕ → Told → Type 0
ByProfile s d w e = (q : Abilities) × FillsProfile s d.profile w q × (e ≡ tell_profile q d)

-- the word tells a part of the channel
abbrev pub ByChannel : Slot → Told → List ℕ → Told → Type 0
ByChannel s d w e = (x : ChanDef) × FillsChannel s d.chan w x × (e ≡ tell_chan x d)

-- a number from 1 to 65,535
abbrev pub IsPeriod : List ℕ → Type 0
IsPeriod w = (n : ℕ) × (number_within 1 65535 w ≡ Some n)

-- The word stands at the slot, and takes what was told from d to e. Rules aren't told word by word: they are judged as a whole.
abbrev pub Fills : Slot → Told → List ℕ → Told → Type 0
Fills (Fixed word) d w e = (w ≡ fixed_text word) × (e ≡ d)
Fills Moment d w e = (n : ℕ) × (number_of_word w ≡ Some n) × (e ≡ tell_moment n d)
Fills Radio d w e = (r : ℕ) × (radio_of_word w ≡ Some r) × (e ≡ tell_radio r d)
Fills OfBands d w e = ByProfile OfBands d w e
Fills OfWidth d w e = ByProfile OfWidth d w e
Fills RadarWidth d w e = ByProfile RadarWidth d w e
Fills MostPower d w e = ByProfile MostPower d w e
Fills Contexts d w e = ByProfile Contexts d w e
Fills Rules d w e = ⊥
Fills Hex d w e = IsHexWord w × (e ≡ tell_digits w d)
Fills Code d w e = (a : Alpha2) × (code_of_word w ≡ Some a) × (e ≡ tell_code a d)
Fills Mhz d w e = ByChannel Mhz d w e
Fills ChannelNo d w e = ByChannel ChannelNo d w e
Fills WordForm d w e = ByChannel WordForm d w e
Fills Twenty d w e = ByChannel Twenty d w e
Fills Wide d w e = ByChannel Wide d w e
Fills Centre d w e = ByChannel Centre d w e
Fills Name d w e = IsName w × (e ≡ tell_name w d)
Fills OfKind d w e = (k : Kind) × (kind_of_word w ≡ Some k) × (e ≡ tell_kind k d)
Fills Power d w e = (n : ℕ) × (number_within 0 65535 w ≡ Some n) × (e ≡ tell_power n d)
Fills Ssid d w e = IsSsid w × (e ≡ d)
Fills Interval d w e = IsPeriod w × (e ≡ d)
Fills Dtim d w e = IsPeriod w × (e ≡ d)

-- the kind of words that a slot takes
abbrev pub sort_of : Slot → Sort
sort_of (Fixed word) = OneWord
sort_of Moment = Number
sort_of OfWidth = Number
sort_of RadarWidth = Number
sort_of MostPower = Number
sort_of Contexts = Number
sort_of Mhz = Number
sort_of ChannelNo = Number
sort_of Twenty = Number
sort_of Wide = Number
sort_of Centre = Number
sort_of Power = Number
sort_of Interval = Number
sort_of Dtim = Number
sort_of Radio = OtherForm
sort_of OfBands = OtherForm
sort_of Rules = OtherForm
sort_of Hex = OtherForm
sort_of Code = OtherForm
sort_of WordForm = OtherForm
sort_of Name = OtherForm
sort_of OfKind = OtherForm
sort_of Ssid = OtherForm

-- the word is of the form that such slots take, whatever its value: a numeral; or no word for the others
abbrev pub looks_like_sort : Sort → List ℕ → Bool
looks_like_sort OneWord w = false
looks_like_sort Number w = is_numeral w
looks_like_sort OtherForm w = false

-- The word looks like one for the slot: a numeral where a number can stand, and a word of iw where one can, even if its value
-- can't be accepted there.
abbrev pub looks_like : Slot → List ℕ → Bool
looks_like WordForm w = is_iw_word w
looks_like s w = looks_like_sort (sort_of s) w
