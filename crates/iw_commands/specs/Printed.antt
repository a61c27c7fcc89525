-- The texts of replies and of faults of lines. Each line ends with a newline.
use Rattle.std.specs.Prelude.{◌≡◌, ℕ, List, ◌++◌, codes, decimal}
use Rattle.reg_base.specs.Texts.{line_of}
use Rattle.std.specs.List.{flat_map}
use Rattle.reg_hints.specs.declared.hint.Treatment.TheVariants.{Replace, Intersect, Already, Ignore}
use Rattle.reg_journal.specs.declared.effects.Effect.{Effect}
use Rattle.reg_journal.specs.declared.effects.Effect.TheVariants.{Stopped, Dropped, Power as EffectPower}
use Rattle.reg_journal.specs.declared.refusal.Refusal.{Refusal}
use Rattle.reg_journal.specs.declared.refusal.Refusal.TheVariants.{MomentBack, MomentTooLarge, NoRadio, SlotUsed, NoInterface, NameTaken, Full, WrongType, Busy, BadChannel, RadioLacks, RadioLacksWidth, RadioLacksContext, NoRule, Width, NoOfdm, NoIr, NoOutdoor, Power, RadioLacksRadarWidth, Radar, Unchecked, DriverFailed, NothingToCheck, NotRunning, NoCountry, TooManyDomains, TooManyRows, NoRules, TooManyRules, BadRule, ElementShort, ElementOdd, ElementNotLetters}
use Rattle.reg_journal.specs.declared.reply.Answer.{Answer}
use Rattle.reg_journal.specs.declared.reply.Answer.TheVariants.{Ok as Done, Hint, Started, Checking, Refused}
use Rattle.reg_journal.specs.declared.reply.HintAnswer.{HintAnswer}
use Rattle.reg_journal.specs.declared.reply.HintAnswer.TheVariants.{Treated, Own}
use Rattle.reg_journal.specs.declared.reply.Reply.{Reply}
use Rattle.reg_journal.specs.declared.reply.Reply.TheVariants.{Plain, Regs, Channels, Radio as OfRadio, Iface as OfIface}
use Rattle.iw_dumps.specs.DumpTexts.{channels_text, iface_report_text, radio_report_text, sections_text}
use Rattle.iw_dumps.specs.Spelling.{code_text, radio_text, whole_mhz_text}
use Rattle.line_forms.specs.declared.fault.LineFault.{LineFault}
use Rattle.line_forms.specs.declared.fault.LineFault.TheVariants.{TooLong, NotAscii, Unknown, BadNumber, BadForm, Missing}

-- what was there before still stands first
pub record KeepsFront (before now : List ℕ) : Type 0 where
  pub more : List ℕ
  pub is : now ≡ before ++ more

-- ---- answers

-- how a hint was taken
abbrev pub hint_text : HintAnswer → List ℕ
hint_text (Treated Replace) = codes "replaced"
hint_text (Treated Intersect) = codes "intersected"
hint_text (Treated Already) = codes "already set"
hint_text (Treated Ignore) = codes "ignored"
hint_text Own = codes "own"

-- a refusal without the word `refused`; subchannels in MHz, powers in mBm, widths in MHz
abbrev pub refusal_text : Refusal → List ℕ
refusal_text (MomentBack now) = codes "moment back " ++ decimal now
refusal_text (MomentTooLarge asked) = codes "moment too large " ++ decimal asked
refusal_text (NoRadio radio) = codes "no radio " ++ radio_text radio
refusal_text (SlotUsed radio) = codes "slot used " ++ radio_text radio
refusal_text (NoInterface name) = codes "no interface " ++ name
refusal_text (NameTaken name) = codes "name taken " ++ name
refusal_text Full = codes "full"
refusal_text WrongType = codes "wrong type"
refusal_text Busy = codes "busy"
refusal_text BadChannel = codes "bad channel"
refusal_text (RadioLacks khz) = codes "radio lacks " ++ whole_mhz_text khz
refusal_text (RadioLacksWidth mhz) = codes "radio lacks width " ++ decimal mhz
refusal_text (RadioLacksContext contexts) = codes "radio lacks context " ++ decimal contexts
refusal_text (NoRule khz) = codes "no rule " ++ whole_mhz_text khz
refusal_text (Width khz) = codes "width " ++ whole_mhz_text khz
refusal_text (NoOfdm khz) = codes "NO-OFDM " ++ whole_mhz_text khz
refusal_text (NoIr khz) = codes "NO-IR " ++ whole_mhz_text khz
refusal_text (NoOutdoor khz) = codes "NO-OUTDOOR " ++ whole_mhz_text khz
refusal_text (Power limit) = codes "power " ++ decimal limit
refusal_text (RadioLacksRadarWidth mhz) = codes "radio lacks radar width " ++ decimal mhz
refusal_text (Radar khz) = codes "radar " ++ whole_mhz_text khz
refusal_text (Unchecked khz) = codes "unchecked " ++ whole_mhz_text khz
refusal_text DriverFailed = codes "driver failed"
refusal_text NothingToCheck = codes "nothing to check"
refusal_text NotRunning = codes "not running"
refusal_text (NoCountry code) = codes "no country " ++ code_text code
refusal_text TooManyDomains = codes "too many domains"
refusal_text (TooManyRows rows) = codes "too many rows " ++ decimal rows
refusal_text NoRules = codes "no rules"
refusal_text (TooManyRules rules) = codes "too many rules " ++ decimal rules
refusal_text (BadRule place) = codes "bad rule " ++ decimal place
refusal_text (ElementShort bytes) = codes "element short " ++ decimal bytes
refusal_text (ElementOdd bytes) = codes "element odd " ++ decimal bytes
refusal_text ElementNotLetters = codes "element not letters"

-- powers in mBm, lengths in ms
abbrev pub answer_text : Answer → List ℕ
answer_text Done = codes "ok"
answer_text (Hint taken) = codes "hint " ++ hint_text taken
answer_text (Started power) = codes "started " ++ decimal power
answer_text (Checking length) = codes "checking " ++ decimal length
answer_text (Refused refusal) = codes "refused: " ++ refusal_text refusal

-- ---- effects

-- an effect is indented by a tab
abbrev pub effect_text : Effect → List ℕ
effect_text (Stopped name) = codes "\tstopped " ++ name
effect_text (Dropped name) = codes "\tdropped " ++ name
effect_text (EffectPower name power) = codes "\tpower " ++ (name ++ (codes " " ++ decimal power))

-- ---- replies

-- a line for each effect
abbrev pub effect_lines : List Effect → List ℕ
effect_lines effects = flat_map (λ effect. line_of (effect_text effect)) effects

-- the line of the answer, and then one for each effect
abbrev pub plain_text : Answer → List Effect → List ℕ
plain_text answer effects = line_of (answer_text answer) ++ effect_lines effects

-- the text of a reply
abbrev pub text_of_reply : Reply → List ℕ
text_of_reply (Plain answer effects) = plain_text answer effects
text_of_reply (Regs sections) = sections_text sections
text_of_reply (Channels radio list) = channels_text list
text_of_reply (OfRadio report) = radio_report_text report
text_of_reply (OfIface report) = iface_report_text report

-- this is the text of the reply
abbrev pub IsTextOf : Reply → List ℕ → Type 0
IsTextOf reply text = text ≡ text_of_reply reply

-- that text stands behind what was there before
abbrev pub AppendsTextOf : Reply → List ℕ → List ℕ → Type 0
AppendsTextOf reply before now = now ≡ before ++ text_of_reply reply

-- ---- faults of lines

-- the name of a fault, as it is printed, and the place of the word
abbrev pub fault_name : LineFault → List ℕ
fault_name TooLong = codes "too long"
fault_name NotAscii = codes "not ascii"
fault_name (Unknown n) = codes "unknown word " ++ decimal n
fault_name (BadNumber n) = codes "bad number word " ++ decimal n
fault_name (BadForm n) = codes "bad form word " ++ decimal n
fault_name Missing = codes "missing word"

-- the line that answers a faulty line of a script
abbrev pub line_fault_text : LineFault → List ℕ
line_fault_text fault = line_of (codes "line fault: " ++ fault_name fault)
