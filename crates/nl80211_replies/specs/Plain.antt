-- Plain replies as messages.
use Rattle.std.specs.Prelude.{ℕ, ◌/◌, ℤ, pos, neg_ℤ, List, [], ◌∷◌, ◌++◌, map}
use Rattle.nl_attrs.specs.Attributes.{attrs_bytes}
use Rattle.nl_attrs.specs.Endian.{le64}
use Rattle.nl_attrs.specs.Messages.{pid_of, seq_of}
use Rattle.nl_attrs.specs.Nesting.{nested_with}
use Rattle.nl_attrs.specs.declared.attr.Attr.{Attr}
use Rattle.nl_attrs.specs.declared.message.Msg.{Msg}
use Rattle.nl_attrs.specs.declared.message.Msg.TheVariants.{Generic}
use Rattle.reg_journal.specs.Codes.{code_and_errno, code_of_answer}
use Rattle.reg_journal.specs.declared.effects.Effect.{Effect}
use Rattle.reg_journal.specs.declared.effects.Effect.TheVariants.{Stopped, Dropped, Power as PowerSet}
use Rattle.reg_journal.specs.declared.refusal.Refusal.{Refusal}
use Rattle.reg_journal.specs.declared.refusal.Refusal.TheVariants.{MomentBack, MomentTooLarge, NoRadio, SlotUsed, NoInterface, NameTaken, Full, WrongType, Busy, BadChannel, RadioLacks, RadioLacksWidth, RadioLacksContext, NoRule, Width, NoOfdm, NoIr, NoOutdoor, Power, RadioLacksRadarWidth, Radar, Unchecked, DriverFailed, NothingToCheck, NotRunning, NoCountry, TooManyDomains, TooManyRows, NoRules, TooManyRules, BadRule, ElementShort, ElementOdd, ElementNotLetters}
use Rattle.reg_journal.specs.declared.reply.Answer.{Answer}
use Rattle.reg_journal.specs.declared.reply.Answer.TheVariants.{Started, Checking, Refused}
use Rattle.nl80211_cmds.specs.Errors.{error_answer}
use Rattle.nl80211_cmds.specs.Fields.{text_attr}
use Rattle.nl80211_cmds.specs.Values.{number_attr, plain_attr}
use Rattle.nl80211_cmds.specs.declared.attribute.TheConstants.{ALPHA2}
use Rattle.nl80211_replies.specs.declared.attribute.TheConstants.{CODE, EFFECT, NAME, NUMBER, REPLY, VERSION}

-- a number in eight bytes
abbrev pub wide_attr : ℕ → Attr
wide_attr n = plain_attr NUMBER (le64 n)

-- a subchannel in MHz
abbrev pub subchannel_attr : ℕ → Attr
subchannel_attr khz = wide_attr (khz / 1000)

-- what a refusal tells besides its code
abbrev pub refusal_value : Refusal → List Attr
refusal_value (MomentBack now) = wide_attr now ∷ []
refusal_value (MomentTooLarge asked) = wide_attr asked ∷ []
refusal_value (NoRadio radio) = wide_attr radio ∷ []
refusal_value (SlotUsed radio) = wide_attr radio ∷ []
refusal_value (NoInterface name) = text_attr NAME name ∷ []
refusal_value (NameTaken name) = text_attr NAME name ∷ []
refusal_value (RadioLacks khz) = subchannel_attr khz ∷ []
refusal_value (RadioLacksWidth mhz) = wide_attr mhz ∷ []
refusal_value (RadioLacksContext contexts) = wide_attr contexts ∷ []
refusal_value (NoRule khz) = subchannel_attr khz ∷ []
refusal_value (Width khz) = subchannel_attr khz ∷ []
refusal_value (NoOfdm khz) = subchannel_attr khz ∷ []
refusal_value (NoIr khz) = subchannel_attr khz ∷ []
refusal_value (NoOutdoor khz) = subchannel_attr khz ∷ []
refusal_value (Power limit) = wide_attr limit ∷ []
refusal_value (RadioLacksRadarWidth mhz) = wide_attr mhz ∷ []
refusal_value (Radar khz) = subchannel_attr khz ∷ []
refusal_value (Unchecked khz) = subchannel_attr khz ∷ []
refusal_value (NoCountry code) = text_attr ALPHA2 (code.a ∷ code.b ∷ []) ∷ []
refusal_value (TooManyRows rows) = wide_attr rows ∷ []
refusal_value (TooManyRules rules) = wide_attr rules ∷ []
refusal_value (BadRule place) = wide_attr place ∷ []
refusal_value (ElementShort bytes) = wide_attr bytes ∷ []
refusal_value (ElementOdd bytes) = wide_attr bytes ∷ []
refusal_value Full = []
refusal_value refusal = []

-- what an answer tells besides its code
abbrev pub answer_value : Answer → List Attr
answer_value (Started power) = wide_attr power ∷ []
answer_value (Checking length) = wide_attr length ∷ []
answer_value (Refused refusal) = refusal_value refusal
answer_value answer = []

-- its code, and what it tells
abbrev pub answer_attrs : Answer → List Attr
answer_attrs answer = number_attr CODE (code_of_answer answer) ∷ answer_value answer

-- 0, or below 0 the errno of a refusal
abbrev pub answer_errno : Answer → ℤ
answer_errno (Refused refusal) = neg_ℤ (pos (code_and_errno refusal).1)
answer_errno answer = pos 0

-- ---- effects

abbrev pub effect_code : Effect → ℕ
effect_code (Stopped name) = 0
effect_code (Dropped name) = 1
effect_code (PowerSet name power) = 2

-- the interface that it came to
abbrev pub effect_name : Effect → List ℕ
effect_name (Stopped name) = name
effect_name (Dropped name) = name
effect_name (PowerSet name power) = name

-- the power, in mBm, where it is one
abbrev pub effect_power : Effect → List Attr
effect_power (PowerSet name power) = wide_attr power ∷ []
effect_power effect = []

-- its code, its name and a power
abbrev pub effect_list : Effect → List Attr
effect_list effect = number_attr CODE (effect_code effect) ∷ text_attr NAME (effect_name effect) ∷ effect_power effect

abbrev pub effect_attr : Effect → Attr
effect_attr effect = nested_with EFFECT (attrs_bytes (effect_list effect))

-- ---- replies

-- a reply repeats the number and the port of its request
abbrev pub plain_attrs : Answer → List Effect → List Attr
plain_attrs answer effects = answer_attrs answer ++ map effect_attr effects

-- The messages of a plain reply: what is answered, and an Error message with the errno.
abbrev pub plain_messages : Msg → Answer → List Effect → List Msg
plain_messages request answer effects =
    Generic 33 0 (seq_of request) (pid_of request) REPLY VERSION (plain_attrs answer effects) ∷ error_answer request (answer_errno answer) ∷ []
