-- Requests as messages.
use Rattle.std.specs.Prelude.{◌≡◌, ℕ, ◌%◌, ◌⊎◌, cond, List, Any, None, IsSome, IfSome, IsSomeAnd, Result, Ok, Err}
use Rattle.nl_attrs.specs.declared.attr.Attr.{Attr}
use Rattle.nl_attrs.specs.declared.message.Msg.{Msg}
use Rattle.nl_attrs.specs.declared.message.Msg.TheVariants.{Generic, Error, Done}
use Rattle.reg_journal.specs.declared.request.Request.{Request}
use Rattle.nl80211_cmds.specs.Commands.{command_number, family_number, family_of, fields_of, is_dump, IsOfCommand}
use Rattle.nl80211_cmds.specs.Drafts.{asked_request, command_of, nothing_told, told_by}
use Rattle.nl80211_cmds.specs.Fields.{FieldsTell, fields_attrs}
use Rattle.nl80211_cmds.specs.Values.{AreFourZeros, payload_of}
use Rattle.nl80211_cmds.specs.declared.attribute.TheConstants.{TX_POWER_SETTING, WIPHY_FREQ, USER_REG_HINT_TYPE}
use Rattle.nl80211_cmds.specs.declared.command.Command.{Command}
use Rattle.nl80211_cmds.specs.declared.command.Command.TheVariants as commands
use Rattle.nl80211_cmds.specs.declared.draft.Draft.{Draft}
use Rattle.nl80211_cmds.specs.declared.fault.TheConstants.{INVALID, NOT_SUPPORTED}
use Rattle.nl80211_cmds.specs.declared.fault.RequestFault.{RequestFault}
use Rattle.nl80211_cmds.specs.declared.fault.RequestFault.TheVariants as request_faults
use Rattle.nl80211_cmds.specs.declared.field.Field.{Field}
use Rattle.nl80211_cmds.specs.declared.field.Field.TheVariants as fields
use Rattle.nl80211_cmds.specs.declared.request_writer.TheConstants.{DUMP_FLAGS, REQUEST_FLAGS}

-- ---- what a message asks

-- Of the two commands of one number the one is meant that has its attribute: a power, or a channel, and not both.
abbrev pub IsMeant : Command → List Attr → Type 0
IsMeant commands.SetWiphyPower attrs = IsSome (payload_of TX_POWER_SETTING attrs) × (payload_of WIPHY_FREQ attrs ≡ None)
IsMeant commands.SetWiphyChannel attrs = (payload_of TX_POWER_SETTING attrs ≡ None) × IsSome (payload_of WIPHY_FREQ attrs)
IsMeant command attrs = Unit {0}

-- the hint is a user's: another type of hint isn't named
abbrev pub IsUsersHint : List Attr → Type 0
IsUsersHint attrs = IfSome (payload_of USER_REG_HINT_TYPE attrs) AreFourZeros

abbrev pub IsOthersHint : List Attr → Type 0
IsOthersHint attrs = IsSomeAnd (payload_of USER_REG_HINT_TYPE attrs) (λ p. AreFourZeros p → ⊥)

-- a hint is one of those that are supported
abbrev pub IsSupportedHint : Command → List Attr → Type 0
IsSupportedHint commands.ReqSetReg attrs = IsUsersHint attrs
IsSupportedHint command attrs = Unit {0}

-- A message of this command with these flags and attributes asks this: the flag REQUEST is set, and the attributes tell each
-- field.
pub record AsksBy (command : Command) (flags : ℕ) (attrs : List Attr) (q : Request) : Type 0 where
  pub flagged : flags % 2 ≡ 1
  pub meant : IsMeant command attrs
  pub told : Draft
  pub tells : FieldsTell (fields_of command) attrs nothing_told told
  pub is : q ≡ asked_request command told

-- the message is of this command
pub record AsksAs (command : Command) (family flags number : ℕ) (attrs : List Attr) (q : Request) : Type 0 where
  pub command_is : IsOfCommand command family number
  pub supported : IsSupportedHint command attrs
  pub asks : AsksBy command flags attrs q

-- The message asks this.
abbrev pub MsgAsks : Msg → Request → Type 0
MsgAsks (Generic family flags seq pid number version attrs) q = (command : Command) × AsksAs command family flags number attrs q
MsgAsks (Error flags seq pid code head) q = ⊥
MsgAsks (Done flags seq pid code) q = ⊥

-- The message is no command, or a hint that isn't a user's.
abbrev pub IsUnsupported : Msg → Type 0
IsUnsupported (Generic family flags seq pid number version attrs) =
    ((command : Command) → IsOfCommand command family number → ⊥)
    ⊎ (IsOfCommand commands.ReqSetReg family number × IsOthersHint attrs)
IsUnsupported (Error flags seq pid code head) = Unit {0}
IsUnsupported (Done flags seq pid code) = Unit {0}

-- the field's value is a list, which takes memory
abbrev pub IsListField : Field → Type 0
IsListField (fields.Body kind) = Unit {0}
IsListField (fields.Rules kind) = Unit {0}
IsListField field = ⊥

-- the message is of a command that has a list
abbrev pub HasListField : Msg → Type 0
HasListField (Generic family flags seq pid number version attrs) =
    (command : Command) × IsOfCommand command family number × Any IsListField (fields_of command)
HasListField (Error flags seq pid code head) = ⊥
HasListField (Done flags seq pid code) = ⊥

-- Why the message is no request: it isn't supported, or else it asks nothing. Only a list takes memory.
abbrev pub IsRequestFault : Msg → RequestFault → Type 0
IsRequestFault m (request_faults.Errno errno) =
    ((errno ≡ NOT_SUPPORTED) × IsUnsupported m)
    ⊎ ((errno ≡ INVALID) × (IsUnsupported m → ⊥) × ((q : Request) → MsgAsks m q → ⊥))
IsRequestFault m request_faults.OutOfMemory = HasListField m

-- what reading gives where the message asks this: it, unless memory runs out
abbrev pub GivesRequest : Result Request RequestFault → Request → Type 0
GivesRequest (Ok given) q = given ≡ q
GivesRequest (Err fault) q = fault ≡ request_faults.OutOfMemory

-- ---- the message of a request

-- dumps have flags of their own
abbrev pub flags_of : Command → ℕ
flags_of command = cond (is_dump command) DUMP_FLAGS REQUEST_FLAGS

-- a message of this command, with what is told
abbrev pub message_by : Command → Draft → ℕ → Msg
message_by command told seq =
    Generic (family_number (family_of command)) (flags_of command) seq 0 (command_number command) 0 (fields_attrs (fields_of command) told)

-- The one message that is written for the request.
abbrev pub message_of : Request → ℕ → Msg
message_of q seq = message_by (command_of q) (told_by q) seq
