-- What private functions say of the attributes that they read.
use Rattle.std.specs.Prelude.{◌≡◌, ℕ, ◌⊎◌, List, Any, Some, Result, Ok, Err}
use Rattle.reg_journal.specs.declared.request.Request.{Request}
use Rattle.nl_attrs.specs.declared.attr.Attr.{Attr}
use Rattle.nl80211_cmds.specs.Commands.{fields_of, numbered_command, IsOfCommand}
use Rattle.nl80211_cmds.specs.Fields.{FieldTells, FieldsTell}
use Rattle.nl80211_cmds.specs.Requests.{IsListField, IsSupportedHint, IsOthersHint, AsksBy}
use Rattle.nl80211_cmds.specs.declared.command.Command.{Command}
use Rattle.nl80211_cmds.specs.declared.command.Command.TheVariants as commands
use Rattle.nl80211_cmds.specs.declared.draft.Draft.{Draft}
use Rattle.nl80211_cmds.specs.declared.fault.TheConstants.{INVALID}
use Rattle.nl80211_cmds.specs.declared.fault.FieldFault.{FieldFault}
use Rattle.nl80211_cmds.specs.declared.fault.FieldFault.TheVariants as field_faults
use Rattle.nl80211_cmds.specs.declared.fault.RequestFault.{RequestFault}
use Rattle.nl80211_cmds.specs.declared.fault.RequestFault.TheVariants as request_faults
use Rattle.nl80211_cmds.specs.declared.field.Field.{Field}

-- why a field can't be taken: the attributes don't tell it; only a list takes memory
abbrev pub IsFieldFault : Field → List Attr → Draft → FieldFault → Type 0
IsFieldFault field attrs d field_faults.Malformed = (e : Draft) → FieldTells field attrs d e → ⊥
IsFieldFault field attrs d field_faults.OutOfMemory = IsListField field

-- the same of fields
abbrev pub IsFieldsFault : List Field → List Attr → Draft → FieldFault → Type 0
IsFieldsFault list attrs d field_faults.Malformed = (e : Draft) → FieldsTell list attrs d e → ⊥
IsFieldsFault list attrs d field_faults.OutOfMemory = Any IsListField list

-- the command that stands for all with its number
abbrev pub main_command : Command → Command
main_command commands.SetWiphyChannel = commands.SetWiphyPower
main_command command = command

-- what a message of one of the commands that this one stands for asks, or why it asks nothing
abbrev pub IsAnswerBy : Command → ℕ → List Attr → Result Request RequestFault → Type 0
IsAnswerBy main flags attrs (Ok q) = (command : Command) × (main_command command ≡ main) × AsksBy command flags attrs q
IsAnswerBy main flags attrs (Err (request_faults.Errno errno)) =
    (errno ≡ INVALID) × ((command : Command) (q : Request) → main_command command ≡ main → AsksBy command flags attrs q → ⊥)
IsAnswerBy main flags attrs (Err request_faults.OutOfMemory) = (command : Command) × (main_command command ≡ main) × Any IsListField (fields_of command)

-- the message is of no command, or a hint that isn't a user's
abbrev pub IsNotSupported : ℕ → ℕ → List Attr → Type 0
IsNotSupported family number attrs =
    ((command : Command) → IsOfCommand command family number → ⊥) ⊎ (IsOfCommand commands.ReqSetReg family number × IsOthersHint attrs)

-- the first command of that number, which is supported
abbrev pub Supports : ℕ → ℕ → List Attr → Command → Type 0
Supports family number attrs command = (numbered_command family number ≡ Some command) × IsSupportedHint command attrs
