-- What the top call answers, and why.
use Rattle.std.specs.Prelude.{◌≡◌, ℕ, ◌<◌, ◌≤◌, ◌⊎◌, All, List, length}
use Rattle.std.specs.declared.alloc.Global.{Global}
use Rattle.std.specs.declared.string.String.{String}
use Rattle.rule_tables.specs.FileFaults.{IsDbFault}
use Rattle.rule_tables.specs.declared.domain.Domain.{Domain}
use Rattle.rule_tables.specs.declared.file_fault.DbFault.{DbFault}
use Rattle.db_commands.specs.Conversions.{IsConversion, IsInputFault, NamesConversion}
use Rattle.db_commands.specs.Converted.{HasInput, IsConverted, MayConvert, WritesOutput}
use Rattle.db_commands.specs.Status.{EndsWith}
use Rattle.db_commands.specs.Devices.{AreLeft, Devices, HasFault, IsUnread, IsUntouched, input_limit, script_limit}
use Rattle.iw_commands.specs.Scripts.{script_lines}
use Rattle.line_forms.specs.declared.fault.LineFault.{LineFault}
use Rattle.nl_attrs.specs.declared.fault.AttrFault.{AttrFault}
use Rattle.nl_attrs.specs.declared.message.Msg.{Msg}
use Rattle.make_command.specs.Make.{IsMakeStatus, MayMake, NamesMake, WritesCounts}
use Rattle.pack_command.specs.Pack.{HasFaultyLine, HasPackScript, IsGood, IsPackStatus, MayPack, NamesPack, WritesMessages}
use Rattle.script_run.specs.Run.{HasFile, HasInputOver, IsRunStatus, IsSilent, MayRun, NamesRun, WritesReplies}
use Rattle.wire_run.specs.Streaming.{stream_limit}
use Rattle.wire_run.specs.Wire.{HasNoFault, IsStreamFault, IsWireStatus, MayWire, NamesWire, WritesAnswers}
use Rattle.db_commands.specs.declared.conversion.Conversion.{Conversion}
use Rattle.db_commands.specs.declared.status.InputFault.{InputFault}
use Rattle.db_commands.specs.declared.status.InputFault.TheVariants.{Database, Line, Wire}
use Rattle.db_commands.specs.declared.status.Status.{Status}
use Rattle.db_commands.specs.declared.status.Status.TheVariants.{Done, Usage, Refused, NoMemory, TooLong}

-- the words are those of a command over the database file of that name
abbrev pub NamesDatabaseFile : List (String Global) → List ℕ → Type 0
NamesDatabaseFile words name = NamesRun words name ⊎ NamesWire words name

-- the words are the form of a command
abbrev pub IsCommand : List (String Global) → Type 0
IsCommand words = IsConversion words ⊎ (((name : List ℕ) × NamesDatabaseFile words name) ⊎ (((n : ℕ) × NamesMake words n) ⊎ NamesPack words))

-- A conversion ended so. It reads no file, and tells the drivers nothing.
abbrev pub ConvertsTo : List (String Global) → Devices → Status → Type 0
ConvertsTo words d status =
    (command : Conversion) × NamesConversion words command × IsConverted command d.input d.output status × IsUnread d.files × AreLeft d.drivers

-- `run` ended so
abbrev pub RunsTo : List (String Global) → Devices → Status → Type 0
RunsTo words d status = (name : List ℕ) × NamesRun words name × IsRunStatus d name status

-- `wire` ended so
abbrev pub WiresTo : List (String Global) → Devices → Status → Type 0
WiresTo words d status = (name : List ℕ) × NamesWire words name × IsWireStatus d name status

-- `make` ended so. It reads no file and no input.
abbrev pub MakesTo : List (String Global) → Devices → Status → Type 0
MakesTo words d status = (n : ℕ) × NamesMake words n × IsMakeStatus n d.output d.drivers status × IsUnread d.files × IsUntouched d.input

-- `pack` ended so. It reads no file, and tells the drivers nothing.
abbrev pub PacksTo : List (String Global) → Devices → Status → Type 0
PacksTo words d status = NamesPack words × IsPackStatus d.input d.output status × IsUnread d.files × AreLeft d.drivers

-- What the program ends with.
abbrev pub IsStatusOf : List (String Global) → Devices → Status → Type 0
IsStatusOf words d Usage = (IsCommand words → ⊥) × IsUnread d.files × IsUntouched d.input × IsSilent d
IsStatusOf words d status = ConvertsTo words d status ⊎ (RunsTo words d status ⊎ (WiresTo words d status ⊎ (MakesTo words d status ⊎ PacksTo words d status)))

-- Where nothing keeps a command from its output, the status is `Done` and all of it is written, or memory was wanting.
pub record IsComplete (words : List (String Global)) (d : Devices) (status : Status) : Type 0 where
  pub conversion : (command : Conversion) (input : List ℕ) (ds : List Domain)
      → MayConvert words d command input ds → (status ≡ NoMemory) ⊎ ((status ≡ Done) × WritesOutput d command ds)
  pub run : (name : List ℕ) (db : List Domain) (script : List ℕ)
      → NamesRun words name → MayRun d name db script → (status ≡ NoMemory) ⊎ ((status ≡ Done) × WritesReplies d db script)
  pub wire : (name : List ℕ) (db : List Domain) (stream : List ℕ) (messages : List Msg)
      → NamesWire words name → MayWire d name db stream messages → (status ≡ NoMemory) ⊎ ((status ≡ Done) × WritesAnswers d db messages)
  pub make : (n : ℕ) → MayMake words d n → (status ≡ NoMemory) ⊎ ((status ≡ Done) × WritesCounts d n)
  pub pack : (script : List ℕ) → MayPack words d script → (status ≡ NoMemory) ⊎ ((status ≡ Done) × WritesMessages d script)

-- Where the input has a fault, it is refused by it, or memory was wanting. So it is with the database file of `run` and `wire`, and
-- with a script of `pack` and a stream of `wire`, unless a write failed before.
pub record TellsFault (words : List (String Global)) (d : Devices) (status : Status) : Type 0 where
  pub conversion : (command : Conversion) (input : List ℕ) (fault : InputFault)
      → HasInput words d command input → length input ≤ input_limit → IsInputFault command input fault → EndsWith status (Refused fault)
  pub database : (name bytes : List ℕ) (fault : DbFault)
      → NamesDatabaseFile words name → HasFile d name bytes → length bytes ≤ input_limit → IsDbFault bytes fault → EndsWith status (Refused (Database fault))
  pub stream : (name : List ℕ) (db : List Domain) (stream : List ℕ) (place : ℕ) (fault : AttrFault)
      → NamesWire words name → HasInputOver d name db stream → length stream ≤ stream_limit → IsStreamFault stream place fault
      → EndsWith status (Refused (Wire place fault)) ⊎ HasFault d.output
  pub pack : (script : List ℕ) (number : ℕ) (fault : LineFault)
      → HasPackScript words d script → length script ≤ script_limit → HasFaultyLine script number fault → EndsWith status (Refused (Line number fault)) ⊎ HasFault d.output

-- Where the input is longer than the limit, that is told, or memory was wanting. So it is with the database file of `run` and `wire`.
-- It is so with the script of `run` and the stream of `wire` once the database is accepted, and with a script of `pack`, unless a
-- write failed before; the stream has no faulty message within the limit, and the script of `pack` no faulty line.
pub record TellsLength (words : List (String Global)) (d : Devices) (status : Status) : Type 0 where
  pub conversion : (command : Conversion) (input : List ℕ)
      → HasInput words d command input → input_limit < length input → EndsWith status TooLong
  pub database : (name bytes : List ℕ) → NamesDatabaseFile words name → HasFile d name bytes → input_limit < length bytes → EndsWith status TooLong
  pub script : (name : List ℕ) (db : List Domain) (script : List ℕ)
      → NamesRun words name → HasInputOver d name db script → script_limit < length script → EndsWith status TooLong ⊎ HasFault d.output
  pub stream : (name : List ℕ) (db : List Domain) (stream : List ℕ)
      → NamesWire words name → HasInputOver d name db stream → stream_limit < length stream → HasNoFault stream → EndsWith status TooLong ⊎ HasFault d.output
  pub pack : (script : List ℕ)
      → HasPackScript words d script → script_limit < length script → All IsGood (script_lines script) → EndsWith status TooLong ⊎ HasFault d.output
