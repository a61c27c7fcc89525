-- The command `run`: what it ends with, and why.
use Rattle.std.specs.Prelude.{◌≡◌, ℕ, ◌≤◌, ◌⊎◌, List, [], ◌∷◌, length, map, Option, Some, codes, string_bytes}
use Rattle.std.specs.Io.KnownBytes.{Appends, IsAtEnd}
use Rattle.std.specs.declared.alloc.Global.{Global}
use Rattle.std.specs.declared.string.String.{String}
use Rattle.reg_base.specs.Causes.{Rose}
use Rattle.reg_base.specs.Files.{IsLonger}
use Rattle.rule_tables.specs.FileFaults.{IsDbFault}
use Rattle.rule_tables.specs.FileFormat.{ReadsAs}
use Rattle.rule_tables.specs.declared.domain.Domain.{Domain}
use Rattle.rule_tables.specs.declared.file_fault.DbFault.{DbFault}
use Rattle.iw_commands.specs.Scripts.{script_lines}
use Rattle.db_commands.specs.Devices.{AreGood, AreLeft, StreamAround, Devices, HasFault, HasFileFault, IsRead, IsUntouched, DriversAround, input_limit, script_limit}
use Rattle.core_runs.specs.Driven.{AreSteady}
use Rattle.core_runs.specs.Answered.{IsAnswered, StopsBetween, StopsWithin}
use Rattle.script_run.specs.Granting.{LineGrants}
use Rattle.script_run.specs.Output.{IsOutput, LineGives}
use Rattle.script_run.specs.Taken.{HasEnded, HasLines}
use Rattle.db_commands.specs.declared.status.InputFault.TheVariants.{Database}
use Rattle.db_commands.specs.declared.status.Status.{Status}
use Rattle.db_commands.specs.declared.status.Status.TheVariants.{Done, Usage, Refused, ReadFault, WriteFault, NoMemory, TooLong}

-- the words are `run` and the name of a database file
abbrev pub NamesRun : List (String Global) → List ℕ → Type 0
NamesRun words name = map string_bytes words ≡ codes "run" ∷ name ∷ []

-- ---- the lines of a script

-- What the answering of a script ends with, line by line as its newlines come.
abbrev pub IsAnswering : List Domain → StreamAround → StreamAround → DriversAround → Status → Type 0
IsAnswering db input output drivers Done = IsRead script_limit input (λ script. IsAnswered (LineGives db) (script_lines script) output drivers)
IsAnswering db input output drivers ReadFault = HasFault input × HasEnded input (λ lines. IsAnswered (LineGives db) lines output drivers)
IsAnswering db input output drivers WriteFault = HasFault output × HasLines input (λ lines. StopsWithin (LineGives db) lines output drivers)
IsAnswering db input output drivers NoMemory = HasLines input (λ lines. StopsBetween (LineGives db) lines output drivers)
IsAnswering db input output drivers TooLong = IsLonger script_limit input.before × HasEnded input (λ lines. IsAnswered (LineGives db) lines output drivers)
IsAnswering db input output drivers status = ⊥

-- ---- the whole command

-- the database file was accepted
abbrev pub HasDatabase : Devices → List ℕ → (List Domain → Type 0) → Type 0
HasDatabase d name P = AreGood input_limit (d.files.before name) (λ bytes. (db : List Domain) × ReadsAs bytes db × P db)

-- and then the script was answered so
abbrev pub Answers : Devices → List ℕ → Status → Type 0
Answers d name status = HasDatabase d name (λ db. IsAnswering db d.input d.output d.drivers status)

-- nothing was written, and the drivers were told nothing
abbrev pub IsSilent : Devices → Type 0
IsSilent d = IsUntouched d.output × AreLeft d.drivers

-- Why there is no database, by what the file held and the count of faults before and after.
abbrev pub IsNoDatabase : Option (List ℕ) → ℕ → ℕ → Status → Type 0
IsNoDatabase there before after (Refused fault) = AreGood input_limit there (λ bytes. (f : DbFault) × IsDbFault bytes f × (fault ≡ Database f))
IsNoDatabase there before after ReadFault = Rose before after
IsNoDatabase there before after NoMemory = Unit {0}
IsNoDatabase there before after TooLong = IsLonger input_limit there
IsNoDatabase there before after status = ⊥

-- so the command ended, and nothing else was touched
abbrev pub EndsAtFile : Devices → List ℕ → Status → Type 0
EndsAtFile d name status =
    IsNoDatabase (d.files.before name) d.files.faults_before d.files.faults_after status × IsUntouched d.input × IsSilent d

-- What `run` ends with, over the database file of that name.
abbrev pub IsRunStatus : Devices → List ℕ → Status → Type 0
IsRunStatus d name Done = Answers d name Done
IsRunStatus d name Usage = ⊥
IsRunStatus d name (Refused fault) = EndsAtFile d name (Refused fault)
IsRunStatus d name ReadFault = EndsAtFile d name ReadFault ⊎ Answers d name ReadFault
IsRunStatus d name WriteFault = Answers d name WriteFault
IsRunStatus d name NoMemory = IsSilent d ⊎ Answers d name NoMemory
IsRunStatus d name TooLong = EndsAtFile d name TooLong ⊎ Answers d name TooLong

-- ---- what comes of what is told

-- A file of that name was told, and no file could not be read.
pub record HasFile (d : Devices) (name bytes : List ℕ) : Type 0 where
  pub told : d.files.before name ≡ Some bytes
  pub files : HasFileFault d.files → ⊥

-- It is accepted as that database.
pub record HasAcceptedFile (d : Devices) (name : List ℕ) (db : List Domain) : Type 0 where
  pub bytes : List ℕ
  pub file : HasFile d name bytes
  pub within : length bytes ≤ input_limit
  pub accepted : ReadsAs bytes db

-- And then an input was told, and no read failed.
pub record HasInputOver (d : Devices) (name : List ℕ) (db : List Domain) (input : List ℕ) : Type 0 where
  pub file : HasAcceptedFile d name db
  pub told : d.input.before ≡ Some input
  pub reads : HasFault d.input → ⊥

-- Nothing keeps the script from being answered: it is at most as long as the limit, and no write failed.
pub record MayRun (d : Devices) (name : List ℕ) (db : List Domain) (script : List ℕ) : Type 0 where
  pub has_script : HasInputOver d name db script
  pub within : length script ≤ script_limit
  pub writes : HasFault d.output → ⊥

-- The script was read to its end. Each line was answered, a start with a power exactly where it is granted; and with steady drivers
-- what was written is the script's output.
pub record WritesReplies (d : Devices) (db : List Domain) (script : List ℕ) : Type 0 where
  pub at_end : IsAtEnd d.input.after
  pub answered : IsAnswered (LineGrants db) (script_lines script) d.output d.drivers
  pub output : AreSteady d.drivers.before → (text : List ℕ) × IsOutput db script text × Appends d.output.before d.output.after text
