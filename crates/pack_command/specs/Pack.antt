-- The command `pack`: what it ends with, and why.
use Rattle.std.specs.Prelude.{◌≡◌, ℕ, ◌+◌, ◌≤◌, List, [], ◌∷◌, ◌++◌, length, map, All, Option, Some, Ok, Err, codes, string_bytes}
use Rattle.std.specs.Io.KnownBytes.{IsAtEnd}
use Rattle.std.specs.declared.alloc.Global.{Global}
use Rattle.std.specs.declared.string.String.{String}
use Rattle.reg_base.specs.Files.{IsLonger}
use Rattle.line_forms.specs.Lines.{Says}
use Rattle.line_forms.specs.declared.fault.LineFault.{LineFault}
use Rattle.reg_journal.specs.declared.request.Request.{Request}
use Rattle.iw_commands.specs.Scripts.{script_lines}
use Rattle.db_commands.specs.Devices.{Devices, StreamAround, HasFault, IsRead, script_limit}
use Rattle.db_commands.specs.declared.status.InputFault.TheVariants.{Line}
use Rattle.db_commands.specs.declared.status.Status.{Status}
use Rattle.db_commands.specs.declared.status.Status.TheVariants.{Done, Refused, ReadFault, WriteFault, NoMemory, TooLong}
use Rattle.script_run.specs.Taken.{HasEnded, HasLines}
use Rattle.pack_command.specs.Packing.{AreAllPacked, MeetsFaultyLine, StopsBetweenLines, StopsWithinLine}

-- the words are `pack` alone
abbrev pub NamesPack : List (String Global) → Type 0
NamesPack words = map string_bytes words ≡ codes "pack" ∷ []

-- What `pack` ends with, line by line as the newlines of the script come.
abbrev pub IsPackStatus : StreamAround → StreamAround → Status → Type 0
IsPackStatus input output Done = IsRead script_limit input (λ script. AreAllPacked (script_lines script) output)
IsPackStatus input output (Refused (Line number fault)) = HasLines input (λ lines. MeetsFaultyLine lines number fault output)
IsPackStatus input output ReadFault = HasFault input × HasEnded input (λ lines. AreAllPacked lines output)
IsPackStatus input output WriteFault = HasFault output × HasLines input (λ lines. StopsWithinLine lines output)
IsPackStatus input output NoMemory = HasLines input (λ lines. StopsBetweenLines lines output)
IsPackStatus input output TooLong = IsLonger script_limit input.before × HasEnded input (λ lines. AreAllPacked lines output)
IsPackStatus input output status = ⊥

-- ---- what comes of what is told

-- the line has no fault
abbrev pub IsGood : List ℕ → Type 0
IsGood line = (asked : Option Request) × Says line (Ok asked)

-- A script was told, and no read failed.
pub record HasPackScript (words : List (String Global)) (d : Devices) (script : List ℕ) : Type 0 where
  pub form : NamesPack words
  pub told : d.input.before ≡ Some script
  pub reads : HasFault d.input → ⊥

-- Nothing keeps the script from being packed: it is at most as long as the limit, no line of it has a fault, and no write failed.
pub record MayPack (words : List (String Global)) (d : Devices) (script : List ℕ) : Type 0 where
  pub has_script : HasPackScript words d script
  pub within : length script ≤ script_limit
  pub good : All IsGood (script_lines script)
  pub writes : HasFault d.output → ⊥

-- the script was read to its end, and all its messages were written
pub record WritesMessages (d : Devices) (script : List ℕ) : Type 0 where
  pub at_end : IsAtEnd d.input.after
  pub written : AreAllPacked (script_lines script) d.output

-- The line of that number of the script, counted from 1, is the first with a fault, which is this.
pub record HasFaultyLine (script : List ℕ) (number : ℕ) (fault : LineFault) : Type 0 where
  pub first : List (List ℕ)
  pub line : List ℕ
  pub rest : List (List ℕ)
  pub parts : script_lines script ≡ first ++ line ∷ rest
  pub good : All IsGood first
  pub says : Says line (Err fault)
  pub numbered : number ≡ length first + 1
