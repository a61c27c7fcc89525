-- A script on its way. Only clauses of private functions cite it.
use Rattle.std.specs.Prelude.{◌≡◌, ℕ, ◌+◌, ◌<◌, ◌≤◌, ◌⊎◌, List, length, Option, Err}
use Rattle.std.specs.Io.KnownBytes.{Appends}
use Rattle.reg_base.specs.Causes.{Rose}
use Rattle.iw_commands.specs.Cutting.{OpenLine, opened}
use Rattle.db_commands.specs.Devices.{StreamAround}
use Rattle.db_commands.specs.declared.status.InputFault.TheVariants.{Line}
use Rattle.db_commands.specs.declared.status.Status.{Status}
use Rattle.db_commands.specs.declared.status.Status.TheVariants.{NoMemory as EndsNoMemory, WriteFault as EndsWriteFault, Refused}
use Rattle.script_run.specs.Taken.{AreEnded}
use Rattle.script_run.specs.inner.Turns.{IsCutAt, IsHeld}
use Rattle.line_forms.specs.Lines.{Says}
use Rattle.line_forms.specs.declared.fault.ReadLineFault.{ReadLineFault}
use Rattle.line_forms.specs.declared.fault.ReadLineFault.TheVariants.{Line as InLine, OutOfMemory}
use Rattle.pack_command.specs.Packing.{MeetsFaultyLine, Packs, StopsBetweenLines, StopsWithinLine}
use Rattle.pack_command.specs.declared.packing.Progress.{Progress}
use Rattle.pack_command.specs.declared.packing.Stop.{Stop}
use Rattle.pack_command.specs.declared.packing.Stop.TheVariants.{NoMemory, WriteFault, Faulty}

-- These lines were packed, and what they give was written.
pub record IsPackedTo (lines : List (List ℕ)) (before after : Option (List ℕ)) (progress : Progress) : Type 0 where
  pub bytes : List ℕ
  pub packed : Packs lines bytes progress.requests
  pub counted : progress.lines ≡ length lines
  pub written : Appends before after bytes

-- The bytes were taken, the lines that ended with them were packed, and the cutter holds the one that is open.
pub record IsPackedSoFar (bytes : List ℕ) (cutter : OpenLine) (before after : Option (List ℕ)) (progress : Progress) : Type 0 where
  pub lines : List (List ℕ)
  pub begun : List ℕ
  pub cut : IsCutAt bytes lines begun
  pub holds : IsHeld begun cutter
  -- each line took its newline
  pub few : length lines + length begun ≤ length bytes
  pub so_far : IsPackedTo lines before after progress

-- the line says this fault; memory may be wanting at any line
abbrev pub IsPutStop : List ℕ → ReadLineFault → Type 0
IsPutStop line (InLine fault) = Says line (Err fault)
IsPutStop line OutOfMemory = Unit {0}

-- no line is open, or a number is left for one
abbrev pub HasLineRoom : OpenLine → ℕ → Type 0
HasLineRoom cutter lines = (cutter ≡ opened) ⊎ (lines < 4294967295)

-- ---- stops

-- where the packing of lines stops
abbrev pub IsPackStop : List (List ℕ) → StreamAround → Stop → Type 0
IsPackStop lines output NoMemory = StopsBetweenLines lines output
IsPackStop lines output WriteFault = StopsWithinLine lines output
IsPackStop lines output (Faulty number fault) = MeetsFaultyLine lines number fault output

-- and why
abbrev pub HasStopCause : ℕ → ℕ → Stop → Type 0
HasStopCause before after WriteFault = Rose before after
HasStopCause before after stop = Unit {0}

-- it stops at one of the lines that ended with the bytes
abbrev pub StopsAmong : List ℕ → StreamAround → Stop → Type 0
StopsAmong bytes output stop = (lines : List (List ℕ)) × (begun : List ℕ) × AreEnded bytes lines begun × IsPackStop lines output stop

-- what the command then ends with
abbrev pub status_of_stop : Stop → Status
status_of_stop NoMemory = EndsNoMemory
status_of_stop WriteFault = EndsWriteFault
status_of_stop (Faulty number fault) = Refused (Line number fault)
