-- A run on its way. Only clauses of private functions cite it.
use Rattle.std.specs.Prelude.{◌≡◌, ℕ, ◌<◌, ◌==◌, true, false, List, [], ◌∷◌, ◌++◌, length, Option}
use Rattle.std.specs.List.{slice_split}
use Rattle.rule_tables.specs.declared.domain.Domain.{Domain}
use Rattle.radio_drv.specs.Seen.{Seen}
use Rattle.reg_base.specs.Causes.{Rose}
use Rattle.reg_base.specs.declared.limits.TheConstants.{MOST_LINE_BYTES}
use Rattle.reg_core.specs.declared.core_state.Core.{Core}
use Rattle.iw_commands.specs.Cutting.{OpenLine}
use Rattle.iw_commands.specs.declared.cutter.Cut.{Cut}
use Rattle.iw_commands.specs.declared.cutter.Cut.TheVariants.{Whole, TooLong}
use Rattle.db_commands.specs.Devices.{StreamAround, DriversAround}
use Rattle.db_commands.specs.declared.status.Status.{Status}
use Rattle.db_commands.specs.declared.status.Status.TheVariants.{NoMemory as EndsNoMemory, WriteFault as EndsWriteFault}
use Rattle.script_run.specs.Output.{LineGives}
use Rattle.core_runs.specs.Answered.{StopsBetween, StopsWithin}
use Rattle.core_runs.specs.Turns.{IsRunSoFar}
use Rattle.script_run.specs.Taken.{AreEnded}
use Rattle.script_run.specs.declared.answering.Halt.{Halt}
use Rattle.script_run.specs.declared.answering.Halt.TheVariants.{NoMemory, WriteFault}

-- ---- bytes that come

-- the cutter's answer for the line
abbrev pub IsCutOf : List ℕ → Cut → Type 0
IsCutOf line (Whole bytes) = bytes.now ≡ line
IsCutOf line TooLong = MOST_LINE_BYTES < length line

-- The cutter took these bytes of a line that is open: it keeps them, or knows that there are too many.
pub record IsHeld (line : List ℕ) (cutter : OpenLine) : Type 0 where
  pub unended : cutter.ended ≡ false
  pub whole : cutter.too_long ≡ false → cutter.bytes ≡ line
  pub long : cutter.too_long ≡ true → MOST_LINE_BYTES < length line

-- the parts with these bytes put before the first
abbrev pub onto : List ℕ → List (List ℕ) → List (List ℕ)
onto begun [] = begun ∷ []
onto begun (part ∷ parts) = (begun ++ part) ∷ parts

-- Where bytes end, whatever comes behind: these lines ended, and this one is open.
abbrev pub IsCutAt : List ℕ → List (List ℕ) → List ℕ → Type 0
IsCutAt bytes lines begun = (more : List ℕ) → slice_split (λ b. b == 10) (bytes ++ more) ≡ lines ++ onto begun (slice_split (λ b. b == 10) more)

-- The bytes were taken, the lines that ended with them were answered, and the cutter holds the one that is open.
pub record IsReadSoFar (db : List Domain) (bytes : List ℕ) (cutter : OpenLine) (before after : Option (List ℕ)) (core : Core) (heard heard' : List (Option Seen)) : Type 0 where
  pub lines : List (List ℕ)
  pub begun : List ℕ
  pub cut : IsCutAt bytes lines begun
  pub holds : IsHeld begun cutter
  pub so_far : IsRunSoFar (LineGives db) db lines before after core heard heard'

-- ---- halts

-- where the answering of lines stops
abbrev pub IsHalt : List Domain → List (List ℕ) → StreamAround → DriversAround → Halt → Type 0
IsHalt db lines output drivers WriteFault = StopsWithin (LineGives db) lines output drivers
IsHalt db lines output drivers NoMemory = StopsBetween (LineGives db) lines output drivers

-- and why
abbrev pub HasHaltCause : ℕ → ℕ → Halt → Type 0
HasHaltCause before after WriteFault = Rose before after
HasHaltCause before after NoMemory = Unit {0}

-- it stops at one of the lines that ended with the bytes
abbrev pub HaltsAmong : List Domain → List ℕ → StreamAround → DriversAround → Halt → Type 0
HaltsAmong db bytes output drivers halt = (lines : List (List ℕ)) × (begun : List ℕ) × AreEnded bytes lines begun × IsHalt db lines output drivers halt

-- what the command then ends with
abbrev pub status_of_halt : Halt → Status
status_of_halt NoMemory = EndsNoMemory
status_of_halt WriteFault = EndsWriteFault
