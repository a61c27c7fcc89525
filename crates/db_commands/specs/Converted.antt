-- The commands that read a whole input and write what it says in another form: what each ends with, and why.
use Rattle.std.specs.Prelude.{◌≡◌, ℕ, ◌≤◌, List, length, Some}
use Rattle.std.specs.Io.KnownBytes.{Appends, IsAtEnd}
use Rattle.std.specs.declared.alloc.Global.{Global}
use Rattle.std.specs.declared.string.String.{String}
use Rattle.reg_base.specs.Appended.{AppendsFront}
use Rattle.reg_base.specs.Files.{IsLonger}
use Rattle.rule_tables.specs.declared.domain.Domain.{Domain}
use Rattle.db_commands.specs.Conversions.{NamesConversion, IsAccepted, IsOutputOf, GivesOutput, IsInputFault}
use Rattle.db_commands.specs.Devices.{StreamAround, Devices, HasFault, IsRead, IsUntouched, input_limit}
use Rattle.db_commands.specs.declared.conversion.Conversion.{Conversion}
use Rattle.db_commands.specs.declared.status.Status.{Status}
use Rattle.db_commands.specs.declared.status.Status.TheVariants.{Done, Usage, Refused, ReadFault, WriteFault, NoMemory, TooLong}

-- What such a command ends with.
abbrev pub IsConverted : Conversion → StreamAround → StreamAround → Status → Type 0
IsConverted command input output Done = IsRead input_limit input (λ given. (bytes : List ℕ) × GivesOutput command given bytes × Appends output.before output.after bytes)
IsConverted command input output Usage = ⊥
IsConverted command input output (Refused fault) = IsRead input_limit input (λ given. IsInputFault command given fault) × IsUntouched output
IsConverted command input output ReadFault = HasFault input × IsUntouched output
IsConverted command input output WriteFault = HasFault output × IsRead input_limit input (λ given. (bytes : List ℕ) × GivesOutput command given bytes × AppendsFront output.before output.after bytes)
IsConverted command input output NoMemory = IsUntouched output
IsConverted command input output TooLong = IsLonger input_limit input.before × IsUntouched output

-- The command read an input that was told: the words are its form, the input was told to be this, and no read failed.
pub record HasInput (words : List (String Global)) (d : Devices) (command : Conversion) (input : List ℕ) : Type 0 where
  pub form : NamesConversion words command
  pub told : d.input.before ≡ Some input
  pub reads : HasFault d.input → ⊥

-- Nothing keeps the command from its output: the input is at most as long as the limit and accepted as the database, and no
-- write failed.
pub record MayConvert (words : List (String Global)) (d : Devices) (command : Conversion) (input : List ℕ) (ds : List Domain) : Type 0 where
  pub has_input : HasInput words d command input
  pub within : length input ≤ input_limit
  pub accepted : IsAccepted command input ds
  pub writes : HasFault d.output → ⊥

-- the input was read to its end, and the output of the database was written
pub record WritesOutput (d : Devices) (command : Conversion) (ds : List Domain) : Type 0 where
  pub at_end : IsAtEnd d.input.after
  pub output : (bytes : List ℕ) × IsOutputOf command ds bytes × Appends d.output.before d.output.after bytes
