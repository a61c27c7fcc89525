-- The commands that read a whole input and write what it says in another form. Each goes from its input to a database, and
-- from the database to its output.
use Rattle.std.specs.Prelude.{◌≡◌, ◌⊎◌, ℕ, ◌<◌, ⊤, List, [], ◌∷◌, Contains, map, codes, string_bytes}
use Rattle.std.specs.declared.alloc.Global.{Global}
use Rattle.std.specs.declared.string.String.{String}
use Rattle.rule_tables.specs.Code.{IsCode}
use Rattle.rule_tables.specs.Databases.{HasCode}
use Rattle.rule_tables.specs.FileFaults.{IsDbFault}
use Rattle.rule_tables.specs.FileFormat.{ReadsAs}
use Rattle.rule_tables.specs.declared.code.Alpha2.{Alpha2}
use Rattle.rule_tables.specs.declared.domain.Domain.{Domain}
use Rattle.rule_tables.specs.declared.file_fault.DbFault.{DbFault}
use Rattle.rule_text.specs.declared.fault.TextFault.{TextFault}
use Rattle.db_text.specs.Printed.{printed, LackTimes, IsFirstTime}
use Rattle.rule_text.specs.TextOf.{TextOf, IsTextFault}
use Rattle.db_writer.specs.LaidOut.{LaidOut, EndsIn, IsWithinReach}
use Rattle.db_commands.specs.Reports.{IsCommonReport, IsLintReport, count_line}
use Rattle.db_commands.specs.declared.conversion.Conversion.{Conversion}
use Rattle.db_commands.specs.declared.conversion.Conversion.TheVariants.{Compile, Decompile, Check, Lint, Common}
use Rattle.db_commands.specs.declared.conversion.Refusal.{Refusal}
use Rattle.db_commands.specs.declared.conversion.Refusal.TheVariants.{Fault, OutOfMemory}
use Rattle.db_commands.specs.declared.status.InputFault.{InputFault}
use Rattle.db_commands.specs.declared.status.InputFault.TheVariants.{Text, Database, Layout, CacTime, NoCountry}

-- ---- words

-- the name of the command, and behind that of `common` its two codes
abbrev pub command_words : Conversion → List (List ℕ)
command_words Compile = codes "compile" ∷ []
command_words Decompile = codes "decompile" ∷ []
command_words Check = codes "check" ∷ []
command_words Lint = codes "lint" ∷ []
command_words (Common one other) = codes "common" ∷ (one.a ∷ one.b ∷ []) ∷ (other.a ∷ other.b ∷ []) ∷ []

-- what the command names are codes
abbrev pub NamesCodes : Conversion → Type 0
NamesCodes Compile = ⊤
NamesCodes Decompile = ⊤
NamesCodes Check = ⊤
NamesCodes Lint = ⊤
NamesCodes (Common one other) = IsCode one × IsCode other

-- the words are the form of the command
pub record NamesConversion (words : List (String Global)) (command : Conversion) : Type 0 where
  pub spelled : map string_bytes words ≡ command_words command
  pub are_codes : NamesCodes command

-- the words are the form of such a command
abbrev pub IsConversion : List (String Global) → Type 0
IsConversion words = (command : Conversion) × NamesConversion words command

-- ---- outputs

-- the bytes are the file of the database, and say it
pub record IsFile (bytes : List ℕ) (ds : List Domain) : Type 0 where
  pub laid_out : LaidOut ds bytes
  pub reads : ReadsAs bytes ds

-- the bytes are the text of the database, and stand for it
pub record IsText (text : List ℕ) (ds : List Domain) : Type 0 where
  pub is_printed : text ≡ printed ds
  pub stands_for : TextOf text ds

-- the text is what the two countries of the database allow together
abbrev pub IsShared : List Domain → Alpha2 → Alpha2 → List ℕ → Type 0
IsShared ds one other text =
    (a : Domain) × Contains ds a × (a.alpha2 ≡ one) × (b : Domain) × Contains ds b × (b.alpha2 ≡ other) × IsCommonReport a b text

-- ---- what each command does

-- the input stands for the database
abbrev pub InputStandsFor : Conversion → List ℕ → List Domain → Type 0
InputStandsFor Compile text ds = TextOf text ds
InputStandsFor Decompile bytes ds = ReadsAs bytes ds
InputStandsFor Check bytes ds = ReadsAs bytes ds
InputStandsFor Lint bytes ds = ReadsAs bytes ds
InputStandsFor (Common one other) bytes ds = ReadsAs bytes ds

-- the database has an output
abbrev pub HasOutput : Conversion → List Domain → Type 0
HasOutput Compile ds = IsWithinReach ds
HasOutput Decompile ds = LackTimes ds
HasOutput Check ds = ⊤
HasOutput Lint ds = ⊤
HasOutput (Common one other) ds = HasCode ds one × HasCode ds other

-- the bytes are the output of the database
abbrev pub IsOutputOf : Conversion → List Domain → List ℕ → Type 0
IsOutputOf Compile ds bytes = IsFile bytes ds
IsOutputOf Decompile ds bytes = IsText bytes ds
IsOutputOf Check ds bytes = bytes ≡ count_line ds
IsOutputOf Lint ds bytes = IsLintReport ds bytes
IsOutputOf (Common one other) ds bytes = IsShared ds one other bytes

-- ---- why there is no output

-- the bytes are no database file, for that reason
abbrev pub IsRefusedFile : List ℕ → InputFault → Type 0
IsRefusedFile bytes fault = (f : DbFault) × (fault ≡ Database f) × IsDbFault bytes f

-- why the input stands for no database
abbrev pub IsMisread : Conversion → List ℕ → InputFault → Type 0
IsMisread Compile text fault = (f : TextFault) × (fault ≡ Text f) × IsTextFault text f
IsMisread Decompile bytes fault = IsRefusedFile bytes fault
IsMisread Check bytes fault = IsRefusedFile bytes fault
IsMisread Lint bytes fault = IsRefusedFile bytes fault
IsMisread (Common one other) bytes fault = IsRefusedFile bytes fault

-- the first of the two codes that no country of the database has
abbrev pub IsFirstAbsent : List Domain → Alpha2 → Alpha2 → Alpha2 → Type 0
IsFirstAbsent ds one other code =
    ((code ≡ one) × (HasCode ds one → ⊥)) ⊎ ((code ≡ other) × HasCode ds one × (HasCode ds other → ⊥))

-- why the database has no output
abbrev pub LacksOutput : Conversion → List Domain → InputFault → Type 0
LacksOutput Compile ds fault = (words : ℕ) × (fault ≡ Layout words) × EndsIn ds words × (65535 < words)
LacksOutput Decompile ds fault = (country : Alpha2) × (rule : ℕ) × (fault ≡ CacTime country rule) × IsFirstTime ds country rule
LacksOutput Check ds fault = ⊥
LacksOutput Lint ds fault = ⊥
LacksOutput (Common one other) ds fault = (code : Alpha2) × (fault ≡ NoCountry code) × IsFirstAbsent ds one other code

-- the input stands for no database, or the database that it stands for has no output
abbrev pub IsInputFault : Conversion → List ℕ → InputFault → Type 0
IsInputFault command input fault =
    IsMisread command input fault ⊎ ((ds : List Domain) × InputStandsFor command input ds × LacksOutput command ds fault)

-- ---- over all of them

-- The input is accepted: it stands for the database, which has an output.
pub record IsAccepted (command : Conversion) (input : List ℕ) (ds : List Domain) : Type 0 where
  pub stands_for : InputStandsFor command input ds
  pub has_output : HasOutput command ds

-- the bytes are what the command writes for the input
abbrev pub GivesOutput : Conversion → List ℕ → List ℕ → Type 0
GivesOutput command input bytes = (ds : List Domain) × IsAccepted command input ds × IsOutputOf command ds bytes

-- why the input gave no output
abbrev pub IsConversionRefusal : Conversion → List ℕ → Refusal → Type 0
IsConversionRefusal command input (Fault fault) = IsInputFault command input fault
IsConversionRefusal command input OutOfMemory = Unit {0}
