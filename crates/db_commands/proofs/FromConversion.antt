-- What follows from the end of a conversion, where its input is told: the whole output, or the fault, or the length.
use Rattle.std.proofs.Common.{◌≡◌, ℕ, ◌<◌, ◌≤◌, List, [], length, get_or, Option, Some, inl, inr, refl, sym, ◌∙◌, ap, subst, arith}
use Rattle.std.specs.Prelude.{IfSome, ◌⊎◌, ◌==◌, if◌then◌else◌}
use Rattle.std.specs.declared.alloc.Global.{Global}
use Rattle.std.specs.declared.string.String.{String}
use Rattle.rule_tables.specs.declared.code.Alpha2.{Alpha2}
use Rattle.rule_tables.specs.declared.domain.Domain.{Domain}
use Rattle.db_commands.specs.Status.{EndsWith}
use Rattle.db_commands.specs.Conversions.{NamesConversion, IsAccepted, IsOutputOf, IsInputFault, GivesOutput, command_words}
use Rattle.db_commands.specs.Converted.{HasInput, IsConverted, MayConvert, WritesOutput}
use Rattle.db_commands.specs.Devices.{StreamAround, Devices, IsRead, input_limit}
use Rattle.db_commands.specs.declared.conversion.Conversion.{Conversion}
use Rattle.db_commands.specs.declared.conversion.Conversion.TheVariants.{Compile, Decompile, Check, Lint, Common}
use Rattle.db_commands.specs.declared.status.InputFault.{InputFault}
use Rattle.db_commands.specs.declared.status.Status.{Status}
use Rattle.db_commands.specs.declared.status.Status.TheVariants.{Done, Usage, Refused, ReadFault, WriteFault, NoMemory, TooLong}
use Rattle.db_commands.proofs.OneFault.{StandsFor-unique, IsAccepted-no_fault, IsInputFault-unique}

-- what holds of the bytes that were told holds of these
pub of_told : (there : Option (List ℕ)) (bytes : List ℕ) (P : List ℕ → Type 0) → there ≡ Some bytes → IfSome there P → P bytes
of_told there bytes P told h = subst (λ o. IfSome o P) told h

-- ---- words

-- the code that a word of two bytes is
abbrev code_in : List ℕ → Alpha2
code_in word = record { a = get_or word 0 0; b = get_or word 1 0 }

-- the command whose words these are: names differ in their lengths
abbrev from_words : List (List ℕ) → Conversion
from_words words =
    if length (get_or words 0 []) == 7 then Compile
    else if length (get_or words 0 []) == 9 then Decompile
    else if length (get_or words 0 []) == 5 then Check
    else if length (get_or words 0 []) == 4 then Lint
    else Common (code_in (get_or words 1 [])) (code_in (get_or words 2 []))

from_its_words : (c : Conversion) → from_words (command_words c) ≡ c
from_its_words Compile = refl
from_its_words Decompile = refl
from_its_words Check = refl
from_its_words Lint = refl
from_its_words (Common one other) = refl

pub Names-unique : (words : List (String Global)) (c d : Conversion) → NamesConversion words c → NamesConversion words d → c ≡ d
Names-unique words c d one other = sym (from_its_words c) ∙ ap from_words (sym one.spelled ∙ other.spelled) ∙ from_its_words d

-- ---- the whole output

-- the output that was given for the input is that of the database as which it is accepted
same_output : (c : Conversion) (input : List ℕ) (ds : List Domain) (bytes : List ℕ) → IsAccepted c input ds → GivesOutput c input bytes → IsOutputOf c ds bytes
same_output c input ds bytes accepted (es, other, output) =
    subst (λ fs. IsOutputOf c fs bytes) (StandsFor-unique c input es ds other.stands_for accepted.stands_for) output

pub completed : (words : List (String Global)) (d : Devices) (c : Conversion) (status : Status) (input : List ℕ) (ds : List Domain)
    → IsConverted c d.input d.output status → MayConvert words d c input ds → (status ≡ NoMemory) ⊎ ((status ≡ Done) × WritesOutput d c ds)
completed words d c Done input ds read may =
    let same : input ≡ read.good.given = of_told _ input _ may.has_input.told read.good.all in
    let accepted : IsAccepted c read.good.given ds = subst (λ xs. IsAccepted c xs ds) same may.accepted in
    let (bytes, gives, appends) = read.good.holds in
    inr (refl, record { at_end = read.at_end; output = (bytes, same_output c read.good.given ds bytes accepted gives, appends) })
completed words d c Usage input ds none may = absurd none
completed words d c (Refused fault) input ds (read, output) may =
    let same : input ≡ read.good.given = of_told _ input _ may.has_input.told read.good.all in
    absurd (IsAccepted-no_fault c read.good.given ds fault (subst (λ xs. IsAccepted c xs ds) same may.accepted) read.good.holds)
completed words d c ReadFault input ds (fault, output) may = absurd (may.has_input.reads fault)
completed words d c WriteFault input ds (fault, read) may = absurd (may.writes fault)
completed words d c NoMemory input ds output may = inl refl
completed words d c TooLong input ds (longer, output) may =
    let above = of_told _ input _ may.has_input.told longer in
    absurd (omega (arith, above, may.within))

-- ---- the fault

-- an input for which an output was given has no fault
no_output : (c : Conversion) (input : List ℕ) (bytes : List ℕ) (fault : InputFault) → GivesOutput c input bytes → IsInputFault c input fault → ⊥
no_output c input bytes fault (ds, accepted, output) h = IsAccepted-no_fault c input ds fault accepted h

pub told_fault : (words : List (String Global)) (d : Devices) (c : Conversion) (status : Status) (input : List ℕ) (fault : InputFault)
    → IsConverted c d.input d.output status → HasInput words d c input → length input ≤ input_limit → IsInputFault c input fault → EndsWith status (Refused fault)
told_fault words d c Done input fault read has within h =
    let same : input ≡ read.good.given = of_told _ input _ has.told read.good.all in
    let (bytes, gives, appends) = read.good.holds in
    absurd (no_output c read.good.given bytes fault gives (subst (λ xs. IsInputFault c xs fault) same h))
told_fault words d c Usage input fault none has within h = absurd none
told_fault words d c (Refused other) input fault (read, output) has within h =
    let same : input ≡ read.good.given = of_told _ input _ has.told read.good.all in
    inr (ap Refused (IsInputFault-unique c read.good.given other fault read.good.holds (subst (λ xs. IsInputFault c xs fault) same h)))
told_fault words d c ReadFault input fault (failed, output) has within h = absurd (has.reads failed)
told_fault words d c WriteFault input fault (failed, read) has within h =
    let same : input ≡ read.good.given = of_told _ input _ has.told read.good.all in
    let (bytes, gives, appends) = read.good.holds in
    absurd (no_output c read.good.given bytes fault gives (subst (λ xs. IsInputFault c xs fault) same h))
told_fault words d c NoMemory input fault output has within h = inl refl
told_fault words d c TooLong input fault (longer, output) has within h =
    let above = of_told _ input _ has.told longer in
    absurd (omega (arith, above, within))

-- ---- the length

-- what was read is no longer than the limit
pub not_longer : (most : ℕ) (input : StreamAround) (given : List ℕ) (P : List ℕ → Type 0) → input.before ≡ Some given → most < length given → IsRead most input P → ⊥
not_longer most input given P told above read =
    let same : given ≡ read.good.given = of_told _ given _ told read.good.all in
    let long : most < length read.good.given = subst (λ xs. most < length xs) same above in
    omega (arith, long, read.good.within)

pub told_length : (words : List (String Global)) (d : Devices) (c : Conversion) (status : Status) (input : List ℕ)
    → IsConverted c d.input d.output status → HasInput words d c input → input_limit < length input → EndsWith status TooLong
told_length words d c Done input read has above = absurd (not_longer input_limit d.input input _ has.told above read)
told_length words d c Usage input none has above = absurd none
told_length words d c (Refused fault) input (read, output) has above = absurd (not_longer input_limit d.input input _ has.told above read)
told_length words d c ReadFault input (failed, output) has above = absurd (has.reads failed)
told_length words d c WriteFault input (failed, read) has above = absurd (not_longer input_limit d.input input _ has.told above read)
told_length words d c NoMemory input output has above = inl refl
told_length words d c TooLong input longer has above = inr refl
