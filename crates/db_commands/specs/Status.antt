-- The number and the text of a status.
use Rattle.std.specs.Prelude.{◌≡◌, ◌⊎◌, ℕ, List, [], ◌∷◌, ◌++◌, codes, decimal}
use Rattle.text_lines.specs.declared.fault.TextKind.{TextKind}
use Rattle.text_lines.specs.declared.fault.TextKind.TheVariants.{LineTooLong, NotUtf8, BadLine, NoBlock, BadCountry, BadRegion, RegionDiffers, BadBand, BadPower, BadFlag, FlagNotInVersion, NoWmm, BadWmm, WmmTwice, TooManyRules, WmmShort, NoRules}
use Rattle.rule_tables.specs.declared.code.Alpha2.{Alpha2}
use Rattle.rule_tables.specs.declared.file_fault.DbFault.{DbFault}
use Rattle.rule_tables.specs.declared.file_fault.DbFault.TheVariants.{Short, BadMagic, BadVersion, BadAlpha2, CountryTwice, BadCollection, BadRegion as BadRegionByte, BadRule, BadWmm as BadWmmRecord}
use Rattle.line_forms.specs.declared.fault.LineFault.{LineFault}
use Rattle.line_forms.specs.declared.fault.LineFault.TheVariants.{TooLong as LineIsTooLong, NotAscii, Unknown, BadNumber, BadForm, Missing}
use Rattle.nl_attrs.specs.declared.fault.AttrFault.{AttrFault}
use Rattle.nl_attrs.specs.declared.fault.AttrFault.TheVariants.{Truncated, BadLength, Overlong, BadType, BadAttr}
use Rattle.reg_base.specs.Texts.{line_of}
use Rattle.db_commands.specs.declared.status.InputFault.{InputFault}
use Rattle.db_commands.specs.declared.status.InputFault.TheVariants.{Text, Database, Layout, CacTime, NoCountry, Line, Wire}
use Rattle.db_commands.specs.declared.status.Status.{Status}
use Rattle.db_commands.specs.declared.status.Status.TheVariants.{Done, Usage, Refused, ReadFault, WriteFault, NoMemory, TooLong}

abbrev pub status_number : Status → ℕ
status_number Done = 0
status_number Usage = 1
status_number (Refused fault) = 2
status_number ReadFault = 3
status_number WriteFault = 4
status_number NoMemory = 5
status_number TooLong = 6

abbrev pub kind_name : TextKind → List ℕ
kind_name LineTooLong = codes "LineTooLong"
kind_name NotUtf8 = codes "NotUtf8"
kind_name BadLine = codes "BadLine"
kind_name NoBlock = codes "NoBlock"
kind_name BadCountry = codes "BadCountry"
kind_name BadRegion = codes "BadRegion"
kind_name RegionDiffers = codes "RegionDiffers"
kind_name BadBand = codes "BadBand"
kind_name BadPower = codes "BadPower"
kind_name BadFlag = codes "BadFlag"
kind_name FlagNotInVersion = codes "FlagNotInVersion"
kind_name NoWmm = codes "NoWmm"
kind_name BadWmm = codes "BadWmm"
kind_name WmmTwice = codes "WmmTwice"
kind_name TooManyRules = codes "TooManyRules"
kind_name WmmShort = codes "WmmShort"
kind_name NoRules = codes "NoRules"

-- the name of a fault of a database file, without its values
abbrev pub database_fault_name : DbFault → List ℕ
database_fault_name (Short length) = codes "Short"
database_fault_name (BadMagic magic) = codes "BadMagic"
database_fault_name (BadVersion version) = codes "BadVersion"
database_fault_name (BadAlpha2 first second) = codes "BadAlpha2"
database_fault_name (CountryTwice code) = codes "CountryTwice"
database_fault_name (BadCollection code) = codes "BadCollection"
database_fault_name (BadRegionByte code region) = codes "BadRegion"
database_fault_name (BadRule code rule) = codes "BadRule"
database_fault_name (BadWmmRecord code rule) = codes "BadWmm"

-- the rule of that number, counted from 0, has a check time
abbrev pub check_time_text : Alpha2 → ℕ → List ℕ
check_time_text country rule = codes "check time in " ++ (country.a ∷ country.b ∷ []) ++ (codes " rule " ++ decimal rule)

-- no country of the database has the code
abbrev pub no_country_text : Alpha2 → List ℕ
no_country_text code = codes "no country " ++ (code.a ∷ code.b ∷ [])

-- what is wrong with a line of a script, and at which word, counted from 1
abbrev pub line_fault_words : LineFault → List ℕ
line_fault_words LineIsTooLong = codes "too long"
line_fault_words NotAscii = codes "not ascii"
line_fault_words (Unknown place) = codes "unknown word " ++ decimal place
line_fault_words (BadNumber place) = codes "bad number word " ++ decimal place
line_fault_words (BadForm place) = codes "bad form word " ++ decimal place
line_fault_words Missing = codes "missing word"

-- the line of that number, counted from 1, is faulty
abbrev pub script_fault_text : ℕ → LineFault → List ℕ
script_fault_text number fault = (codes "script line " ++ decimal number) ++ (codes ": " ++ line_fault_words fault)

-- the name of a fault of a stream of messages, without its values
abbrev pub message_fault_name : AttrFault → List ℕ
message_fault_name (Truncated n) = codes "Truncated"
message_fault_name (BadLength n) = codes "BadLength"
message_fault_name (Overlong n) = codes "Overlong"
message_fault_name (BadType t) = codes "BadType"
message_fault_name (BadAttr place) = codes "BadAttr"

abbrev pub fault_text : InputFault → List ℕ
fault_text (Text fault) = codes "line " ++ (decimal fault.line ++ (codes ": " ++ kind_name fault.kind))
fault_text (Database fault) = codes "database: " ++ database_fault_name fault
fault_text (Layout words) = codes "too large: " ++ (decimal words ++ codes " words")
fault_text (CacTime country rule) = check_time_text country rule
fault_text (NoCountry code) = no_country_text code
fault_text (Line number fault) = script_fault_text number fault
fault_text (Wire place fault) = codes "message at byte " ++ (decimal place ++ (codes ": " ++ message_fault_name fault))

-- what is told of a status: a line, or nothing where all was done
abbrev pub text_of : Status → List ℕ
text_of Done = []
text_of Usage = line_of (codes "usage")
text_of (Refused fault) = line_of (fault_text fault)
text_of ReadFault = line_of (codes "read fault")
text_of WriteFault = line_of (codes "write fault")
text_of NoMemory = line_of (codes "no memory")
text_of TooLong = line_of (codes "input too long")

-- it is this, or memory was wanting
abbrev pub EndsWith : Status → Status → Type 0
EndsWith status wanted = (status ≡ NoMemory) ⊎ (status ≡ wanted)
