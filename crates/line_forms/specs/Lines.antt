-- What a line asks, or what is wrong with it.
use Rattle.std.specs.Prelude.{◌≡◌, ℕ, ◌≤◌, ◌<◌, ◌⊎◌, List, [], ◌∷◌, ◌++◌, length, All, Option, Some, None, Result, Ok, Err, codes}
use Rattle.reg_base.specs.declared.limits.TheConstants.{MOST_LINE_BYTES}
use Rattle.reg_journal.specs.declared.request.Request.{Request}
use Rattle.line_forms.specs.Faults.{IsWordFault}
use Rattle.line_forms.specs.Forms.{BeginsRuleLine, HasForm, Spells}
use Rattle.line_forms.specs.Told.{Told}
use Rattle.line_forms.specs.Words.{words_of}
use Rattle.line_forms.specs.declared.fault.LineFault.{LineFault}
use Rattle.line_forms.specs.declared.fault.LineFault.TheVariants.{TooLong, NotAscii}
use Rattle.line_forms.specs.declared.fault.ReadLineFault.{ReadLineFault}
use Rattle.line_forms.specs.declared.fault.ReadLineFault.TheVariants.{Line, OutOfMemory}
use Rattle.line_forms.specs.declared.form.Form.TheVariants.{Element}

-- a byte of ASCII from the space to `~`, or a tab
abbrev pub IsLineByte : ℕ → Type 0
IsLineByte b = ((32 ≤ b) × (b ≤ 126)) ⊎ (b ≡ 9)

-- a line may have no more bytes than that, each of that kind
pub record IsScriptLine (line : List ℕ) : Type 0 where
  pub short : length line ≤ MOST_LINE_BYTES
  pub each : All IsLineByte line

-- `#` stands first in the word
abbrev pub BeginsComment : List ℕ → Type 0
BeginsComment word = (comment : List ℕ) × (word ≡ codes "#" ++ comment)

-- there is no word, or the first one begins a comment
abbrev pub AreSilent : List (List ℕ) → Type 0
AreSilent [] = Unit {0}
AreSilent (word ∷ words) = BeginsComment word

-- the line is a blank one or a comment
pub record AsksNothing (line : List ℕ) : Type 0 where
  pub permitted : IsScriptLine line
  pub silent : AreSilent (words_of line)

-- the line asks this
pub record Asks (line : List ℕ) (q : Request) : Type 0 where
  pub permitted : IsScriptLine line
  pub heard : AreSilent (words_of line) → ⊥
  pub spelled : Spells (words_of line) q

-- the words of the line ask nothing, and this is wrong with them
pub record HasWordFault (line : List ℕ) (fault : LineFault) : Type 0 where
  pub permitted : IsScriptLine line
  pub heard : AreSilent (words_of line) → ⊥
  pub unspelled : (q : Request) → Spells (words_of line) q → ⊥
  pub is : IsWordFault (words_of line) fault

-- what is wrong with the line
abbrev pub IsScriptFault : List ℕ → LineFault → Type 0
IsScriptFault line TooLong = MOST_LINE_BYTES < length line
IsScriptFault line NotAscii = (length line ≤ MOST_LINE_BYTES) × (All IsLineByte line → ⊥)
IsScriptFault line fault = HasWordFault line fault

-- what the line says: a request, nothing, or what is wrong with it
abbrev pub Says : List ℕ → Result (Option Request) LineFault → Type 0
Says line (Ok (Some q)) = Asks line q
Says line (Ok None) = AsksNothing line
Says line (Err fault) = IsScriptFault line fault

-- Why a line isn't read. Memory is asked for only where `radio rules`, a radio and more stand first, or the line has the form of a
-- country element.
abbrev pub IsReadLineFault : List ℕ → ReadLineFault → Type 0
IsReadLineFault line (Line fault) = IsScriptFault line fault
IsReadLineFault line OutOfMemory = BeginsRuleLine (words_of line) ⊎ ((told : Told) × HasForm (words_of line) Element told)
