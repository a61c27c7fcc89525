-- Which of the forms the words of a line have, and which are tried first.
use Rattle.std.specs.Prelude.{ℕ, ◌==◌, Bool, true, false, List, [], ◌∷◌, if◌then◌else◌}
use Rattle.line_forms.specs.Forms.{HasForm}
use Rattle.line_forms.specs.Told.{Told}
use Rattle.line_forms.specs.declared.form.Form.{Form}
use Rattle.line_forms.specs.declared.likely.TheConstants.{LIKELY_AP, LIKELY_CHECK, LIKELY_DEL, LIKELY_ELSE, LIKELY_IBSS, LIKELY_MESH, LIKELY_SET}
use Rattle.line_forms.specs.declared.slot.Slot.{Slot}
use Rattle.line_forms.specs.declared.slot.Slot.TheVariants.{Fixed, Ssid, Interval, Dtim}

-- the words don't have the form
abbrev pub Misfits : List (List ℕ) → Form → Type 0
Misfits words form = (told : Told) → HasForm words form told → ⊥

-- the words at the slot tell nothing
abbrev pub tells_nothing : Slot → Bool
tells_nothing (Fixed word) = true
tells_nothing Ssid = true
tells_nothing Interval = true
tells_nothing Dtim = true
tells_nothing slot = false

-- ---- what is tried first

-- the first byte of the word, or 0
abbrev pub first_byte : List ℕ → ℕ
first_byte [] = 0
first_byte (b ∷ bs) = b

-- the first byte of the fourth of the words, or 0
abbrev pub fourth_letter : List (List ℕ) → ℕ
fourth_letter [] = 0
fourth_letter (a ∷ []) = 0
fourth_letter (a ∷ b ∷ []) = 0
fourth_letter (a ∷ b ∷ c ∷ []) = 0
fourth_letter (a ∷ b ∷ c ∷ word ∷ words) = first_byte word

-- the forms to be tried first on a line whose fourth word begins so
abbrev pub likely_by : ℕ → List Form
likely_by letter =
    if letter == 97 then LIKELY_AP else
    if letter == 115 then LIKELY_SET else
    if letter == 99 then LIKELY_CHECK else
    if letter == 105 then LIKELY_IBSS else
    if letter == 109 then LIKELY_MESH else
    if letter == 100 then LIKELY_DEL else LIKELY_ELSE
