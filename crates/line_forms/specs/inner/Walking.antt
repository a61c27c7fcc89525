-- How far the words of a line go along the slots of a form, and which form they go furthest with.
use Rattle.std.specs.Prelude.{◌≡◌, ◌≢◌, ℕ, ◌+◌, ◌<◌, ◌≤◌, ◌⊎◌, Bool, cond, List, [], ◌∷◌, All, Contains, Option, Some, None, slice_index_or}
use Rattle.reg_journal.specs.declared.request.Request.{Request}
use Rattle.line_forms.specs.Faults.{IsWordFault}
use Rattle.line_forms.specs.Forms.{FormOf, HasForm}
use Rattle.line_forms.specs.Rows.{slots}
use Rattle.line_forms.specs.Slots.{Fills, looks_like, sort_of}
use Rattle.line_forms.specs.Told.{Told, nothing}
use Rattle.line_forms.specs.declared.fault.LineFault.{LineFault}
use Rattle.line_forms.specs.declared.fault.LineFault.TheVariants.{Unknown, BadNumber, BadForm, Missing}
use Rattle.line_forms.specs.declared.fault.ReadLineFault.{ReadLineFault}
use Rattle.line_forms.specs.declared.fault.ReadLineFault.TheVariants.{Line, OutOfMemory}
use Rattle.line_forms.specs.declared.form.Form.{Form}
use Rattle.line_forms.specs.declared.form.Form.TheVariants.{Element}
use Rattle.line_forms.specs.declared.slot.Slot.{Slot}
use Rattle.line_forms.specs.declared.slot.Sort.{Sort}
use Rattle.line_forms.specs.declared.slot.Sort.TheVariants.{OneWord, Number, OtherForm}
use Rattle.line_forms.specs.declared.walker.Blame.{Blame}
use Rattle.line_forms.specs.declared.walker.Blame.TheVariants.{NoWord, NoForm, NoNumber, OutOfRange}
use Rattle.line_forms.specs.declared.walker.End.{End}
use Rattle.line_forms.specs.declared.walker.End.TheVariants.{Whole, Short, Bad}
use Rattle.line_forms.specs.declared.walker.Stop.{Stop}

-- why a word that can't stand at a slot can't
abbrev pub blame_by : Bool → Sort → Blame
blame_by looks OneWord = NoWord
blame_by looks Number = cond looks OutOfRange NoNumber
blame_by looks OtherForm = cond looks OutOfRange NoForm

abbrev pub blame_of : Slot → List ℕ → Blame
blame_of s w = blame_by (looks_like s w) (sort_of s)

-- So many words stand at the slots, the next one doesn't, and this is how it ends.
abbrev pub StopsAlong : List Slot → Told → List (List ℕ) → ℕ → End → Told → Type 0
StopsAlong [] d [] k end e = (k ≡ 0) × (end ≡ Whole) × (e ≡ d)
StopsAlong [] d (w ∷ ws) k end e = (k ≡ 0) × (end ≡ Bad NoWord)
StopsAlong (s ∷ slots) d [] k end e = (k ≡ 0) × (end ≡ Short)
StopsAlong (s ∷ slots) d (w ∷ ws) k end e =
    ((k ≡ 0) × (end ≡ Bad (blame_of s w)) × ((next : Told) → Fills s d w next → ⊥))
    ⊎ ((next : Told) × (rest : ℕ) × (k ≡ rest + 1) × Fills s d w next × StopsAlong slots next ws rest end e)

-- of two reasons at one word the graver one is told
abbrev pub gravity_of_blame : Blame → ℕ
gravity_of_blame NoWord = 0
gravity_of_blame NoForm = 1
gravity_of_blame NoNumber = 2
gravity_of_blame OutOfRange = 3

abbrev pub gravity : End → ℕ
gravity Whole = 0
gravity Short = 0
gravity (Bad blame) = gravity_of_blame blame

-- the one stop is no further on the line than the other, or is there and no graver
abbrev pub IsNoLater : ℕ → End → Stop → Type 0
IsNoLater k end stop = (k < stop.taken) ⊎ ((k ≡ stop.taken) × (gravity end ≤ gravity stop.end))

-- the words don't have the form, and stop no later
pub record StopsBy (words : List (List ℕ)) (stop : Stop) (form : Form) : Type 0 where
  pub taken : ℕ
  pub end : End
  pub told : Told
  pub stops : StopsAlong (slots form) nothing words taken end told
  pub unfit : end ≢ Whole
  pub no_later : IsNoLater taken end stop

-- the words stop so with the form
abbrev pub StopsAt : List (List ℕ) → Stop → Form → Type 0
StopsAt words stop form = (told : Told) × StopsAlong (slots form) nothing words stop.taken stop.end told

-- The words have none of these forms, and with one of them they come as far as with any, to the gravest end.
pub record IsFurthest (forms : List Form) (words : List (List ℕ)) (stop : Stop) : Type 0 where
  pub each : All (StopsBy words stop) forms
  pub form : Form
  pub listed : Contains forms form
  pub at : StopsAt words stop form

-- the fault of a line whose walk ends so behind so many words
abbrev pub fault_of_end : ℕ → End → LineFault
fault_of_end taken Whole = Missing
fault_of_end taken Short = Missing
fault_of_end taken (Bad NoWord) = Unknown (taken + 1)
fault_of_end taken (Bad NoForm) = BadForm (taken + 1)
fault_of_end taken (Bad NoNumber) = BadNumber (taken + 1)
fault_of_end taken (Bad OutOfRange) = BadForm (taken + 1)

-- the later of two stops, where there is an earlier one
abbrev pub IsLater : Option Stop → Stop → Stop → Type 0
IsLater None found later = later ≡ found
IsLater (Some one) found later = (IsNoLater found.taken found.end one × (later ≡ one)) ⊎ ((IsNoLater found.taken found.end one → ⊥) × (later ≡ found))

-- With the first so many of the forms the words stop no later than so, and with one of them just so.
pub record IsFurthestOf (forms : List Form) (words : List (List ℕ)) (n : ℕ) (stop : Stop) : Type 0 where
  pub each : (k : ℕ) (d : Form) → k < n → StopsBy words stop (slice_index_or forms k d)
  pub form : Form
  pub listed : Contains forms form
  pub at : StopsAt words stop form
  pub few : stop.taken ≤ 15

abbrev pub IsFurthestSoFar : List Form → List (List ℕ) → ℕ → Option Stop → Type 0
IsFurthestSoFar forms words n None = n ≡ 0
IsFurthestSoFar forms words n (Some stop) = IsFurthestOf forms words n stop

-- none of the forms has the words
abbrev pub HaveNoForm : List (List ℕ) → Type 0
HaveNoForm words = (form : Form) (told : Told) → HasForm words form told → ⊥

-- why words have no form: which fault they have, or that memory is asked for, as it is by a country element alone
abbrev pub IsFormFault : List (List ℕ) → ReadLineFault → Type 0
IsFormFault words (Line fault) = ((q : Request) → FormOf words q → ⊥) × IsWordFault words fault
IsFormFault words OutOfMemory = (told : Told) × HasForm words Element told
