-- What is wrong with a line, by which words begin a line that has a form.
use Rattle.std.specs.Prelude.{◌≡◌, ℕ, ◌+◌, ◌⊎◌, Bool, true, false, cond, ◌||◌, zero, suc, List, [], ◌∷◌, take, drop, Contains, codes}
use Rattle.reg_base.specs.Texts.{same_bytes}
use Rattle.line_forms.specs.Forms.{Leads}
use Rattle.line_forms.specs.Rows.{slots}
use Rattle.line_forms.specs.Slots.{looks_like, sort_of}
use Rattle.line_forms.specs.Spelling.{is_iw_word}
use Rattle.line_forms.specs.Told.{Told, nothing}
use Rattle.line_forms.specs.declared.fault.LineFault.{LineFault}
use Rattle.line_forms.specs.declared.fault.LineFault.TheVariants.{Unknown, BadNumber, BadForm, Missing}
use Rattle.line_forms.specs.declared.form.Form.{Form}
use Rattle.line_forms.specs.declared.judged.Judged.{Judged}
use Rattle.line_forms.specs.declared.judged.Judged.TheVariants.{ByAll, ByTwo, ByThree, ByFour, TooEarly}
use Rattle.line_forms.specs.declared.judged.TheConstants.{AP_FRONT, BY_TWO, BY_THREE, BY_FOUR}
use Rattle.line_forms.specs.declared.slot.Slot.{Slot}
use Rattle.line_forms.specs.declared.slot.Sort.TheVariants.{OneWord, Number, OtherForm}
use Rattle.line_forms.specs.declared.table.TheConstants.{FORMS}

-- ---- where a line goes wrong

-- one of the forms has lines that begin with these words
pub record Begins (forms : List Form) (words : List (List ℕ)) : Type 0 where
  pub form : Form
  pub listed : Contains forms form
  pub rest : List Slot
  pub told : Told
  pub leads : Leads words (slots form) nothing rest told

-- one of the forms has lines that begin with these words, and have this slot next
pub record CanCome (forms : List Form) (words : List (List ℕ)) (slot : Slot) : Type 0 where
  pub form : Form
  pub listed : Contains forms form
  pub rest : List Slot
  pub told : Told
  pub leads : Leads words (slots form) nothing (slot ∷ rest) told

-- The word at place k, counted from 0, is this one. The words before it begin a line, and with it they begin none.
pub record IsFirstBad (forms : List Form) (words : List (List ℕ)) (k : ℕ) (word : List ℕ) : Type 0 where
  pub behind : List (List ℕ)
  pub stands : drop k words ≡ word ∷ behind
  pub begins : Begins forms (take k words)
  pub no_more : Begins forms (take (k + 1) words) → ⊥

-- the word looks like one for some slot that can come
abbrev pub LooksRight : List Form → List (List ℕ) → List ℕ → Type 0
LooksRight forms before word = (slot : Slot) × CanCome forms before slot × (looks_like slot word ≡ true)

-- some slot that can come takes a number
abbrev pub TakesNumber : List Form → List (List ℕ) → Type 0
TakesNumber forms before = (slot : Slot) × CanCome forms before slot × (sort_of slot ≡ Number)

-- some slot that can come takes words of another form
abbrev pub TakesForm : List Form → List (List ℕ) → Type 0
TakesForm forms before = (slot : Slot) × CanCome forms before slot × (sort_of slot ≡ OtherForm)

-- only a fixed word or the end can come, and not this word
abbrev pub IsUnknown : List Form → List (List ℕ) → List ℕ → Type 0
IsUnknown forms before word = (slot : Slot) → CanCome forms before slot → sort_of slot ≡ OneWord

-- a number can come, and the word is none
abbrev pub IsNoNumber : List Form → List (List ℕ) → List ℕ → Type 0
IsNoNumber forms before word = TakesNumber forms before × (LooksRight forms before word → ⊥)

-- The word is a number out of its range, or a word of iw that names no channel there; or it isn't of the form of words that can come.
abbrev pub IsBadForm : List Form → List (List ℕ) → List ℕ → Type 0
IsBadForm forms before word = LooksRight forms before word
    ⊎ (TakesForm forms before × (TakesNumber forms before → ⊥) × (LooksRight forms before word → ⊥))

-- the word at this place, counted from 1, is the first bad one, and is bad in this way
abbrev pub IsBadAt : List Form → List (List ℕ) → ℕ → (List (List ℕ) → List ℕ → Type 0) → Type 0
IsBadAt forms words n bad = (k : ℕ) × (word : List ℕ) × (n ≡ k + 1) × IsFirstBad forms words k word × bad (take k words) word

-- What is wrong with words that have none of the forms: all of them begin a line, or one is the first bad word.
abbrev pub IsFaultBy : List Form → List (List ℕ) → LineFault → Type 0
IsFaultBy forms words Missing = Begins forms words
IsFaultBy forms words (Unknown n) = IsBadAt forms words n (IsUnknown forms)
IsFaultBy forms words (BadNumber n) = IsBadAt forms words n (IsNoNumber forms)
IsFaultBy forms words (BadForm n) = IsBadAt forms words n (IsBadForm forms)
IsFaultBy forms words fault = ⊥

-- ---- access points that start on a channel without a word of iw

-- it is `head`
abbrev pub is_head : List ℕ → Bool
is_head word = same_bytes word (codes "head")

-- how many of the words stand before `head`, or all where it isn't there
abbrev pub count_to_head : List (List ℕ) → ℕ
count_to_head [] = 0
count_to_head (w ∷ ws) = cond (is_head w) 0 (count_to_head ws + 1)

-- the first of the words is a word of iw for a channel
abbrev pub begins_iw_word : List (List ℕ) → Bool
begins_iw_word [] = false
begins_iw_word (w ∷ ws) = is_iw_word w

-- the first of the words is a width above 20 MHz
abbrev pub begins_wide : List (List ℕ) → Bool
begins_wide [] = false
begins_wide (w ∷ ws) = same_bytes w (codes "40") || same_bytes w (codes "80") || same_bytes w (codes "160") || same_bytes w (codes "320")

-- the words begin `iw dev`, a name, `ap start`, a name of a network and a frequency, and no word of iw is behind
pub record StartsPlainly (words : List (List ℕ)) : Type 0 where
  pub told : Told
  pub front : Leads (take 7 words) AP_FRONT nothing [] told
  pub without : begins_iw_word (drop 7 words) ≡ false

-- by which forms such words are judged: by how many there are up to `head`, and whether a width above 20 MHz stands first of three
abbrev pub judged_by : ℕ → Bool → Judged
judged_by zero wide = TooEarly
judged_by (suc zero) wide = TooEarly
judged_by (suc (suc zero)) wide = ByTwo
judged_by (suc (suc (suc zero))) wide = cond wide TooEarly ByThree
judged_by (suc (suc (suc (suc n)))) wide = ByFour

-- by which forms words are judged
abbrev pub IsJudgedBy : List (List ℕ) → Judged → Type 0
IsJudgedBy words judged =
    (StartsPlainly words × (judged ≡ judged_by (count_to_head (drop 7 words)) (begins_wide (drop 7 words))))
    ⊎ ((StartsPlainly words → ⊥) × (judged ≡ ByAll))

-- what is wrong with words that are judged so
abbrev pub IsFaultWhen : Judged → List (List ℕ) → LineFault → Type 0
IsFaultWhen ByAll words fault = IsFaultBy FORMS words fault
IsFaultWhen ByTwo words fault = IsFaultBy BY_TWO words fault
IsFaultWhen ByThree words fault = IsFaultBy BY_THREE words fault
IsFaultWhen ByFour words fault = IsFaultBy BY_FOUR words fault
IsFaultWhen TooEarly words fault = fault ≡ Missing

-- What is wrong with words that ask nothing.
abbrev pub IsWordFault : List (List ℕ) → LineFault → Type 0
IsWordFault words fault = (judged : Judged) × IsJudgedBy words judged × IsFaultWhen judged words fault
