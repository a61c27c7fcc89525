-- Words that have none of the forms have one fault.
use Rattle.std.proofs.Common.{◌≡◌, ℕ, ◌+◌, ◌<◌, inl, inr, true, List, length, take, drop, refl, ap, ◌∙◌, sym, subst, arith}
use Rattle.std.proofs.lemmas.List.{take-take}
use Rattle.std.proofs.lemmas.Bool.{cases_lt}
use Rattle.line_forms.specs.Faults.{Begins, IsBadAt, IsBadForm, IsFaultBy, IsFaultWhen, IsFirstBad, IsJudgedBy, IsNoNumber, IsUnknown, IsWordFault, TakesNumber}
use Rattle.line_forms.specs.Rows.{slots}
use Rattle.line_forms.specs.Slots.{looks_like, sort_of}
use Rattle.line_forms.specs.Told.{nothing}
use Rattle.line_forms.specs.inner.Walking.{blame_by, blame_of}
use Rattle.line_forms.specs.declared.fault.LineFault.{LineFault}
use Rattle.line_forms.specs.declared.fault.LineFault.TheVariants.{TooLong, NotAscii, Unknown, BadNumber, BadForm, Missing}
use Rattle.line_forms.specs.declared.form.Form.{Form}
use Rattle.line_forms.specs.declared.judged.Judged.{Judged}
use Rattle.line_forms.specs.declared.judged.Judged.TheVariants.{ByAll, ByTwo, ByThree, ByFour, TooEarly}
use Rattle.line_forms.specs.declared.judged.TheConstants.{BY_TWO, BY_THREE, BY_FOUR}
use Rattle.line_forms.specs.declared.slot.Slot.{Slot}
use Rattle.line_forms.specs.declared.slot.Sort.TheVariants.{OneWord, Number, OtherForm}
use Rattle.line_forms.specs.declared.table.TheConstants.{FORMS}
use Rattle.line_forms.specs.declared.walker.Blame.TheVariants.{NoWord, OutOfRange}
use Rattle.line_forms.proofs.Looks.{looks-blame}
use Rattle.line_forms.proofs.Walks.{head-one, leads-front}

-- ---- the first bad word is one

begins-front : (forms : List Form) (ws : List (List ℕ)) (j : ℕ) → Begins forms ws → Begins forms (take j ws)
begins-front forms ws j h =
    let front = leads-front j ws (slots h.form) h.rest nothing h.told h.leads in
    record { form = h.form; listed = h.listed; rest = drop (length (take j ws)) (slots h.form); told = front.0; leads = front.1 }

-- no words that begin a line go beyond the first bad one
not-beyond : (forms : List Form) (ws : List (List ℕ)) (j k : ℕ) (w : List ℕ) → j < k → Begins forms (take k ws) → IsFirstBad forms ws j w → ⊥
not-beyond forms ws j k w lt begins bad =
    bad.no_more (subst (λ us. Begins forms us) (take-take (j + 1) k ws (omega arith)) (begins-front forms (take k ws) (j + 1) begins))

not-all : (forms : List Form) (ws : List (List ℕ)) (k : ℕ) (w : List ℕ) → Begins forms ws → IsFirstBad forms ws k w → ⊥
not-all forms ws k w begins bad = bad.no_more (begins-front forms ws (k + 1) begins)

place-one : (forms : List Form) (ws : List (List ℕ)) (j k : ℕ) (v w : List ℕ) → IsFirstBad forms ws j v → IsFirstBad forms ws k w → j ≡ k
place-one forms ws j k v w one two = elim (cases_lt j k) [
  | inl below ↦ absurd (not-beyond forms ws j k v below two.begins one)
  | inr above ↦ elim (cases_lt k j) [
    | inl under ↦ absurd (not-beyond forms ws k j w under one.begins two)
    | inr over ↦ omega arith
  ]
]

word-one : (forms : List Form) (ws : List (List ℕ)) (j k : ℕ) (v w : List ℕ) → j ≡ k → IsFirstBad forms ws j v → IsFirstBad forms ws k w → v ≡ w
word-one forms ws j k v w same one two =
    head-one v w one.behind two.behind (sym one.stands ∙ ap (λ n. drop n ws) same ∙ two.stands)

-- ---- and bad in one way

unlike : (slot : Slot) (w : List ℕ) → looks_like slot w ≡ true → sort_of slot ≡ OneWord → ⊥
unlike slot w looks word =
    let blame : blame_of slot w ≡ OutOfRange = looks-blame slot w looks in
    let other : blame_of slot w ≡ NoWord = ap (blame_by (looks_like slot w)) word in
    let same : OutOfRange ≡ NoWord = sym blame ∙ other in
    cc

unknown-number : (forms : List Form) (before : List (List ℕ)) (w : List ℕ) → IsUnknown forms before w → TakesNumber forms before → ⊥
unknown-number forms before w one (slot, comes, is) = let word = one slot comes in let same : OneWord ≡ Number = sym word ∙ is in cc

unknown-form : (forms : List Form) (before : List (List ℕ)) (w : List ℕ) → IsUnknown forms before w → IsBadForm forms before w → ⊥
unknown-form forms before w one (inl (slot, comes, looks)) = unlike slot w looks (one slot comes)
unknown-form forms before w one (inr ((slot, comes, is), no_number, no_look)) = let word = one slot comes in let same : OneWord ≡ OtherForm = sym word ∙ is in cc

number-form : (forms : List Form) (before : List (List ℕ)) (w : List ℕ) → IsNoNumber forms before w → IsBadForm forms before w → ⊥
number-form forms before w one (inl looks) = one.1 looks
number-form forms before w one (inr (takes, no_number, no_look)) = no_number one.0

-- two ways that can't both be
clash : (forms : List Form) (ws : List (List ℕ)) (n m : ℕ) (P Q : List (List ℕ) → List ℕ → Type 0) → ((before : List (List ℕ)) (w : List ℕ) → P before w → Q before w → ⊥)
    → IsBadAt forms ws n P → IsBadAt forms ws m Q → ⊥
clash forms ws n m P Q never (j, v, at, first, p) (k, w, there, second, q) =
    let same = place-one forms ws j k v w first second in
    let word = word-one forms ws j k v w same first second in
    never (take k ws) w (subst (λ u. P (take k ws) u) word (subst (λ i. P (take i ws) v) same p)) q

one-place : (forms : List Form) (ws : List (List ℕ)) (n m : ℕ) (P Q : List (List ℕ) → List ℕ → Type 0) → IsBadAt forms ws n P → IsBadAt forms ws m Q → n ≡ m
one-place forms ws n m P Q (j, v, at, first, p) (k, w, there, second, q) = let same = place-one forms ws j k v w first second in omega arith

not-missing : (forms : List Form) (ws : List (List ℕ)) (n : ℕ) (P : List (List ℕ) → List ℕ → Type 0) → Begins forms ws → IsBadAt forms ws n P → ⊥
not-missing forms ws n P begins (j, v, at, first, p) = not-all forms ws j v begins first

pub one-fault-by : (forms : List Form) (ws : List (List ℕ)) (f g : LineFault) → IsFaultBy forms ws f → IsFaultBy forms ws g → f ≡ g
one-fault-by forms ws Missing Missing one two = refl
one-fault-by forms ws Missing (Unknown m) one two = absurd (not-missing forms ws m (IsUnknown forms) one two)
one-fault-by forms ws Missing (BadNumber m) one two = absurd (not-missing forms ws m (IsNoNumber forms) one two)
one-fault-by forms ws Missing (BadForm m) one two = absurd (not-missing forms ws m (IsBadForm forms) one two)
one-fault-by forms ws (Unknown n) Missing one two = absurd (not-missing forms ws n (IsUnknown forms) two one)
one-fault-by forms ws (BadNumber n) Missing one two = absurd (not-missing forms ws n (IsNoNumber forms) two one)
one-fault-by forms ws (BadForm n) Missing one two = absurd (not-missing forms ws n (IsBadForm forms) two one)
one-fault-by forms ws (Unknown n) (Unknown m) one two = ap (λ i. Unknown i) (one-place forms ws n m (IsUnknown forms) (IsUnknown forms) one two)
one-fault-by forms ws (BadNumber n) (BadNumber m) one two = ap (λ i. BadNumber i) (one-place forms ws n m (IsNoNumber forms) (IsNoNumber forms) one two)
one-fault-by forms ws (BadForm n) (BadForm m) one two = ap (λ i. BadForm i) (one-place forms ws n m (IsBadForm forms) (IsBadForm forms) one two)
one-fault-by forms ws (Unknown n) (BadNumber m) one two = absurd (clash forms ws n m (IsUnknown forms) (IsNoNumber forms) (λ before w p q. unknown-number forms before w p q.0) one two)
one-fault-by forms ws (BadNumber n) (Unknown m) one two = absurd (clash forms ws m n (IsUnknown forms) (IsNoNumber forms) (λ before w p q. unknown-number forms before w p q.0) two one)
one-fault-by forms ws (Unknown n) (BadForm m) one two = absurd (clash forms ws n m (IsUnknown forms) (IsBadForm forms) (unknown-form forms) one two)
one-fault-by forms ws (BadForm n) (Unknown m) one two = absurd (clash forms ws m n (IsUnknown forms) (IsBadForm forms) (unknown-form forms) two one)
one-fault-by forms ws (BadNumber n) (BadForm m) one two = absurd (clash forms ws n m (IsNoNumber forms) (IsBadForm forms) (number-form forms) one two)
one-fault-by forms ws (BadForm n) (BadNumber m) one two = absurd (clash forms ws m n (IsNoNumber forms) (IsBadForm forms) (number-form forms) two one)
one-fault-by forms ws TooLong g one two = absurd one
one-fault-by forms ws NotAscii g one two = absurd one
one-fault-by forms ws f TooLong one two = absurd two
one-fault-by forms ws f NotAscii one two = absurd two

-- ---- judged in one way

one-judged : (ws : List (List ℕ)) (one other : Judged) → IsJudgedBy ws one → IsJudgedBy ws other → one ≡ other
one-judged ws one other (inl h) (inl h') = h.1 ∙ sym h'.1
one-judged ws one other (inl h) (inr h') = absurd (h'.0 h.0)
one-judged ws one other (inr h) (inl h') = absurd (h.0 h'.0)
one-judged ws one other (inr h) (inr h') = h.1 ∙ sym h'.1

one-fault-when : (judged : Judged) (ws : List (List ℕ)) (f g : LineFault) → IsFaultWhen judged ws f → IsFaultWhen judged ws g → f ≡ g
one-fault-when ByAll ws f g one two = one-fault-by FORMS ws f g one two
one-fault-when ByTwo ws f g one two = one-fault-by BY_TWO ws f g one two
one-fault-when ByThree ws f g one two = one-fault-by BY_THREE ws f g one two
one-fault-when ByFour ws f g one two = one-fault-by BY_FOUR ws f g one two
one-fault-when TooEarly ws f g one two = one ∙ sym two

pub one-word-fault : (ws : List (List ℕ)) (f g : LineFault) → IsWordFault ws f → IsWordFault ws g → f ≡ g
one-word-fault ws f g (judged, is, one) (judged', is', two) =
    one-fault-when judged' ws f g (subst (λ j. IsFaultWhen j ws f) (one-judged ws judged judged' is is') one) two
