-- Words that stand at the slots of a form, and those that have none of the forms.
use Rattle.std.proofs.Common.{◌≡◌, ◌≢◌, ℕ, ◌+◌, ◌<◌, ◌≤◌, ◌⊎◌, inl, inr, List, [], ◌∷◌, length, get_or, map, take, drop, All, MatchOption, Option, Some, None, refl, ap, ◌∙◌, sym, subst, arith}
use Rattle.std.proofs.lemmas.Bool.{cases_lt}
use Rattle.std.proofs.lemmas.List.{drop_all, drop_more, get_or-map, length-map, length-take-le, take_all}
use Rattle.line_forms.specs.Forms.{HasForm, Leads}
use Rattle.line_forms.specs.Rows.{slots}
use Rattle.line_forms.specs.Slots.{Fills}
use Rattle.line_forms.specs.Told.{Told, nothing}
use Rattle.line_forms.specs.inner.Fitting.{Misfits}
use Rattle.line_forms.specs.inner.Walking.{HaveNoForm}
use Rattle.line_forms.specs.declared.form.Form.{Form}
use Rattle.line_forms.specs.declared.slot.Slot.{Slot}
use Rattle.line_forms.specs.declared.table.TheConstants.{FORMS}
use Rattle.line_forms.proofs.Apart.{listed, row-short}
use Rattle.line_forms.proofs.FillsOne.{fills-one}
use Rattle.line_forms.proofs.Furthest.{of_all}
use Rattle.line_forms.proofs.Walks.{leads-length}

-- ---- word by word

module _ {A : Type 0} (f : A → List ℕ) (xs : List A) (row : List Slot) (i : ℕ) (a : A) (s : Slot) (d : Told) where
  words-left : i < length xs → drop i (map f xs) ≡ f (get_or xs i a) ∷ drop (i + 1) (map f xs)
  words-left lt = drop_more (map f xs) i (f a) (subst (λ n. i < n) (sym (length-map xs f)) lt) ∙ ap (λ w. w ∷ drop (i + 1) (map f xs)) (get_or-map f xs i a (f a) lt)

  opened : (e : Told) → i < length xs → i < length row → Leads (drop i (map f xs)) (drop i row) d [] e
      → Leads (f (get_or xs i a) ∷ drop (i + 1) (map f xs)) (get_or row i s ∷ drop (i + 1) row) d [] e
  opened e lt in_row h = subst (λ l. Leads (f (get_or xs i a) ∷ drop (i + 1) (map f xs)) l d [] e) (drop_more row i s in_row) (subst (λ ws. Leads ws (drop i row) d [] e) (words-left lt) h)

  -- with a word that stands at the next slot
  pub leads-more : (next e : Told) → i < length xs → i < length row → Fills (get_or row i s) d (f (get_or xs i a)) next
      → Leads (drop (i + 1) (map f xs)) (drop (i + 1) row) next [] e → Leads (drop i (map f xs)) (drop i row) d [] e
  leads-more next e lt in_row fills leads =
      subst (λ l. Leads (drop i (map f xs)) l d [] e) (sym (drop_more row i s in_row)) (subst (λ ws. Leads ws (get_or row i s ∷ drop (i + 1) row) d [] e) (sym (words-left lt)) (next, fills, leads))

  pub leads-back : (next e : Told) → i < length xs → i < length row → Fills (get_or row i s) d (f (get_or xs i a)) next
      → Leads (drop i (map f xs)) (drop i row) d [] e → Leads (drop (i + 1) (map f xs)) (drop (i + 1) row) next [] e
  leads-back next e lt in_row fills h =
      let o = opened e lt in_row h in
      subst (λ t. Leads (drop (i + 1) (map f xs)) (drop (i + 1) row) t [] e) (fills-one (get_or row i s) d (f (get_or xs i a)) o.0 next o.1 fills) o.2

  -- with a word that can't stand there
  pub leads-none : (e : Told) → i < length xs → i < length row → ((next : Told) → Fills (get_or row i s) d (f (get_or xs i a)) next → ⊥) → Leads (drop i (map f xs)) (drop i row) d [] e → ⊥
  leads-none e lt in_row none h = let o = opened e lt in_row h in none o.0 o.1

-- behind all slots
pub leads-end : (ws : List (List ℕ)) (row : List Slot) (i : ℕ) (d : Told) → length ws ≤ i → length row ≤ i → Leads (drop i ws) (drop i row) d [] d
leads-end ws row i d le past = subst (λ l. Leads l (drop i row) d [] d) (sym (drop_all i ws le)) (subst (λ l. Leads [] l d [] d) (sym (drop_all i row past)) (refl, refl))

-- ---- by their number

-- words that aren't as many as the slots of the form don't have it
pub other-length : {A : Type 0} (f : A → List ℕ) (xs : List A) (form : Form) → length xs ≢ length (slots form) → Misfits (map f xs) form
other-length f xs form differ told h = differ (sym (length-map xs f) ∙ leads-length (map f xs) (slots form) nothing told h)

-- ---- among all

pub no-form-of-all : (ws : List (List ℕ)) → All (Misfits ws) FORMS → HaveNoForm ws
no-form-of-all ws all form told h = of_all (Misfits ws) FORMS form all (listed form) told h

few-are-all : (ws : List (List ℕ)) (n : ℕ) → length (take 16 ws) ≡ n → n < 16 → take 16 ws ≡ ws
few-are-all ws n is few = on (cases-few (length ws))
  where
    on : (length ws ≤ 16) ⊎ (16 ≤ length ws) → take 16 ws ≡ ws
    on (inl le) = take_all 16 ws le
    on (inr ge) = let len = length-take-le 16 ws ge in absurd (omega arith)

    cases-few : (n : ℕ) → (n ≤ 16) ⊎ (16 ≤ n)
    cases-few n = elim (cases_lt n 16) [ inl lt ↦ inl (omega arith) | inr ge ↦ inr (omega arith) ]

-- the first 16 words of a line have a form where all have
pub form-of-first : (ws : List (List ℕ)) (form : Form) (told : Told) → HasForm (take 16 ws) form told → HasForm ws form told
form-of-first ws form told h =
    subst (λ us. HasForm us form told) (few-are-all ws (length (slots form)) (leads-length (take 16 ws) (slots form) nothing told h) (row-short form)) h

pub form-of-whole : (ws : List (List ℕ)) (form : Form) (told : Told) → HasForm ws form told → HasForm (take 16 ws) form told
form-of-whole ws form told h =
    let len = leads-length ws (slots form) nothing told h in
    let short = row-short form in
    subst (λ us. HasForm us form told) (sym (take_all 16 ws (omega arith))) h

pub no-form-of-first : (ws : List (List ℕ)) → HaveNoForm (take 16 ws) → HaveNoForm ws
no-form-of-first ws none form told h = none form told (form-of-whole ws form told h)

-- what follows where one is found, and where none is
pub matched : {A : Type 0} (r : Option A) (P Q : Type 0) (R S : A → Type 0) → (P → Q) → ((x : A) → R x → S x) → MatchOption r P R → MatchOption r Q S
matched None P Q R S none some h = none h
matched (Some x) P Q R S none some h = some x h
