-- The furthest stop over the first forms, and over one more.
use Rattle.std.proofs.Common.{◌≡◌, ◌≢◌, ℕ, ◌+◌, ◌<◌, ◌≤◌, ◌⊎◌, inl, inr, List, length, get_or, Contains, Option, Some, None, refl, ◌∙◌, sym, subst, arith, below_more}
use Rattle.std.proofs.lemmas.Bool.{cases_lt}
use Rattle.std.proofs.lemmas.List.{get_or_read}
use Rattle.line_forms.specs.Forms.{HasForm}
use Rattle.line_forms.specs.Rows.{slots}
use Rattle.line_forms.proofs.Walks.{stops-whole}
use Rattle.line_forms.specs.Told.{Told, nothing}
use Rattle.line_forms.specs.inner.Walking.{IsFurthest, IsFurthestOf, IsFurthestSoFar, IsLater, IsNoLater, StopsAlong, StopsBy, gravity}
use Rattle.line_forms.specs.declared.form.Form.{Form}
use Rattle.line_forms.specs.declared.walker.End.{End}
use Rattle.line_forms.specs.declared.walker.End.TheVariants.{Whole}
use Rattle.line_forms.specs.declared.walker.Stop.{Stop}

not-later : (found one : Stop) → (IsNoLater found.taken found.end one → ⊥) → (one.taken < found.taken) ⊎ ((one.taken ≡ found.taken) × (gravity one.end ≤ gravity found.end))
not-later found one h = elim (cases_lt found.taken one.taken) [
  | inl below ↦ absurd (h (inl below))
  | inr above ↦ elim (cases_lt one.taken found.taken) [
    | inl under ↦ inl under
    | inr over ↦
        let same : found.taken ≡ one.taken = omega arith in
        elim (cases_lt (gravity found.end) (gravity one.end)) [
          | inl less ↦ absurd (h (inr (same, omega arith)))
          | inr more ↦ inr (sym same, omega arith)
        ]
  ]
]

through : (k : ℕ) (end : End) (one found : Stop) → IsNoLater k end one → (one.taken < found.taken) ⊎ ((one.taken ≡ found.taken) × (gravity one.end ≤ gravity found.end)) → IsNoLater k end found
through k end one found (inl below) (inl less) = inl (omega arith)
through k end one found (inl below) (inr (same, grave)) = inl (omega arith)
through k end one found (inr (at, mild)) (inl less) = inl (omega arith)
through k end one found (inr (at, mild)) (inr (same, grave)) = inr (at ∙ same, omega arith)

by-later : (ws : List (List ℕ)) (one found : Stop) (form : Form) → (IsNoLater found.taken found.end one → ⊥) → StopsBy ws one form → StopsBy ws found form
by-later ws one found form later by =
    record { taken = by.taken; end = by.end; told = by.told; stops = by.stops; unfit = by.unfit; no_later = through by.taken by.end one found by.no_later (not-later found one later) }

by-itself : (ws : List (List ℕ)) (stop : Stop) (form : Form) (told : Told) → StopsAlong (slots form) nothing ws stop.taken stop.end told → stop.end ≢ Whole → StopsBy ws stop form
by-itself ws stop form told stops unfit = record { taken = stop.taken; end = stop.end; told = told; stops = stops; unfit = unfit; no_later = inr (refl, omega arith) }

at-form : (forms : List Form) (ws : List (List ℕ)) (i : ℕ) (form : Form) (stop : Stop) → i < length forms → form ≡ get_or forms i form → StopsBy ws stop form → (d : Form) → StopsBy ws stop (get_or forms i d)
at-form forms ws i form stop lt is by d = subst (StopsBy ws stop) (get_or_read forms i form lt is d) by

pub furthest-first : (forms : List Form) (ws : List (List ℕ)) (i : ℕ) (form : Form) (found : Stop) (told : Told) → i ≡ 0 → i < length forms → form ≡ get_or forms i form
    → StopsAlong (slots form) nothing ws found.taken found.end told → found.end ≢ Whole → found.taken ≤ 15 → IsFurthestOf forms ws (i + 1) found
furthest-first forms ws i form found told none lt is stops unfit few = record {
  each = λ k d le. subst (λ j. StopsBy ws found (get_or forms j d)) (same k le) (at-form forms ws i form found lt is (by-itself ws found form told stops unfit) d);
  form = form;
  listed = (i, lt, sym is);
  at = (told, stops);
  few = few;
}
  where
    same : (k : ℕ) → k < i + 1 → i ≡ k
    same k le = omega arith

pub furthest-more : (forms : List Form) (ws : List (List ℕ)) (i : ℕ) (form : Form) (one found later : Stop) (told : Told) → IsFurthestOf forms ws i one → i < length forms → form ≡ get_or forms i form
    → StopsAlong (slots form) nothing ws found.taken found.end told → found.end ≢ Whole → found.taken ≤ 15
    → (IsNoLater found.taken found.end one × (later ≡ one)) ⊎ ((IsNoLater found.taken found.end one → ⊥) × (later ≡ found)) → IsFurthestOf forms ws (i + 1) later
furthest-more forms ws i form one found later told far lt is stops unfit few (inl (no_later, same)) =
    subst (IsFurthestOf forms ws (i + 1)) (sym same) (record {
      each = λ k d le. below_more (λ (j : ℕ). StopsBy ws one (get_or forms j d)) i (λ j below. far.each j d below) (at-form forms ws i form one lt is by d) k le;
      form = far.form;
      listed = far.listed;
      at = far.at;
      few = far.few;
    })
  where
    by : StopsBy ws one form
    by = record { taken = found.taken; end = found.end; told = told; stops = stops; unfit = unfit; no_later = no_later }
furthest-more forms ws i form one found later told far lt is stops unfit few (inr (after, same)) =
    subst (IsFurthestOf forms ws (i + 1)) (sym same) (record {
      each = λ k d le. below_more (λ (j : ℕ). StopsBy ws found (get_or forms j d)) i (λ j below. by-later ws one found (get_or forms j d) after (far.each j d below))
          (at-form forms ws i form found lt is (by-itself ws found form told stops unfit) d) k le;
      form = form;
      listed = (i, lt, sym is);
      at = (told, stops);
      few = few;
    })

pub furthest-next : (forms : List Form) (ws : List (List ℕ)) (i : ℕ) (form : Form) (best : Option Stop) (found later : Stop) (told : Told) → IsFurthestSoFar forms ws i best → i < length forms → form ≡ get_or forms i form
    → StopsAlong (slots form) nothing ws found.taken found.end told → found.end ≢ Whole → found.taken ≤ 15 → IsLater best found later → IsFurthestSoFar forms ws (i + 1) (Some later)
furthest-next forms ws i form None found later told none lt is stops unfit few same = subst (IsFurthestOf forms ws (i + 1)) (sym same) (furthest-first forms ws i form found told none lt is stops unfit few)
furthest-next forms ws i form (Some one) found later told far lt is stops unfit few which = furthest-more forms ws i form one found later told far lt is stops unfit few which

pub found-whole : (forms : List Form) (ws : List (List ℕ)) (i : ℕ) (form : Form) (k : ℕ) (end : End) (told : Told) → i < length forms → form ≡ get_or forms i form
    → StopsAlong (slots form) nothing ws k end told → end ≡ Whole → Contains forms form × HasForm ws form told
found-whole forms ws i form k end told lt is stops whole =
    ((i, lt, sym is), stops-whole (slots form) nothing ws k told (subst (λ t. StopsAlong (slots form) nothing ws k t told) whole stops))

pub furthest-all : (forms : List Form) (ws : List (List ℕ)) (n : ℕ) (stop : Stop) → length forms ≤ n → IsFurthestOf forms ws n stop → IsFurthest forms ws stop
furthest-all forms ws n stop le far = record { each = λ k d lt. far.each k d (omega arith); form = far.form; listed = far.listed; at = far.at }
