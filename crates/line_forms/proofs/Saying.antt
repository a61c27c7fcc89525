-- What lines say, and that it is one thing.
use Rattle.std.proofs.Common.{◌≡◌, ℕ, ◌<◌, ◌≤◌, ◌⊎◌, inl, inr, List, length, All, Option, Some, None, Result, Ok, Err, refl, ap, ◌∙◌, sym, subst, arith}
use Rattle.reg_base.specs.declared.limits.TheConstants.{MOST_LINE_BYTES}
use Rattle.reg_journal.specs.declared.request.Request.{Request}
use Rattle.line_forms.specs.Forms.{FormOf, RulesOf, Spells}
use Rattle.line_forms.specs.Faults.{IsFaultBy, IsFaultWhen}
use Rattle.line_forms.specs.Lines.{AreSilent, Asks, AsksNothing, HasWordFault, IsLineByte, IsScriptFault, IsReadLineFault, IsScriptLine, Says}
use Rattle.line_forms.specs.Told.{nothing}
use Rattle.line_forms.specs.Rows.{slots}
use Rattle.line_forms.specs.Words.{words_of}
use Rattle.line_forms.specs.inner.Walking.{HaveNoForm, IsFormFault, IsFurthest, StopsBy}
use Rattle.line_forms.specs.declared.fault.ReadLineFault.{ReadLineFault}
use Rattle.line_forms.specs.declared.fault.ReadLineFault.TheVariants.{Line, OutOfMemory}
use Rattle.line_forms.specs.declared.judged.Judged.{Judged}
use Rattle.line_forms.specs.declared.judged.Judged.TheVariants.{ByAll, ByTwo, ByThree, ByFour, TooEarly}
use Rattle.line_forms.specs.declared.judged.TheConstants.{BY_TWO, BY_THREE, BY_FOUR}
use Rattle.line_forms.specs.declared.fault.LineFault.{LineFault}
use Rattle.line_forms.specs.declared.fault.LineFault.TheVariants.{TooLong, NotAscii, Unknown, BadNumber, BadForm, Missing}
use Rattle.line_forms.specs.declared.table.TheConstants.{FORMS}
use Rattle.line_forms.specs.declared.walker.Stop.{Stop}
use Rattle.line_forms.proofs.Apart.{listed}
use Rattle.line_forms.proofs.Furthest.{of_all}
use Rattle.line_forms.proofs.Meanings.{one-request}
use Rattle.line_forms.proofs.OneFault.{one-word-fault}
use Rattle.line_forms.proofs.Walks.{stops-unfit}

-- ---- none of the forms

pub no-form : (ws : List (List ℕ)) (stop : Stop) → IsFurthest FORMS ws stop → HaveNoForm ws
no-form ws stop far form told tells =
    let by = of_all (StopsBy ws stop) FORMS form far.each (listed form) in
    stops-unfit (slots form) nothing ws by.taken by.end by.told told by.stops by.unfit tells

pub no-asked : (ws : List (List ℕ)) → HaveNoForm ws → (q : Request) → FormOf ws q → ⊥
no-asked ws none q h = none h.form h.told h.tells

pub unspelled : (ws : List (List ℕ)) → ((q : Request) → FormOf ws q → ⊥) → ((q : Request) → RulesOf ws q → ⊥) → (q : Request) → Spells ws q → ⊥
unspelled ws form rules q (inl h) = form q h
unspelled ws form rules q (inr h) = rules q h

-- ---- faults of words

word-only : (judged : Judged) (ws : List (List ℕ)) (f : LineFault) → (f ≡ TooLong) ⊎ (f ≡ NotAscii) → IsFaultWhen judged ws f → ⊥
word-only ByAll ws f (inl e) h = subst (λ g. IsFaultBy FORMS ws g) e h
word-only ByAll ws f (inr e) h = subst (λ g. IsFaultBy FORMS ws g) e h
word-only ByTwo ws f (inl e) h = subst (λ g. IsFaultBy BY_TWO ws g) e h
word-only ByTwo ws f (inr e) h = subst (λ g. IsFaultBy BY_TWO ws g) e h
word-only ByThree ws f (inl e) h = subst (λ g. IsFaultBy BY_THREE ws g) e h
word-only ByThree ws f (inr e) h = subst (λ g. IsFaultBy BY_THREE ws g) e h
word-only ByFour ws f (inl e) h = subst (λ g. IsFaultBy BY_FOUR ws g) e h
word-only ByFour ws f (inr e) h = subst (λ g. IsFaultBy BY_FOUR ws g) e h
word-only TooEarly ws f (inl e) h = let same : TooLong ≡ Missing = sym e ∙ h in absurd cc
word-only TooEarly ws f (inr e) h = let same : NotAscii ≡ Missing = sym e ∙ h in absurd cc

of_words : (line : List ℕ) (f : LineFault) → HasWordFault line f → IsScriptFault line f
of_words line TooLong h = absurd (word-only h.is.0 (words_of line) TooLong (inl refl) h.is.2)
of_words line NotAscii h = absurd (word-only h.is.0 (words_of line) NotAscii (inr refl) h.is.2)
of_words line (Unknown n) h = h
of_words line (BadNumber n) h = h
of_words line (BadForm n) h = h
of_words line Missing h = h

pub form-fault : (line : List ℕ) (fault : ReadLineFault) → IsScriptLine line → (AreSilent (words_of line) → ⊥) → ((q : Request) → RulesOf (words_of line) q → ⊥)
    → IsFormFault (words_of line) fault → IsReadLineFault line fault
form-fault line (Line fault) is heard rules h =
    of_words line fault (record { permitted = is; heard = heard; unspelled = unspelled (words_of line) h.0 rules; is = h.1 })
form-fault line OutOfMemory is heard rules h = inr h

-- ---- one meaning

-- what a line says, by its five sorts
Sorted : List ℕ → Result (Option Request) LineFault → Type 0
Sorted line r =
    ((r ≡ Err TooLong) × (MOST_LINE_BYTES < length line))
    ⊎ (((r ≡ Err NotAscii) × (length line ≤ MOST_LINE_BYTES) × (All IsLineByte line → ⊥))
    ⊎ (((r ≡ Ok None) × AsksNothing line)
    ⊎ (((q : Request) × (r ≡ Ok (Some q)) × Asks line q)
    ⊎ ((f : LineFault) × (r ≡ Err f) × HasWordFault line f))))

sorted : (line : List ℕ) (r : Result (Option Request) LineFault) → Says line r → Sorted line r
unfolding Sorted
sorted line (Ok (Some q)) h = inr (inr (inr (inl (q, refl, h))))
sorted line (Ok None) h = inr (inr (inl (refl, h)))
sorted line (Err TooLong) h = inl (refl, h)
sorted line (Err NotAscii) h = inr (inl (refl, h.0, h.1))
sorted line (Err (Unknown n)) h = inr (inr (inr (inr (Unknown n, refl, h))))
sorted line (Err (BadNumber n)) h = inr (inr (inr (inr (BadNumber n, refl, h))))
sorted line (Err (BadForm n)) h = inr (inr (inr (inr (BadForm n, refl, h))))
sorted line (Err Missing) h = inr (inr (inr (inr (Missing, refl, h))))

short-long : (line : List ℕ) → MOST_LINE_BYTES < length line → length line ≤ MOST_LINE_BYTES → ⊥
short-long line long short = absurd (omega arith)

one-sorted : (line : List ℕ) (r s : Result (Option Request) LineFault) → Sorted line r → Sorted line s → r ≡ s
unfolding Sorted
one-sorted line r s (inl h) (inl g) = h.0 ∙ sym g.0
one-sorted line r s (inl h) (inr (inl g)) = absurd (short-long line h.1 g.1)
one-sorted line r s (inl h) (inr (inr (inl g))) = absurd (short-long line h.1 g.1.permitted.short)
one-sorted line r s (inl h) (inr (inr (inr (inl (q, is, g))))) = absurd (short-long line h.1 g.permitted.short)
one-sorted line r s (inl h) (inr (inr (inr (inr (f, is, g))))) = absurd (short-long line h.1 g.permitted.short)
one-sorted line r s (inr (inl h)) (inl g) = absurd (short-long line g.1 h.1)
one-sorted line r s (inr (inl h)) (inr (inl g)) = h.0 ∙ sym g.0
one-sorted line r s (inr (inl h)) (inr (inr (inl g))) = absurd (h.2 g.1.permitted.each)
one-sorted line r s (inr (inl h)) (inr (inr (inr (inl (q, is, g))))) = absurd (h.2 g.permitted.each)
one-sorted line r s (inr (inl h)) (inr (inr (inr (inr (f, is, g))))) = absurd (h.2 g.permitted.each)
one-sorted line r s (inr (inr (inl h))) (inl g) = absurd (short-long line g.1 h.1.permitted.short)
one-sorted line r s (inr (inr (inl h))) (inr (inl g)) = absurd (g.2 h.1.permitted.each)
one-sorted line r s (inr (inr (inl h))) (inr (inr (inl g))) = h.0 ∙ sym g.0
one-sorted line r s (inr (inr (inl h))) (inr (inr (inr (inl (q, is, g))))) = absurd (g.heard h.1.silent)
one-sorted line r s (inr (inr (inl h))) (inr (inr (inr (inr (f, is, g))))) = absurd (g.heard h.1.silent)
one-sorted line r s (inr (inr (inr (inl (q, is, h))))) (inl g) = absurd (short-long line g.1 h.permitted.short)
one-sorted line r s (inr (inr (inr (inl (q, is, h))))) (inr (inl g)) = absurd (g.2 h.permitted.each)
one-sorted line r s (inr (inr (inr (inl (q, is, h))))) (inr (inr (inl g))) = absurd (h.heard g.1.silent)
one-sorted line r s (inr (inr (inr (inl (q, is, h))))) (inr (inr (inr (inl (p, at, g))))) = is ∙ ap (λ (x : Request). Ok (Some x)) (one-request (words_of line) q p h.spelled g.spelled) ∙ sym at
one-sorted line r s (inr (inr (inr (inl (q, is, h))))) (inr (inr (inr (inr (f, at, g))))) = absurd (g.unspelled q h.spelled)
one-sorted line r s (inr (inr (inr (inr (e, is, h))))) (inl g) = absurd (short-long line g.1 h.permitted.short)
one-sorted line r s (inr (inr (inr (inr (e, is, h))))) (inr (inl g)) = absurd (g.2 h.permitted.each)
one-sorted line r s (inr (inr (inr (inr (e, is, h))))) (inr (inr (inl g))) = absurd (h.heard g.1.silent)
one-sorted line r s (inr (inr (inr (inr (e, is, h))))) (inr (inr (inr (inl (p, at, g))))) = absurd (h.unspelled p g.spelled)
one-sorted line r s (inr (inr (inr (inr (e, is, h))))) (inr (inr (inr (inr (f, at, g))))) = is ∙ ap (λ (x : LineFault). Err x) (one-word-fault (words_of line) e f h.is g.is) ∙ sym at

pub one_meaning : (line : List ℕ) (one other : Result (Option Request) LineFault) → Says line one → Says line other → one ≡ other
one_meaning line one other h g = one-sorted line one other (sorted line one h) (sorted line other g)
