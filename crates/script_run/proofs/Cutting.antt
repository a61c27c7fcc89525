-- Bytes that are cut into lines as they come.
use Rattle.std.proofs.Common.{◌≡◌, ℕ, ◌<◌, ◌==◌, nat_lt, cond, Bool, true, false, List, [], ◌∷◌, ◌++◌, length, length-append, append_assoc, append-nil, refl, sym, ap, subst, ◌∙◌, arith}
use Rattle.std.specs.List.{slice_split, onto_first}
use Rattle.std.proofs.lemmas.Bool.Decides.{nat_tests}
use Rattle.std.proofs.lemmas.List.Splits.{length-slice_split, slice_split-cons_no, slice_split-cons_yes}
use Rattle.reg_base.specs.declared.limits.TheConstants.{MOST_LINE_BYTES}
use Rattle.iw_commands.specs.Cutting.{IsCut, OpenLine, opened, with_byte}
use Rattle.iw_commands.specs.Scripts.{script_lines, without_empty_last}
use Rattle.iw_commands.specs.declared.cutter.Cut.{Cut}
use Rattle.iw_commands.specs.declared.cutter.Cut.TheVariants.{Whole, TooLong}
use Rattle.script_run.specs.Taken.{AreEnded}
use Rattle.script_run.specs.inner.Turns.{IsCutAt, IsCutOf, IsHeld, onto}

-- the parts round newlines
abbrev parts : List ℕ → List (List ℕ)
parts bytes = slice_split (λ b. b == 10) bytes

some_part : (bytes : List ℕ) → 0 < length (parts bytes)
some_part bytes = omega (arith, length-slice_split (λ b. b == 10) bytes)

-- ---- one byte more

onto_nil : (xs : List (List ℕ)) → 0 < length xs → xs ≡ onto [] xs
onto_nil [] some = absurd (omega arith)
onto_nil (x ∷ xs) some = refl

onto_both : (begun : List ℕ) (b : ℕ) (xs : List (List ℕ)) → onto begun (onto_first b xs) ≡ onto (begun ++ b ∷ []) xs
onto_both begun b [] = refl
onto_both begun b (x ∷ xs) = ap (λ l. l ∷ xs) (sym (append_assoc begun (b ∷ []) x))

pub cut_none : IsCutAt [] [] []
cut_none more = onto_nil (parts more) (some_part more)

pub cut_more : (bytes : List ℕ) (lines : List (List ℕ)) (begun : List ℕ) (b : ℕ) → (b == 10) ≡ false → IsCutAt bytes lines begun → IsCutAt (bytes ++ b ∷ []) lines (begun ++ b ∷ [])
cut_more bytes lines begun b isnt cut = λ more.
    ap parts (append_assoc bytes (b ∷ []) more) ∙ cut (b ∷ more) ∙ ap (λ xs. lines ++ onto begun xs) (slice_split-cons_no (λ x. x == 10) b more isnt)
    ∙ ap (λ xs. lines ++ xs) (onto_both begun b (parts more))

-- behind a newline the line ended
newline : (bytes : List ℕ) (lines : List (List ℕ)) (begun : List ℕ) (b : ℕ) → (b == 10) ≡ true → IsCutAt bytes lines begun → (more : List ℕ) → parts (bytes ++ b ∷ more) ≡ lines ++ begun ∷ parts more
newline bytes lines begun b ends cut more =
    cut (b ∷ more) ∙ ap (λ xs. lines ++ onto begun xs) (slice_split-cons_yes (λ x. x == 10) b more ends) ∙ ap (λ l. lines ++ l ∷ parts more) (append-nil begun)

pub cut_line : (bytes : List ℕ) (lines : List (List ℕ)) (begun : List ℕ) (b : ℕ) → (b == 10) ≡ true → IsCutAt bytes lines begun → IsCutAt (bytes ++ b ∷ []) (lines ++ begun ∷ []) []
cut_line bytes lines begun b ends cut = λ more.
    ap parts (append_assoc bytes (b ∷ []) more) ∙ newline bytes lines begun b ends cut more ∙ sym (append_assoc lines (begun ∷ []) (parts more))
    ∙ ap (λ xs. (lines ++ begun ∷ []) ++ xs) (onto_nil (parts more) (some_part more))

-- ---- what ended

pub ended : (bytes : List ℕ) (lines : List (List ℕ)) (begun : List ℕ) → IsCutAt bytes lines begun → AreEnded bytes lines begun
ended bytes lines begun cut = ap parts (sym (append-nil bytes)) ∙ cut [] ∙ ap (λ l. lines ++ l ∷ []) (append-nil begun)

-- all but the last, and the last
split_last : (xs : List (List ℕ)) → 0 < length xs → (rest : List (List ℕ)) × (last : List ℕ) × (xs ≡ rest ++ last ∷ [])
split_last [] some = absurd (omega arith)
split_last (x ∷ []) some = ([], x, refl)
split_last (x ∷ y ∷ ys) some = let (rest, last, is) = split_last (y ∷ ys) (omega arith) in (x ∷ rest, last, ap (λ l. x ∷ l) is)

-- the line that ends here is among those that ended, whatever comes behind it
pub ended_here : (bytes : List ℕ) (lines : List (List ℕ)) (begun : List ℕ) (b : ℕ) → (b == 10) ≡ true → IsCutAt bytes lines begun → (more : List ℕ)
    → (rest : List (List ℕ)) × (last : List ℕ) × AreEnded (bytes ++ b ∷ more) (lines ++ begun ∷ rest) last
ended_here bytes lines begun b ends cut more =
    let (rest, last, is) = split_last (parts more) (some_part more) in
    (rest, last, newline bytes lines begun b ends cut more ∙ ap (λ xs. lines ++ begun ∷ xs) is ∙ sym (append_assoc lines (begun ∷ rest) (last ∷ [])))

-- ---- the end of a script

keeps_front : (part p : List ℕ) (ps : List (List ℕ)) → without_empty_last (part ∷ p ∷ ps) ≡ part ∷ without_empty_last (p ∷ ps)
keeps_front [] p ps = refl
keeps_front (b ∷ bs) p ps = refl

drops_empty : (lines : List (List ℕ)) → without_empty_last (lines ++ [] ∷ []) ≡ lines
drops_empty [] = refl
drops_empty (l ∷ []) = keeps_front l [] []
drops_empty (l ∷ k ∷ ks) = keeps_front l k (ks ++ [] ∷ []) ∙ ap (λ xs. l ∷ xs) (drops_empty (k ∷ ks))

keeps_last : (lines : List (List ℕ)) (b : ℕ) (bs : List ℕ) → without_empty_last (lines ++ (b ∷ bs) ∷ []) ≡ lines ++ (b ∷ bs) ∷ []
keeps_last [] b bs = refl
keeps_last (l ∷ []) b bs = keeps_front l (b ∷ bs) []
keeps_last (l ∷ k ∷ ks) b bs = keeps_front l k (ks ++ (b ∷ bs) ∷ []) ∙ ap (λ xs. l ∷ xs) (keeps_last (k ∷ ks) b bs)

pub lines_at_newline : (script : List ℕ) (lines : List (List ℕ)) (begun : List ℕ) → IsCutAt script lines begun → begun ≡ [] → lines ≡ script_lines script
lines_at_newline script lines begun cut none =
    sym (ap without_empty_last (ended script lines begun cut ∙ ap (λ l. lines ++ l ∷ []) none) ∙ drops_empty lines)

pub lines_at_end : (script : List ℕ) (lines : List (List ℕ)) (begun : List ℕ) → IsCutAt script lines begun → (begun ≡ [] → ⊥) → lines ++ begun ∷ [] ≡ script_lines script
lines_at_end script lines [] cut some = absurd (some refl)
lines_at_end script lines (b ∷ bs) cut some = sym (ap without_empty_last (ended script lines (b ∷ bs) cut) ∙ keeps_last lines b bs)

-- ---- what the cutter holds

pub held_none : IsHeld [] opened
held_none = record { unended = refl; whole = λ short. refl; long = λ long. absurd cc }

too_many : (line : List ℕ) (cutter : OpenLine) (b : ℕ) → IsHeld line cutter → nat_lt (length cutter.bytes) MOST_LINE_BYTES ≡ false → MOST_LINE_BYTES < length (line ++ b ∷ [])
too_many line cutter b holds full = by_mark cutter.too_long refl
  where
    by_mark : (long : Bool) → cutter.too_long ≡ long → MOST_LINE_BYTES < length (line ++ b ∷ [])
    by_mark true is = let before = holds.long is in omega (arith, before, length-append line (b ∷ []))
    by_mark false is =
        let same = ap length (holds.whole is) in
        grind (arith, nat_tests, full, same, length-append line (b ∷ []))

pub held_more : (line : List ℕ) (cutter : OpenLine) (b : ℕ) → (b == 10) ≡ false → IsHeld line cutter → IsHeld (line ++ b ∷ []) (with_byte b cutter)
held_more line cutter b isnt holds =
    subst (λ t. IsHeld (line ++ b ∷ []) (cond t (record { bytes = cutter.bytes; too_long = cutter.too_long; ended = true }) kept)) (sym isnt) (by_room (nat_lt (length cutter.bytes) MOST_LINE_BYTES) refl)
  where
    kept : OpenLine
    kept = cond (nat_lt (length cutter.bytes) MOST_LINE_BYTES) (record { bytes = cutter.bytes ++ b ∷ []; too_long = cutter.too_long; ended = cutter.ended })
        (record { bytes = cutter.bytes; too_long = true; ended = cutter.ended })

    by_room : (room : Bool) → nat_lt (length cutter.bytes) MOST_LINE_BYTES ≡ room
        → IsHeld (line ++ b ∷ []) (cond room (record { bytes = cutter.bytes ++ b ∷ []; too_long = cutter.too_long; ended = cutter.ended })
        (record { bytes = cutter.bytes; too_long = true; ended = cutter.ended }))
    by_room true is = record {
      unended = holds.unended;
      whole = λ short. ap (λ l. l ++ b ∷ []) (holds.whole short);
      long = λ long. let before = holds.long long in omega (arith, before, length-append line (b ∷ []));
    }
    by_room false is = record { unended = holds.unended; whole = λ short. absurd cc; long = λ long. too_many line cutter b holds is }

cut_of : (line : List ℕ) (cutter : OpenLine) (cut : Cut) → (cutter.too_long ≡ false → cutter.bytes ≡ line) → (cutter.too_long ≡ true → MOST_LINE_BYTES < length line) → IsCut cutter cut → IsCutOf line cut
cut_of line cutter (Whole bytes) whole long is = is.1 ∙ whole is.0
cut_of line cutter TooLong whole long is = long is

-- the line that is open
pub cut_held : (line : List ℕ) (cutter : OpenLine) (cut : Cut) → IsHeld line cutter → IsCut cutter cut → IsCutOf line cut
cut_held line cutter cut holds is = cut_of line cutter cut holds.whole holds.long is

-- the line that a newline ended
pub cut_ended : (line : List ℕ) (cutter : OpenLine) (b : ℕ) (cut : Cut) → (b == 10) ≡ true → IsHeld line cutter → IsCut (with_byte b cutter) cut → IsCutOf line cut
cut_ended line cutter b cut ends holds is =
    cut_of line (record { bytes = cutter.bytes; too_long = cutter.too_long; ended = true }) cut holds.whole holds.long
    (subst (λ t. IsCut (cond t (record { bytes = cutter.bytes; too_long = cutter.too_long; ended = true }) (cond (nat_lt (length cutter.bytes) MOST_LINE_BYTES) (record { bytes = cutter.bytes ++ b ∷ []; too_long = cutter.too_long; ended = cutter.ended }) (record { bytes = cutter.bytes; too_long = true; ended = cutter.ended }))) cut) ends is)
