-- The lines that ended within a front of a script are the first of its lines.
use Rattle.std.proofs.Common.{◌≡◌, ℕ, ◌==◌, Bool, true, false, List, [], ◌∷◌, ◌++◌, take, drop, Some, inl, inr, refl, sym, ap, subst, ◌∙◌, append_assoc, append-nil, take-append-drop}
use Rattle.iw_commands.specs.Scripts.{script_lines, without_empty_last}
use Rattle.db_commands.specs.Devices.{StreamAround, script_limit}
use Rattle.script_run.specs.Taken.{AreEnded, HasLines}
use Rattle.script_run.specs.inner.Turns.{IsCutAt, onto}
use Rattle.script_run.proofs.Cutting.{cut_line, cut_more, cut_none, ended}
use Rattle.script_run.proofs.Told.{consumed_front, consumed_whole}

-- ---- where a list has its last element

no_end : (xs : List (List ℕ)) (x : List ℕ) → [] ≡ xs ++ x ∷ [] → ⊥
no_end [] x none = absurd cc
no_end (y ∷ ys) x none = absurd cc

-- two fronts with one element each behind them, which come to the same
same_front : (xs ys : List (List ℕ)) (x y : List ℕ) → xs ++ x ∷ [] ≡ ys ++ y ∷ [] → (xs ≡ ys) × (x ≡ y)
same_front [] [] x y same = (refl, cc)
same_front [] (k ∷ ks) x y same = absurd (no_end ks y (ap (λ l. drop 1 l) same))
same_front (l ∷ ls) [] x y same = absurd (no_end ls x (sym (ap (λ l. drop 1 l) same)))
same_front (l ∷ ls) (k ∷ ks) x y same = let (fronts, last) = same_front ls ks x y (ap (λ l. drop 1 l) same) in let first : l ≡ k = cc in (rw (first, fronts) refl, last)

-- ---- each list of bytes is cut somewhere

-- the bytes are cut somewhere
abbrev CutOf : List ℕ → Type 0
CutOf bytes = (lines : List (List ℕ)) × (begun : List ℕ) × IsCutAt bytes lines begun

cut_step : (more bytes : List ℕ) (lines : List (List ℕ)) (begun : List ℕ) (b : ℕ) → IsCutAt bytes lines begun → ((bytes : List ℕ) (lines : List (List ℕ)) (begun : List ℕ) → IsCutAt bytes lines begun → CutOf (bytes ++ more))
    → (newline : Bool) → (b == 10) ≡ newline → CutOf (bytes ++ b ∷ more)
cut_step more bytes lines begun b cut go_on true is = subst CutOf (append_assoc bytes (b ∷ []) more) (go_on (bytes ++ b ∷ []) (lines ++ begun ∷ []) [] (cut_line bytes lines begun b is cut))
cut_step more bytes lines begun b cut go_on false is = subst CutOf (append_assoc bytes (b ∷ []) more) (go_on (bytes ++ b ∷ []) lines (begun ++ b ∷ []) (cut_more bytes lines begun b is cut))

cut_from : (more bytes : List ℕ) (lines : List (List ℕ)) (begun : List ℕ) → IsCutAt bytes lines begun → CutOf (bytes ++ more)
cut_from [] bytes lines begun cut = subst CutOf (sym (append-nil bytes)) (lines, begun, cut)
cut_from (b ∷ more) bytes lines begun cut = cut_step more bytes lines begun b cut (cut_from more) (b == 10) refl

cut_at : (bytes : List ℕ) (lines : List (List ℕ)) (begun : List ℕ) → AreEnded bytes lines begun → IsCutAt bytes lines begun
cut_at bytes lines begun are =
    let (ls, last, there) = cut_from bytes [] [] [] cut_none in
    let (fronts, ends) = same_front ls lines last begun (sym (ended bytes ls last there) ∙ are) in
    subst (IsCutAt bytes lines) ends (subst (λ l. IsCutAt bytes l last) fronts there)

-- ---- the first lines

first : (part p : List ℕ) (ps : List (List ℕ)) → without_empty_last (part ∷ p ∷ ps) ≡ part ∷ without_empty_last (p ∷ ps)
first [] p ps = refl
first (b ∷ bs) p ps = refl

front_kept : (lines : List (List ℕ)) (x : List ℕ) (xs : List (List ℕ)) → (rest : List (List ℕ)) × (without_empty_last (lines ++ x ∷ xs) ≡ lines ++ rest)
front_kept [] x xs = (without_empty_last (x ∷ xs), refl)
front_kept (l ∷ []) x xs = (without_empty_last (x ∷ xs), first l x xs)
front_kept (l ∷ k ∷ ks) x xs = let (rest, is) = front_kept (k ∷ ks) x xs in (rest, first l k (ks ++ x ∷ xs) ∙ ap (λ ls. l ∷ ls) is)

onto_kept : (lines : List (List ℕ)) (begun : List ℕ) (xs : List (List ℕ)) → (rest : List (List ℕ)) × (without_empty_last (lines ++ onto begun xs) ≡ lines ++ rest)
onto_kept lines begun [] = front_kept lines begun []
onto_kept lines begun (x ∷ xs) = front_kept lines (begun ++ x) xs

-- the lines that ended with these bytes stand first in each script that begins with them
pub ended_first : (bytes more : List ℕ) (lines : List (List ℕ)) (begun : List ℕ) → AreEnded bytes lines begun → (rest : List (List ℕ)) × (script_lines (bytes ++ more) ≡ lines ++ rest)
ended_first bytes more lines begun are =
    let (rest, is) = onto_kept lines begun _ in
    (rest, ap without_empty_last (cut_at bytes lines begun are more) ∙ is)

-- ---- what was taken of a script that is told

-- the lines that could be answered are the first lines of the script
pub lines_first : (input : StreamAround) (script : List ℕ) (P : List (List ℕ) → Type 0) → input.before ≡ Some script → HasLines input P
    → (lines : List (List ℕ)) × (rest : List (List ℕ)) × (script_lines script ≡ lines ++ rest) × P lines
lines_first input script P told (inl within) =
    let (lines, begun, are, holds) = within.holds in
    let (left, front) = consumed_front input.before input.after script within.taken told within.consumed in
    let (rest, is) = ended_first (take script_limit within.taken) (drop script_limit within.taken ++ left) lines begun are in
    (lines, rest, ap script_lines (front ∙ ap (λ l. l ++ left) (sym (take-append-drop script_limit within.taken)) ∙ append_assoc (take script_limit within.taken) (drop script_limit within.taken) left) ∙ is, holds)
lines_first input script P told (inr (end, taken)) =
    let (within, holds) = taken.holds in
    (script_lines script, [], sym (append-nil (script_lines script)), subst (λ bytes. P (script_lines bytes)) (sym (consumed_whole input.before input.after script taken.taken told taken.consumed end)) holds)
