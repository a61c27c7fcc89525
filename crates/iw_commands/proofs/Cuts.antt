-- Lines, by the places at which they are cut.
use Rattle.std.proofs.Common.{◌≡◌, ℕ, ◌+◌, ◌-◌, ◌<◌, List, [], ◌∷◌, Bool, true, false, eqb, length, take, drop, Option, Some, None, refl, arith}
use Rattle.std.specs.Prelude.{MatchOption}
use Rattle.std.specs.List.{slice_split, position_or_len}
use Rattle.std.proofs.lemmas.List.{take_rest}
use Rattle.std.proofs.lemmas.List.Elements.{All-from_get_or}
use Rattle.std.proofs.lemmas.List.Sums.{position_or_len_is}
use Rattle.std.proofs.lemmas.List.Splits.{slice_split_first, slice_split_none, length-slice_split}
use Rattle.memchr.specs.Find.{IsFirstByte, is_byte}
use Rattle.iw_commands.specs.Scripts.{script_lines, without_empty_last}

-- ---- lines

keep-front : (part : List ℕ) (parts : List (List ℕ)) → 0 < length parts → without_empty_last (part ∷ parts) ≡ part ∷ without_empty_last parts
keep-front part [] some = absurd (omega arith)
keep-front [] (p ∷ ps) some = refl
keep-front (b ∷ bs) (p ∷ ps) some = refl

keep-only : (line : List ℕ) → 0 < length line → without_empty_last (line ∷ []) ≡ line ∷ []
keep-only [] some = absurd (omega arith)
keep-only (b ∷ bs) some = refl

is_false : (b : Bool) → (b ≡ true → ⊥) → b ≡ false
is_false true h = absurd (h refl)
is_false false h = refl

-- the first newline ends the first line
pub lines-cut : (script : List ℕ) (r : Option ℕ) → IsFirstByte (is_byte 10) script r → 0 < length script →
    MatchOption r (script_lines script ≡ script ∷ []) (λ k. script_lines script ≡ take k script ∷ script_lines (take (length script - (k + 1)) (drop (k + 1) script)))
lines-cut script None none some =
    let whole : slice_split (λ b. eqb b 10) script ≡ script ∷ [] =
    slice_split_none (λ b. eqb b 10) script (All-from_get_or (λ b. eqb b 10 ≡ false) script 0 (λ k lt. is_false _ (none k (omega arith) lt))) in
    rw whole (keep-only script some)
lines-cut script (Some k) h some =
    let lt : k < length script = h.0.high in
    let place : position_or_len (λ b. eqb b 10) script ≡ k =
    position_or_len_is (λ b. eqb b 10) script k 0 (omega arith) (λ j below. is_false _ (h.0.before j (omega arith) below)) (λ _. h.1) in
    let within : position_or_len (λ b. eqb b 10) script < length script = omega (arith, place) in
    let parts : slice_split (λ b. eqb b 10) script ≡ take k script ∷ slice_split (λ b. eqb b 10) (drop (k + 1) script) = rw place at (slice_split_first (λ b. eqb b 10) script 0 within) in
    rw (take_rest, parts) (keep-front (take k script) (slice_split (λ b. eqb b 10) (drop (k + 1) script)) (omega (arith, length-slice_split (λ b. eqb b 10) (drop (k + 1) script))))

pub ruleset line_steps = (lines-cut)
