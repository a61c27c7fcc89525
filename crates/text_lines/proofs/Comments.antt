-- What stands before a comment, by the place of the first `#`.
use Rattle.std.proofs.Common.{◌≡◌, ℕ, ◌<◌, List, Bool, eqb, true, false, length, take, Option, Some, None, refl, arith, le_refl}
use Rattle.std.specs.Prelude.{MatchOption}
use Rattle.std.proofs.lemmas.List.{take_all}
use Rattle.std.specs.List.{position_or_len}
use Rattle.std.proofs.lemmas.List.Sums.{position_or_len_is}
use Rattle.memchr.specs.Find.{IsFirstByte, is_byte}
use Rattle.text_lines.specs.Lines.{without_comment}

is_false : (b : Bool) → (b ≡ true → ⊥) → b ≡ false
is_false true h = absurd (h refl)
is_false false h = refl

pub without_comment-at : (line : List ℕ) (r : Option ℕ) → IsFirstByte (is_byte 35) line r → MatchOption r (without_comment line ≡ line) (λ k. without_comment line ≡ take k line)
without_comment-at line None h =
    let place : position_or_len (λ b. eqb b 35) line ≡ length line =
    position_or_len_is (λ b. eqb b 35) line (length line) 0 (le_refl _) (λ k lt. is_false _ (h k (omega arith) lt)) (λ lt. absurd (omega arith)) in
    rw place (take_all _ _ (le_refl _))
without_comment-at line (Some k) h =
    let lt : k < length line = h.0.high in
    let place : position_or_len (λ b. eqb b 35) line ≡ k =
    position_or_len_is (λ b. eqb b 35) line k 0 (omega arith) (λ j below. is_false _ (h.0.before j (omega arith) below)) (λ _. h.1) in
    rw place refl

pub ruleset steps = (without_comment-at)
