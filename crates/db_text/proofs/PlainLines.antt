-- Printed lines: what counts of each, and that it is one line of ASCII without a comment.
use Rattle.std.proofs.Common.{◌≡◌, ℕ, ◌+◌, ◌<◌, ◌≤◌, ◌&&◌, ◌==◌, Bool, true, false, not, List, [], ◌∷◌, ◌++◌, length, get_or, All, IsUtf8, arith, refl, ap, ◌∙◌, inl, inr}
use Rattle.std.specs.Prelude.{nat_lt}
use Rattle.std.specs.List.{list_all, position_or_len}
use Rattle.std.specs.Str.{IsAscii}
use Rattle.std.proofs.lemmas.Bool.{and_parts, cases_lt, not-true}
use Rattle.std.proofs.lemmas.Bool.Decides.{nat_tests}
use Rattle.std.proofs.lemmas.List.{get_or_past, length-append, take_all}
use Rattle.std.proofs.lemmas.List.Elements.{All-head, All-tail, All-weaker, filter-append}
use Rattle.std.proofs.lemmas.List.Folds.{list_all-append}
use Rattle.std.proofs.lemmas.List.Sums.{AllPass-from_list_all, position_or_len_is}
use Rattle.std.proofs.lemmas.Str.{IsUtf8-from_ascii}
use Rattle.text_lines.specs.Lines.{bare, is_text_blank, solid}
use Rattle.text_lines.specs.Spelling.{IsDigit}

-- a byte of ASCII that is neither a newline nor a `#`
abbrev pub is_plain : ℕ → Bool
is_plain b = nat_lt b 128 && not (b == 10) && not (b == 35)

-- the piece is plain, has at most so many bytes, and these of them aren't blanks
pub record Prints (piece squeezed : List ℕ) (n : ℕ) : Type 0 where
  pub plain : list_all is_plain piece ≡ true
  pub solid : solid piece ≡ squeezed
  pub short : length piece ≤ n

pub both : (a b : Bool) → a ≡ true → b ≡ true → (a && b) ≡ true
both true true p q = refl
both true false p q = q
both false b p q = p

pub joined : (a b p q : List ℕ) (m n k : ℕ) → Prints a p m → Prints b q n → m + n ≤ k → Prints (a ++ b) (p ++ q) k
joined a b p q m n k one two le = record {
  plain = list_all-append is_plain a b ∙ both (list_all is_plain a) (list_all is_plain b) one.plain two.plain;
  solid = filter-append (λ x. not (is_text_blank x)) a b ∙ ap (λ xs. xs ++ solid b) one.solid ∙ ap (λ xs. p ++ xs) two.solid;
  short = let len = length-append a b in let s = one.short in let t = two.short in omega (arith, len, s, t);
}

-- digits and letters
abbrev pub IsSolid : ℕ → Type 0
IsSolid b = (48 ≤ b) × (b ≤ 122)

plain_byte : (b : ℕ) → 48 ≤ b → b ≤ 122 → is_plain b ≡ true
plain_byte b low high = grind (arith, nat_tests)

solid_byte : (b : ℕ) → 48 ≤ b → b ≤ 122 → is_text_blank b ≡ false
solid_byte b low high = grind (arith, nat_tests)

plain_bytes : (bs : List ℕ) → All IsSolid bs → list_all is_plain bs ≡ true
plain_bytes [] each = refl
plain_bytes (b ∷ bs) each =
    let here = All-head IsSolid b bs each in
    both (is_plain b) (list_all is_plain bs) (plain_byte b here.0 here.1) (plain_bytes bs (All-tail IsSolid b bs each))

solid_bytes : (bs : List ℕ) → All IsSolid bs → solid bs ≡ bs
solid_bytes [] each = refl
solid_bytes (b ∷ bs) each =
    let here = All-head IsSolid b bs each in
    rw (solid_byte b here.0 here.1) (ap (λ xs. b ∷ xs) (solid_bytes bs (All-tail IsSolid b bs each)))

pub prints_solid : (bs : List ℕ) (n : ℕ) → All IsSolid bs → length bs ≤ n → Prints bs bs n
prints_solid bs n each short = record { plain = plain_bytes bs each; solid = solid_bytes bs each; short = short }

pub prints_digits : (ds : List ℕ) (n : ℕ) → All IsDigit ds → length ds ≤ n → Prints ds ds n
prints_digits ds n each short = prints_solid ds n (All-weaker IsDigit IsSolid (λ d digit. (digit.0, omega (arith, digit))) ds each) short

-- ---- whole lines

plain_parts : (b : ℕ) → is_plain b ≡ true → (b < 128) × ((b == 10) ≡ false) × ((b == 35) ≡ false)
plain_parts b is =
    let two = and_parts (nat_lt b 128 && not (b == 10)) (not (b == 35)) is in
    let one = and_parts (nat_lt b 128) (not (b == 10)) two.0 in
    (low b one.0, not-true (b == 10) one.1, not-true (b == 35) two.1)
  where
    low : (b : ℕ) → nat_lt b 128 ≡ true → b < 128
    low b t = grind (arith, nat_tests)

-- what counts of a plain line is all that isn't a blank
pub bare_plain : (line squeezed : List ℕ) (n : ℕ) → Prints line squeezed n → bare line ≡ squeezed
bare_plain line squeezed n prints =
    let pass = AllPass-from_list_all is_plain line prints.plain in
    let place : position_or_len (λ b. b == 35) line ≡ length line =
    position_or_len_is (λ b. b == 35) line (length line) 0 (omega arith) (λ k less. (plain_parts (get_or line k 0) (pass k 0 less)).2) (λ less. absurd (omega (arith, less))) in
    rw place (rw (take_all (length line) line (omega arith)) prints.solid)

pub one_line : (line squeezed : List ℕ) (n : ℕ) → Prints line squeezed n → All (λ b. (b == 10) ≡ false) line
one_line line squeezed n prints k d less = (plain_parts (get_or line k d) (AllPass-from_list_all is_plain line prints.plain k d less)).1

pub utf8_plain : (line squeezed : List ℕ) (n : ℕ) → Prints line squeezed n → IsUtf8 line
utf8_plain line squeezed n prints = IsUtf8-from_ascii line (ascii line prints.plain)
  where
    ascii : (line : List ℕ) → list_all is_plain line ≡ true → IsAscii line
    ascii line is i = elim (cases_lt i (length line)) [
      | inl less ↦ (plain_parts (get_or line i 0) (AllPass-from_list_all is_plain line is i 0 less)).0
      | inr past ↦ rw (get_or_past line i 0 past) (omega arith)
    ]
