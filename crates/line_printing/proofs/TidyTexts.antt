-- A text whose words stand apart by one blank is these words, joined.
use Rattle.std.proofs.Common.{◌≡◌, ℕ, ◌≤◌, inl, inr, Bool, true, false, ◌&&◌, ◌||◌, List, [], ◌∷◌, ◌++◌, length, refl, ap, ◌∙◌, subst, arith, append_assoc}
use Rattle.std.specs.Prelude.{◌==◌, cond}
use Rattle.std.specs.List.{list_all}
use Rattle.std.proofs.lemmas.Bool.{and_parts, cases_eq, eq-eqb, ne_eqb}
use Rattle.std.proofs.lemmas.Bool.Decides.{nat_tests}
use Rattle.line_printing.proofs.JoinedWords.{AreSolid, both, joined, shows}

-- Behind a blank, or not: each blank stands between bytes that show.
abbrev pub is_tidy : Bool → List ℕ → Bool
is_tidy behind [] = cond behind false true
is_tidy true (b ∷ bs) = shows b && is_tidy false bs
is_tidy false (b ∷ bs) = (b == 32 || shows b) && is_tidy (b == 32) bs

-- the text up to its next blank, and the words behind it
pub record Parted (behind : Bool) (text : List ℕ) : Type 0 where
  pub front : List ℕ
  pub words : List (List ℕ)
  pub spelled : text ≡ joined (front ∷ words)
  pub shown : list_all shows front ≡ true
  pub are : AreSolid words
  pub some : behind ≡ true → 1 ≤ length front

shown-front : (behind : Bool) (b : ℕ) (bs : List ℕ) → shows b ≡ true → Parted false bs → Parted behind (b ∷ bs)
shown-front behind b bs is parted = record {
  front = b ∷ parted.front;
  words = parted.words;
  spelled = ap (λ (l : List ℕ). b ∷ l) parted.spelled;
  shown = both (shows b) (list_all shows parted.front) is parted.shown;
  are = parted.are;
  some = λ _. omega arith;
}

blank-front : (b : ℕ) (bs : List ℕ) → b ≡ 32 → Parted true bs → Parted false (b ∷ bs)
blank-front b bs is parted = record {
  front = [];
  words = parted.front ∷ parted.words;
  spelled = ap (λ n. n ∷ bs) is ∙ ap (λ (l : List ℕ). 32 ∷ l) parted.spelled;
  shown = refl;
  are = (record { some = parted.some refl; shown = parted.shown }, parted.are);
  some = λ e. absurd cc;
}

pub parted : (behind : Bool) (text : List ℕ) → is_tidy behind text ≡ true → Parted behind text
parted true [] is = absurd cc
parted false [] is = record { front = []; words = []; spelled = refl; shown = refl; are = tt; some = λ e. absurd cc }
parted true (b ∷ bs) is =
    let parts = and_parts (shows b) (is_tidy false bs) is in
    shown-front true b bs parts.0 (parted false bs parts.1)
parted false (b ∷ bs) is = elim (cases_eq b 32) [
  | inl blank ↦
      blank-front b bs blank (parted true bs (subst (λ c. is_tidy c bs ≡ true) (eq-eqb b 32 blank) (and_parts (b == 32 || shows b) (is_tidy (b == 32) bs) is).1))
  | inr other ↦
      let no : (b == 32) ≡ false = ne_eqb b 32 other in
      let parts = and_parts (b == 32 || shows b) (is_tidy (b == 32) bs) is in
      shown-front false b bs (subst (λ c. (c || shows b) ≡ true) no parts.0) (parted false bs (subst (λ c. is_tidy c bs ≡ true) no parts.1))
]

-- ---- texts of pieces

shown-more : (b : ℕ) (rest : List ℕ) → shows b ≡ true → is_tidy false (b ∷ rest) ≡ is_tidy false rest
shown-more b rest is =
    let no : (b == 32) ≡ false = grind (arith, nat_tests) in
    rw (no, is) refl

-- a piece that shows can stand anywhere
pub piece-false : (piece rest : List ℕ) → list_all shows piece ≡ true → is_tidy false (piece ++ rest) ≡ is_tidy false rest
piece-false [] rest is = refl
piece-false (b ∷ bs) rest is =
    let parts = and_parts (shows b) (list_all shows bs) is in
    shown-more b (bs ++ rest) parts.0 ∙ piece-false bs rest parts.1

pub piece-true : (piece rest : List ℕ) → list_all shows piece ≡ true → 1 ≤ length piece → is_tidy true (piece ++ rest) ≡ is_tidy false rest
piece-true [] rest is some = absurd (omega arith)
piece-true (b ∷ bs) rest is some =
    let parts = and_parts (shows b) (list_all shows bs) is in
    rw parts.0 (piece-false bs rest parts.1)

-- the piece leads from the one state to the other
abbrev pub Goes : Bool → List ℕ → Bool → Type 0
Goes one piece other = (rest : List ℕ) → is_tidy one (piece ++ rest) ≡ is_tidy other rest

pub goes : (f g h : Bool) (a b : List ℕ) → Goes f a g → Goes g b h → Goes f (a ++ b) h
goes f g h a b one two rest = ap (is_tidy f) (append_assoc a b rest) ∙ one (b ++ rest) ∙ two rest
