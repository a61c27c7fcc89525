-- What stands before the first such byte, and what is behind it.
use Rattle.std.proofs.Common.{◌≡◌, ℕ, ◌+◌, ◌-◌, ◌<◌, List, [], ◌∷◌, ◌++◌, Bool, true, false, length, get_or, take, drop, Option, Some, None, refl, ap, ◌∙◌, arith, cond, suc, zero}
use Rattle.std.specs.Prelude.{All, ◌==◌}
use Rattle.std.specs.List.{slice_split, onto_first}
use Rattle.std.proofs.lemmas.Bool.Decides.{nat_tests}
use Rattle.std.proofs.lemmas.List.{take_rest}
use Rattle.std.proofs.lemmas.List.Elements.{All-from_get_or, All-head, All-tail}
use Rattle.std.proofs.lemmas.Option.{same_Some}
use denote.Ref.{Bor}
use Rattle.std.specs.Option.{option_copied}
use Rattle.std.specs.Prelude.{IfSome, MatchOption}
use Rattle.memchr.specs.Find.{IsFirstByte, is_byte}
use Rattle.text_lines.specs.Lines.{text_lines}
use Rattle.text_lines.specs.inner.Reading.{front_of, behind_of, parts_of}

-- ---- by the first byte

test_false : (b byte : ℕ) → (b ≡ byte → ⊥) → (b == byte) ≡ false
test_false b byte h = grind (arith, nat_tests)

pub front_of-found : (byte : ℕ) (bs : List ℕ) → front_of byte (byte ∷ bs) ≡ []
unfolding front_of
front_of-found byte bs = grind (arith, nat_tests)

pub front_of-other : (byte b : ℕ) (bs : List ℕ) → (b ≡ byte → ⊥) → front_of byte (b ∷ bs) ≡ b ∷ front_of byte bs
unfolding front_of
front_of-other byte b bs h = rw (test_false b byte h) refl

pub front_of-end : (byte : ℕ) → front_of byte [] ≡ []
unfolding front_of
front_of-end byte = refl

pub behind_of-found : (byte : ℕ) (bs : List ℕ) → behind_of byte (byte ∷ bs) ≡ Some bs
unfolding behind_of
behind_of-found byte bs = grind (arith, nat_tests)

pub behind_of-other : (byte b : ℕ) (bs : List ℕ) → (b ≡ byte → ⊥) → behind_of byte (b ∷ bs) ≡ behind_of byte bs
unfolding behind_of
behind_of-other byte b bs h = rw (test_false b byte h) refl

pub behind_of-end : (byte : ℕ) → behind_of byte [] ≡ None
unfolding behind_of
behind_of-end byte = refl

-- ---- as parts

-- the list is its front, alone or before the parts of what is behind
pub parts-cut : (byte : ℕ) (bs : List ℕ) → parts_of byte (Some bs) ≡ front_of byte bs ∷ parts_of byte (behind_of byte bs)
unfolding front_of behind_of
parts-cut byte [] = refl
parts-cut byte (b ∷ bs) =
    elim (b == byte) as (λ t. cond t ([] ∷ slice_split (λ x. x == byte) bs) (onto_first b (slice_split (λ x. x == byte) bs)) ≡ cond t [] (b ∷ front_of byte bs) ∷ parts_of byte (cond t (Some bs) (behind_of byte bs))) [
      | true ↦ refl
      | false ↦ rw (parts-cut byte bs) refl
    ]

-- the same, for a cut that was made
pub parts-cut_by : (byte : ℕ) (bs front : List ℕ) (behind : Option (Bor (List ℕ))) → front ≡ front_of byte bs → MatchOption behind (behind_of byte bs ≡ None) (λ rest. behind_of byte bs ≡ Some rest.now) → parts_of byte (Some bs) ≡ front ∷ parts_of byte (option_copied behind)
parts-cut_by byte bs front None is none = parts-cut byte bs ∙ rw (none, ← is) refl
parts-cut_by byte bs front (Some rest) is more = parts-cut byte bs ∙ rw (more, ← is) refl

-- how much is left of a list, with the list itself
abbrev pub size_left : Option (List ℕ) → ℕ
size_left None = 0
size_left (Some bs) = length bs + 1

pub size_left-less : (bs : List ℕ) (behind : Option (Bor (List ℕ))) → IfSome behind (λ rest. length rest.now < length bs) → size_left (option_copied behind) < length bs + 1
size_left-less bs None h = omega arith
size_left-less bs (Some rest) h = omega (arith, h)

-- ---- a front without the byte

pub front_of-again : (byte : ℕ) (xs rest : List ℕ) → All (λ b. b ≡ byte → ⊥) xs → front_of byte (xs ++ byte ∷ rest) ≡ xs
front_of-again byte [] rest lacks = front_of-found byte rest
front_of-again byte (x ∷ xs) rest lacks =
    front_of-other byte x (xs ++ byte ∷ rest) (All-head (λ b. b ≡ byte → ⊥) x xs lacks) ∙ ap (λ (ys : List ℕ). x ∷ ys) (front_of-again byte xs rest (All-tail (λ b. b ≡ byte → ⊥) x xs lacks))

pub behind_of-again : (byte : ℕ) (xs rest : List ℕ) → All (λ b. b ≡ byte → ⊥) xs → behind_of byte (xs ++ byte ∷ rest) ≡ Some rest
behind_of-again byte [] rest lacks = behind_of-found byte rest
behind_of-again byte (x ∷ xs) rest lacks =
    behind_of-other byte x (xs ++ byte ∷ rest) (All-head (λ b. b ≡ byte → ⊥) x xs lacks) ∙ behind_of-again byte xs rest (All-tail (λ b. b ≡ byte → ⊥) x xs lacks)

pub front_of-whole : (byte : ℕ) (xs : List ℕ) → All (λ b. b ≡ byte → ⊥) xs → front_of byte xs ≡ xs
front_of-whole byte [] lacks = front_of-end byte
front_of-whole byte (x ∷ xs) lacks =
    front_of-other byte x xs (All-head (λ b. b ≡ byte → ⊥) x xs lacks) ∙ ap (λ (ys : List ℕ). x ∷ ys) (front_of-whole byte xs (All-tail (λ b. b ≡ byte → ⊥) x xs lacks))

pub behind_of-none : (byte : ℕ) (xs : List ℕ) → All (λ b. b ≡ byte → ⊥) xs → behind_of byte xs ≡ None
behind_of-none byte [] lacks = behind_of-end byte
behind_of-none byte (x ∷ xs) lacks =
    behind_of-other byte x xs (All-head (λ b. b ≡ byte → ⊥) x xs lacks) ∙ behind_of-none byte xs (All-tail (λ b. b ≡ byte → ⊥) x xs lacks)

onto : (byte b : ℕ) (bs rest : List ℕ) (t : Bool) → t ≡ (b == byte) → (behind_of byte bs ≡ Some rest → bs ≡ front_of byte bs ++ byte ∷ rest) → cond t (Some bs) (behind_of byte bs) ≡ Some rest → b ∷ bs ≡ cond t [] (b ∷ front_of byte bs) ++ byte ∷ rest
onto byte b bs rest true is more e =
    let same : bs ≡ rest = same_Some bs rest e in
    let here : b ≡ byte = grind (arith, nat_tests) in
    rw (here, same) refl
onto byte b bs rest false is more e = ap (λ (ys : List ℕ). b ∷ ys) (more e)

-- what stands before the byte and what is behind it are the whole
pub cut-reads : (byte : ℕ) (bs rest : List ℕ) → behind_of byte bs ≡ Some rest → bs ≡ front_of byte bs ++ byte ∷ rest
unfolding front_of behind_of
cut-reads byte [] rest e = absurd cc
cut-reads byte (b ∷ bs) rest e = onto byte b bs rest (b == byte) refl (cut-reads byte bs rest) e

-- ---- lines

-- the lines of a text are what stands before its first newline, and the lines behind it
pub lines-cut : (text front : List ℕ) (behind : Option (Bor (List ℕ))) → front ≡ front_of 10 text → MatchOption behind (behind_of 10 text ≡ None) (λ rest. behind_of 10 text ≡ Some rest.now) → MatchOption behind (text_lines text ≡ front ∷ []) (λ rest. text_lines text ≡ front ∷ text_lines rest.now)
lines-cut text front None is none = parts-cut 10 text ∙ rw (none, ← is) refl
lines-cut text front (Some rest) is more = parts-cut 10 text ∙ rw (more, ← is) refl

-- ---- by the place of the byte

is_false : (b : Bool) → (b ≡ true → ⊥) → b ≡ false
is_false true h = absurd (h refl)
is_false false h = refl

-- a byte that fails the test is another one
other_byte : (byte b : ℕ) → (b == byte) ≡ false → b ≡ byte → ⊥
other_byte byte b is same = grind (arith, nat_tests)

-- what stands before the byte where it stands at place k, and not before
front-place : (byte : ℕ) (bytes : List ℕ) (k : ℕ) → k < length bytes → ((j : ℕ) → j < k → get_or bytes j 0 ≡ byte → ⊥) → get_or bytes k 0 ≡ byte → front_of byte bytes ≡ take k bytes
front-place byte [] k lt before here = absurd (omega arith)
front-place byte (b ∷ bs) zero lt before here = ap (λ x. front_of byte (x ∷ bs)) here ∙ front_of-found byte bs
front-place byte (b ∷ bs) (suc k) lt before here =
    front_of-other byte b bs (before 0 (omega arith)) ∙ ap (λ (ys : List ℕ). b ∷ ys) (front-place byte bs k (omega arith) (λ j below. before (suc j) (omega arith)) here)

-- what is behind it there
behind-place : (byte : ℕ) (bytes : List ℕ) (k : ℕ) → k < length bytes → ((j : ℕ) → j < k → get_or bytes j 0 ≡ byte → ⊥) → get_or bytes k 0 ≡ byte → behind_of byte bytes ≡ Some (drop (suc k) bytes)
behind-place byte [] k lt before here = absurd (omega arith)
behind-place byte (b ∷ bs) zero lt before here = ap (λ x. behind_of byte (x ∷ bs)) here ∙ behind_of-found byte bs
behind-place byte (b ∷ bs) (suc k) lt before here =
    behind_of-other byte b bs (before 0 (omega arith)) ∙ behind-place byte bs k (omega arith) (λ j below. before (suc j) (omega arith)) here

-- a byte that stands at no place is not in the list
lacks-byte : (byte : ℕ) (bytes : List ℕ) → IsFirstByte (is_byte byte) bytes None → All (λ b. b ≡ byte → ⊥) bytes
lacks-byte byte bytes h = All-from_get_or (λ b. b ≡ byte → ⊥) bytes 0 (λ k lt. other_byte byte _ (is_false _ (h k (omega arith) lt)))

same_byte : (byte b : ℕ) → (b == byte) ≡ true → b ≡ byte
same_byte byte b is = grind (arith, nat_tests)

pub front-at : (byte : ℕ) (bytes : List ℕ) (r : Option ℕ) → IsFirstByte (is_byte byte) bytes r → MatchOption r (front_of byte bytes ≡ bytes) (λ k. front_of byte bytes ≡ take k bytes)
front-at byte bytes None h = front_of-whole byte bytes (lacks-byte byte bytes h)
front-at byte bytes (Some k) h =
    front-place byte bytes k h.0.high (λ j below. other_byte byte _ (is_false _ (h.0.before j (omega arith) below))) (same_byte byte _ h.1)

plus_one : (k : ℕ) → k + 1 ≡ suc k
plus_one k = omega arith

pub behind-at : (byte : ℕ) (bytes : List ℕ) (r : Option ℕ) → IsFirstByte (is_byte byte) bytes r → MatchOption r (behind_of byte bytes ≡ None) (λ k. behind_of byte bytes ≡ Some (take (length bytes - (k + 1)) (drop (k + 1) bytes)))
behind-at byte bytes None h = behind_of-none byte bytes (lacks-byte byte bytes h)
behind-at byte bytes (Some k) h =
    rw (take_rest, plus_one k) (behind-place byte bytes k h.0.high (λ j below. other_byte byte _ (is_false _ (h.0.before j (omega arith) below))) (same_byte byte _ h.1))

pub ruleset cut_steps = (front-at, behind-at)
