-- What is read as a byte or a word is spelled so, and what is spelled so is read.
use Rattle.std.proofs.Common.{◌≡◌, ℕ, ◌+◌, ◌<◌, ◌≤◌, List, [], ◌∷◌, ◌++◌, length, get_or, drop, Option, Some, None, refl, ap, ◌∙◌, append-nil, arith, subst}
use Rattle.std.proofs.lemmas.Bool.Decides.{nat_tests}
use Rattle.std.proofs.lemmas.List.{at_drop_more, at_drop_all}
use Rattle.std.specs.Prelude.{Bool, true, false, MatchOption, cond}
use Rattle.std.proofs.lemmas.Option.{same_Some}
use Rattle.std.proofs.lemmas.Slice.Eq.{bytes_eq-Decides}
use Rattle.reg_base.specs.Texts.{same_bytes}
use Rattle.reg_base.specs.Texts.{◌>>=◌}
use Rattle.text_lines.specs.inner.Reading.{after_byte, after_word, begins_with, is_there}

-- the value of a step that went on
pub bind_some : {A B : Type 0} (o : Option A) (f : A → Option B) (y : B) → (o >>= f) ≡ Some y → (x : A) × (o ≡ Some x) × (f x ≡ Some y)
bind_some (Some x) f y e = (x, refl, e)
bind_some None f y e = absurd cc

pub after_byte-reads : (byte : ℕ) (bs rest : List ℕ) → after_byte byte bs ≡ Some rest → bs ≡ byte ∷ rest
unfolding after_byte
after_byte-reads byte [] rest e = absurd cc
after_byte-reads byte (b ∷ bs) rest e = grind (arith, nat_tests)

pub after_byte-again : (byte : ℕ) (rest : List ℕ) → after_byte byte (byte ∷ rest) ≡ Some rest
unfolding after_byte
after_byte-again byte rest = grind (arith, nat_tests)

pub after_word-reads : (word bs rest : List ℕ) → after_word word bs ≡ Some rest → bs ≡ word ++ rest
unfolding after_word
after_word-reads [] bs rest e = cc
after_word-reads (byte ∷ word) bs rest e =
    let b = bind_some (after_byte byte bs) (after_word word) rest e in
    after_byte-reads byte bs b.0 b.1 ∙ ap (λ (xs : List ℕ). byte ∷ xs) (after_word-reads word b.0 rest b.2)

pub after_word-again : (word rest : List ℕ) → after_word word (word ++ rest) ≡ Some rest
unfolding after_word
after_word-again [] rest = refl
after_word-again (byte ∷ word) rest = rw (after_byte-again byte (word ++ rest)) (after_word-again word rest)

-- ---- a word from a place on

pub after_word-drop : (word : List ℕ) (i : ℕ) (bs : List ℕ) → i < length word → after_word (drop i word) bs ≡ (after_byte (get_or word i 0) bs >>= after_word (drop (i + 1) word))
unfolding after_word
after_word-drop word i bs lt = at_drop_more (λ w. after_word w bs) word i 0 lt

pub after_word-drop_some : (word : List ℕ) (i : ℕ) (bs rest : List ℕ) → i < length word → after_byte (get_or word i 0) bs ≡ Some rest → after_word (drop i word) bs ≡ after_word (drop (i + 1) word) rest
after_word-drop_some word i bs rest lt e = after_word-drop word i bs lt ∙ rw e refl

pub after_word-drop_none : (word : List ℕ) (i : ℕ) (bs : List ℕ) → i < length word → after_byte (get_or word i 0) bs ≡ None → after_word (drop i word) bs ≡ None
after_word-drop_none word i bs lt e = after_word-drop word i bs lt ∙ rw e refl

pub after_word-drop_end : (word : List ℕ) (i : ℕ) (bs : List ℕ) → length word ≤ i → after_word (drop i word) bs ≡ Some bs
unfolding after_word
after_word-drop_end word i bs le = at_drop_all (λ w. after_word w bs) word i le

pub ruleset steps = (after_word-drop_some, after_word-drop_none, after_word-drop_end)

-- ---- a word that is the whole

pub after_word-whole : (word bs rest : List ℕ) → after_word word bs ≡ Some rest → rest ≡ [] → bs ≡ word
after_word-whole word bs rest e end = after_word-reads word bs rest e ∙ rw (end, append-nil)

pub after_word-long : (word bs : List ℕ) → bs ≡ word → after_word word bs ≡ Some []
after_word-long word bs e = let again : after_word word (word ++ []) ≡ Some [] = after_word-again word [] in rw e (rw append-nil at again)

pub ruleset whole = (after_word-whole, after_word-long)

-- ---- tests

pub begins_with-reads : (word bs : List ℕ) → begins_with word bs ≡ true → (rest : List ℕ) × (bs ≡ word ++ rest)
begins_with-reads word bs t = found (after_word word bs) (after_word-reads word bs) t
  where
    found : (o : Option (List ℕ)) → ((rest : List ℕ) → o ≡ Some rest → bs ≡ word ++ rest) → is_there o ≡ true → (rest : List ℕ) × (bs ≡ word ++ rest)
    found None h t = absurd cc
    found (Some rest) h t = (rest, h rest refl)

pub begins_with-again : (word rest : List ℕ) → begins_with word (word ++ rest) ≡ true
begins_with-again word rest = ap is_there (after_word-again word rest)

pub same_bytes-reads : (xs ys : List ℕ) → same_bytes xs ys ≡ true → xs ≡ ys
same_bytes-reads xs ys = (bytes_eq-Decides xs ys).0

pub same_bytes-again : (xs ys : List ℕ) → xs ≡ ys → same_bytes xs ys ≡ true
same_bytes-again xs ys = (bytes_eq-Decides xs ys).1

-- ---- a choice between tests

-- what is chosen has what each choice has
pub chosen : {A : Type 0} (P : A → Type 0) (b : Bool) (x : A) (o : Option A) (y : A) → (b ≡ true → P x) → (o ≡ Some y → P y) → cond b (Some x) o ≡ Some y → P y
chosen P true x o y h k e = subst P (same_Some x y e) (h refl)
chosen P false x o y h k e = k e

-- what a result tells, where each of its cases tells it
pub match_then : {A P Q : Type 0} (r : Option A) (F G : A → Type 0) → (P → Q) → ((x : A) → F x → G x) → MatchOption r P F → MatchOption r Q G
match_then None F G h k m = h m
match_then (Some x) F G h k m = k x m

-- an option, with what it is
pub known : {A B : Type 0} (o : Option A) → (o ≡ None → B) → ((x : A) → o ≡ Some x → B) → B
known None h k = h refl
known (Some x) h k = k x refl
