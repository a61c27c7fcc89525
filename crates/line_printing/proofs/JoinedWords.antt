-- Words that are joined by blanks are the words of what they give.
use Rattle.std.proofs.Common.{◌≡◌, ℕ, ◌≤◌, inl, Bool, true, false, ◌&&◌, List, [], ◌∷◌, ◌++◌, length, All, refl, ap, ◌∙◌, sym, subst, arith}
use Rattle.std.specs.Prelude.{nat_le, not, filter}
use Rattle.std.specs.List.{flat_map, list_all, slice_split}
use Rattle.std.proofs.lemmas.Bool.{and_parts}
use Rattle.std.proofs.lemmas.Bool.Decides.{nat_tests}
use Rattle.std.proofs.lemmas.List.Elements.{All-weaker}
use Rattle.std.proofs.lemmas.List.Folds.{list_all-append}
use Rattle.std.proofs.lemmas.List.Splits.{slice_split_at, slice_split_none}
use Rattle.std.proofs.lemmas.List.Sums.{AllPass-from_list_all}
use Rattle.line_forms.specs.Lines.{IsLineByte}
use Rattle.line_forms.specs.Words.{is_empty, is_line_blank, words_of}

-- words parted by one blank
abbrev pub joined : List (List ℕ) → List ℕ
joined [] = []
joined (word ∷ words) = word ++ flat_map (λ next. 32 ∷ next) words

-- the byte shows in ASCII
abbrev pub shows : ℕ → Bool
shows b = nat_le 33 b && nat_le b 126

-- the word has bytes, and all of them show
pub record IsSolid (word : List ℕ) : Type 0 where
  pub some : 1 ≤ length word
  pub shown : list_all shows word ≡ true

abbrev pub AreSolid : List (List ℕ) → Type 0
AreSolid [] = Unit {0}
AreSolid (word ∷ words) = IsSolid word × AreSolid words

pub both : (a b : Bool) → a ≡ true → b ≡ true → (a && b) ≡ true
both true true one two = refl
both true false one two = two
both false b one two = one

-- ---- the words

no-blank : (b : ℕ) → shows b ≡ true → is_line_blank b ≡ false
no-blank b is = grind (arith, nat_tests)

no-blanks : (word : List ℕ) → list_all shows word ≡ true → All (λ b. is_line_blank b ≡ false) word
no-blanks word is = All-weaker (λ b. shows b ≡ true) (λ b. is_line_blank b ≡ false) no-blank word (AllPass-from_list_all shows word is)

kept : (word : List ℕ) (parts : List (List ℕ)) → 1 ≤ length word → filter (λ part. not (is_empty part)) (word ∷ parts) ≡ word ∷ filter (λ part. not (is_empty part)) parts
kept [] parts some = absurd (omega arith)
kept (b ∷ bs) parts some = refl

one-word : (word : List ℕ) → IsSolid word → words_of word ≡ word ∷ []
one-word word is = rw (slice_split_none is_line_blank word (no-blanks word is.shown)) (kept word [] is.some)

first-word : (word rest : List ℕ) → IsSolid word → words_of (word ++ 32 ∷ rest) ≡ word ∷ words_of rest
first-word word rest is = rw (slice_split_at is_line_blank word 32 rest (no-blanks word is.shown) refl) (kept word (slice_split is_line_blank rest) is.some)

pub append-none : (xs : List ℕ) → xs ++ [] ≡ xs
append-none [] = refl
append-none (x ∷ xs) = ap (λ (l : List ℕ). x ∷ l) (append-none xs)

pub words-again : (word : List ℕ) (words : List (List ℕ)) → IsSolid word → AreSolid words → words_of (joined (word ∷ words)) ≡ word ∷ words
words-again word [] is are = subst (λ l. words_of l ≡ word ∷ []) (sym (append-none word)) (one-word word is)
words-again word (next ∷ words) is (here, behind) =
    first-word word (joined (next ∷ words)) is ∙ ap (λ (ws : List (List ℕ)). word ∷ ws) (words-again next words here behind)

-- ---- the bytes

abbrev pub in_line : ℕ → Bool
in_line b = nat_le 32 b && nat_le b 126

shown-in_line : (b : ℕ) → shows b ≡ true → in_line b ≡ true
shown-in_line b is = grind (arith, nat_tests)

word-in_line : (word : List ℕ) → list_all shows word ≡ true → list_all in_line word ≡ true
word-in_line [] is = refl
word-in_line (b ∷ bs) is = let parts = and_parts (shows b) (list_all shows bs) is in both (in_line b) (list_all in_line bs) (shown-in_line b parts.0) (word-in_line bs parts.1)

behind-in_line : (words : List (List ℕ)) → AreSolid words → list_all in_line (flat_map (λ next. 32 ∷ next) words) ≡ true
behind-in_line [] are = refl
behind-in_line (word ∷ words) (here, behind) =
    list_all-append in_line word (flat_map (λ next. 32 ∷ next) words)
    ∙ both (list_all in_line word) (list_all in_line (flat_map (λ next. 32 ∷ next) words)) (word-in_line word here.shown) (behind-in_line words behind)

line_byte : (b : ℕ) → in_line b ≡ true → IsLineByte b
line_byte b is = inl (grind (arith, nat_tests), grind (arith, nat_tests))

pub joined-bytes : (word : List ℕ) (words : List (List ℕ)) → IsSolid word → AreSolid words → All IsLineByte (joined (word ∷ words))
joined-bytes word words is are =
    All-weaker (λ b. in_line b ≡ true) IsLineByte line_byte (joined (word ∷ words))
    (AllPass-from_list_all in_line (joined (word ∷ words))
    (list_all-append in_line word (flat_map (λ next. 32 ∷ next) words)
    ∙ both (list_all in_line word) (list_all in_line (flat_map (λ next. 32 ∷ next) words)) (word-in_line word is.shown) (behind-in_line words are)))
