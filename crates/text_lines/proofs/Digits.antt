-- The digits that stand first, and what is behind them.
use Rattle.std.proofs.Common.{◌≡◌, ℕ, ◌+◌, ◌-◌, ◌<◌, ◌≤◌, List, [], ◌∷◌, ◌++◌, Bool, true, false, length, get_or, take, drop, Some, refl, ap, ◌∙◌, sym, arith, append_assoc, append-nil, rules, inl, inr, ◌⊎◌}
use Rattle.std.specs.Char.{is_ascii_digit}
use Rattle.std.specs.Prelude.{All}
use Rattle.std.proofs.lemmas.Bool.Decides.{nat_tests}
use Rattle.std.proofs.lemmas.List.{at_drop_more, at_drop_all, take_rest, take_all, take_more}
use Rattle.std.proofs.lemmas.List.Elements.{All-cons, All-head, All-tail}
use Rattle.std.proofs.lemmas.Option.{some_pair_parts}
use Rattle.text_lines.specs.inner.Reading.{behind_digits, digits_of, is_digit, digits_at, some_digits}
use Rattle.text_lines.specs.Spelling.{IsDigit, IsNumber}

-- ---- by the first byte

pub digit-is : (b : ℕ) → is_digit b ≡ true → IsDigit b
digit-is b h = grind (arith, nat_tests)

pub is-digit : (b : ℕ) → IsDigit b → is_digit b ≡ true
is-digit b h = grind (arith, nat_tests)

ascii-digit : (b : ℕ) → is_ascii_digit b ≡ true → is_digit b ≡ true
ascii-digit b h = grind (arith, nat_tests)

ascii-other : (b : ℕ) → is_ascii_digit b ≡ false → is_digit b ≡ false
ascii-other b h = grind (arith, nat_tests)

pub digits_of-digit : (b : ℕ) (bs : List ℕ) → is_digit b ≡ true → digits_of (b ∷ bs) ≡ b ∷ digits_of bs
unfolding digits_of
digits_of-digit b bs h = rw h refl

pub digits_of-other : (b : ℕ) (bs : List ℕ) → is_digit b ≡ false → digits_of (b ∷ bs) ≡ []
unfolding digits_of
digits_of-other b bs h = rw h refl

pub digits_of-end : digits_of [] ≡ []
unfolding digits_of
digits_of-end = refl

pub behind_digits-digit : (b : ℕ) (bs : List ℕ) → is_digit b ≡ true → behind_digits (b ∷ bs) ≡ behind_digits bs
unfolding behind_digits
behind_digits-digit b bs h = rw h refl

pub behind_digits-other : (b : ℕ) (bs : List ℕ) → is_digit b ≡ false → behind_digits (b ∷ bs) ≡ b ∷ bs
unfolding behind_digits
behind_digits-other b bs h = rw h refl

pub behind_digits-end : behind_digits [] ≡ []
unfolding behind_digits
behind_digits-end = refl

-- ---- from a place on

pub digits-more : (bytes : List ℕ) (i : ℕ) → i < length bytes → is_ascii_digit (get_or bytes i 0) ≡ true → take (i + 1) bytes ++ digits_of (drop (i + 1) bytes) ≡ take i bytes ++ digits_of (drop i bytes)
digits-more bytes i lt digit =
    let here : digits_of (drop i bytes) ≡ get_or bytes i 0 ∷ digits_of (drop (i + 1) bytes) = at_drop_more digits_of bytes i 0 lt ∙ digits_of-digit (get_or bytes i 0) (drop (i + 1) bytes) (ascii-digit (get_or bytes i 0) digit) in
    rw (take_more bytes i 0 lt, here) (append_assoc (take i bytes) (get_or bytes i 0 ∷ []) (digits_of (drop (i + 1) bytes)))

pub digits-here : (bytes : List ℕ) (i : ℕ) → i < length bytes → is_ascii_digit (get_or bytes i 0) ≡ false → take i bytes ++ digits_of (drop i bytes) ≡ take i bytes
digits-here bytes i lt other =
    let none : digits_of (drop i bytes) ≡ [] = at_drop_more digits_of bytes i 0 lt ∙ digits_of-other (get_or bytes i 0) (drop (i + 1) bytes) (ascii-other (get_or bytes i 0) other) in
    rw none (append-nil _)

pub digits-end : (bytes : List ℕ) (i : ℕ) → length bytes ≤ i → take i bytes ++ digits_of (drop i bytes) ≡ bytes
digits-end bytes i le =
    let none : digits_of (drop i bytes) ≡ [] = at_drop_all digits_of bytes i le ∙ digits_of-end in
    rw (none, take_all i bytes le) (append-nil _)

pub behind-more : (bytes : List ℕ) (i : ℕ) → i < length bytes → is_ascii_digit (get_or bytes i 0) ≡ true → behind_digits (drop i bytes) ≡ behind_digits (drop (i + 1) bytes)
behind-more bytes i lt digit = at_drop_more behind_digits bytes i 0 lt ∙ behind_digits-digit (get_or bytes i 0) (drop (i + 1) bytes) (ascii-digit (get_or bytes i 0) digit)

pub behind-here : (bytes : List ℕ) (i : ℕ) → i < length bytes → is_ascii_digit (get_or bytes i 0) ≡ false → behind_digits (drop i bytes) ≡ take (length bytes - i) (drop i bytes)
behind-here bytes i lt other = rw take_rest (at_drop_more behind_digits bytes i 0 lt ∙ behind_digits-other (get_or bytes i 0) (drop (i + 1) bytes) (ascii-other (get_or bytes i 0) other) ∙ sym (at_drop_more (λ (xs : List ℕ). xs) bytes i 0 lt))

pub behind-end : (bytes : List ℕ) (i : ℕ) → length bytes ≤ i → behind_digits (drop i bytes) ≡ []
behind-end bytes i le = at_drop_all behind_digits bytes i le ∙ behind_digits-end

pub ruleset steps = (digits-more, digits-here, digits-end, behind-more, behind-here, behind-end)

-- ---- read, then spelled

true_or_false : (b : Bool) → (b ≡ true) ⊎ (b ≡ false)
true_or_false true = inl refl
true_or_false false = inr refl

no_digits : All IsDigit []
no_digits = search rules

pub digits_of-each : (bs : List ℕ) → All IsDigit (digits_of bs)
digits_of-each [] = rw digits_of-end no_digits
digits_of-each (b ∷ bs) =
    elim (true_or_false (is_digit b)) [
      | inl digit ↦ rw (digits_of-digit b bs digit) (All-cons IsDigit b (digits_of bs) (digit-is b digit) (digits_of-each bs))
      | inr other ↦ rw (digits_of-other b bs other) no_digits
    ]

pub digits-parts : (bs : List ℕ) → bs ≡ digits_of bs ++ behind_digits bs
digits-parts [] = rw (digits_of-end, behind_digits-end) refl
digits-parts (b ∷ bs) =
    elim (true_or_false (is_digit b)) [
      | inl digit ↦ rw (digits_of-digit b bs digit, behind_digits-digit b bs digit) (ap (λ (xs : List ℕ). b ∷ xs) (digits-parts bs))
      | inr other ↦ rw (digits_of-other b bs other, behind_digits-other b bs other) refl
    ]

pub record ReadsNumber (bs digits rest : List ℕ) : Type 0 where
  pub number : IsNumber digits
  pub parts : bs ≡ digits ++ rest

some_digits-reads : (bs ds behind digits rest : List ℕ) → All IsDigit ds → bs ≡ ds ++ behind → some_digits ds behind ≡ Some (digits, rest) → ReadsNumber bs digits rest
some_digits-reads bs [] behind digits rest each parts e = absurd cc
some_digits-reads bs (d ∷ ds) behind digits rest each parts e =
    let p = some_pair_parts (d ∷ ds) digits behind rest e in
    record { number = rw (← p.0) (record { some = omega arith; each = each }); parts = parts ∙ rw (← p.0, ← p.1) refl }

pub number_at-reads : (bs digits rest : List ℕ) → digits_at bs ≡ Some (digits, rest) → ReadsNumber bs digits rest
unfolding digits_at
number_at-reads bs digits rest e = some_digits-reads bs (digits_of bs) (behind_digits bs) digits rest (digits_of-each bs) (digits-parts bs) e

-- ---- spelled, then read

-- no digit stands first
abbrev pub NoDigit : List ℕ → Type 0
NoDigit [] = Unit {0}
NoDigit (b ∷ bs) = is_digit b ≡ false

pub digits_of-rest : (rest : List ℕ) → NoDigit rest → digits_of rest ≡ []
digits_of-rest [] h = digits_of-end
digits_of-rest (b ∷ bs) h = digits_of-other b bs h

pub behind_digits-rest : (rest : List ℕ) → NoDigit rest → behind_digits rest ≡ rest
behind_digits-rest [] h = behind_digits-end
behind_digits-rest (b ∷ bs) h = behind_digits-other b bs h

pub digits_of-again : (digits rest : List ℕ) → All IsDigit digits → NoDigit rest → digits_of (digits ++ rest) ≡ digits
digits_of-again [] rest each h = digits_of-rest rest h
digits_of-again (d ∷ ds) rest each h =
    digits_of-digit d (ds ++ rest) (is-digit d (All-head IsDigit d ds each)) ∙ ap (λ (xs : List ℕ). d ∷ xs) (digits_of-again ds rest (All-tail IsDigit d ds each) h)

pub behind_digits-again : (digits rest : List ℕ) → All IsDigit digits → NoDigit rest → behind_digits (digits ++ rest) ≡ rest
behind_digits-again [] rest each h = behind_digits-rest rest h
behind_digits-again (d ∷ ds) rest each h =
    behind_digits-digit d (ds ++ rest) (is-digit d (All-head IsDigit d ds each)) ∙ behind_digits-again ds rest (All-tail IsDigit d ds each) h

some_digits-again : (digits rest : List ℕ) → 0 < length digits → some_digits digits rest ≡ Some (digits, rest)
some_digits-again [] rest some = absurd (omega arith)
some_digits-again (d ∷ ds) rest some = refl

pub number_at-again : (digits rest : List ℕ) → IsNumber digits → NoDigit rest → digits_at (digits ++ rest) ≡ Some (digits, rest)
unfolding digits_at
number_at-again digits rest h none = rw (digits_of-again digits rest h.each none, behind_digits-again digits rest h.each none) (some_digits-again digits rest h.some)
