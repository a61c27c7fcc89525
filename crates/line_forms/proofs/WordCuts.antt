-- Words, by the places at which they are cut.
use Rattle.std.proofs.Common.{◌≡◌, ℕ, ◌+◌, ◌-◌, ◌<◌, ◌≤◌, List, [], ◌∷◌, true, false, eqb, length, get_or, take, drop, suc, zero, Some, None, refl, ap, ◌∙◌, sym, arith, add-zero, inl, inr}
use Rattle.std.specs.Prelude.{filter, not}
use Rattle.std.specs.List.{slice_split, position_or_len}
use Rattle.std.proofs.lemmas.Bool.{cases_lt, eqb-true}
use Rattle.std.proofs.lemmas.Bool.Decides.{nat_tests}
use Rattle.std.proofs.lemmas.Grind.{common_steps}
use Rattle.std.proofs.lemmas.List.{at_drop_more, get_or-drop, length-drop, take_all, take_rest, drop_all}
use Rattle.std.proofs.lemmas.List.Elements.{All-from_get_or}
use Rattle.std.proofs.lemmas.List.Sums.{position_or_len_is}
use Rattle.std.proofs.lemmas.List.Splits.{slice_split_first, slice_split_none}
use Rattle.std.proofs.lemmas.Option.{some_pair_parts}
use Rattle.line_forms.specs.inner.Cursor.{AreFirst, next_word}
use Rattle.line_forms.specs.Words.{is_line_blank, is_empty, words_of}

-- ---- words

-- blanks at the front are dropped
words-behind : (line : List ℕ) (n : ℕ) → n ≤ length line → ((k : ℕ) → k < n → is_line_blank (get_or line k 0) ≡ true) → words_of line ≡ words_of (drop n line)
words-behind line zero le each = refl
words-behind [] (suc n) le each = absurd (omega arith)
words-behind (b ∷ bs) (suc n) le each =
    let blank : is_line_blank b ≡ true = each 0 (omega arith) in
    let rest : words_of bs ≡ words_of (drop n bs) = words-behind bs n (omega arith) (λ k lt. each (suc k) (omega arith)) in
    rw blank rest

kept : (word : List ℕ) (parts : List (List ℕ)) → 0 < length word → filter (λ part. not (is_empty part)) (word ∷ parts) ≡ word ∷ filter (λ part. not (is_empty part)) parts
kept [] parts some = absurd (omega arith)
kept (b ∷ bs) parts some = refl

words-up_to : (line : List ℕ) (n : ℕ) → 0 < n → n < length line → AreFirst false line n → words_of line ≡ take n line ∷ words_of (drop n line)
words-up_to line n some lt first =
    let place : position_or_len is_line_blank line ≡ n = position_or_len_is is_line_blank line n 0 first.within first.each first.no_more in
    let within : position_or_len is_line_blank line < length line = omega (arith, place) in
    let parts : slice_split is_line_blank line ≡ take n line ∷ slice_split is_line_blank (drop (n + 1) line) = rw place at (slice_split_first is_line_blank line 0 within) in
    let blank : is_line_blank (get_or line n 0) ≡ true = first.no_more lt in
    let rest : words_of (drop n line) ≡ words_of (drop (n + 1) line) = at_drop_more words_of line n 0 lt ∙ rw blank refl in
    let size : 0 < length (take n line) = grind (arith, common_steps) in
    rw (rest, parts) (kept (take n line) (slice_split is_line_blank (drop (n + 1) line)) size)

words-whole : (line : List ℕ) → 0 < length line → ((k : ℕ) → k < length line → is_line_blank (get_or line k 0) ≡ false) → words_of line ≡ line ∷ []
words-whole line some each =
    rw (slice_split_none is_line_blank line (All-from_get_or (λ b. is_line_blank b ≡ false) line 0 each)) (kept line [] some)

-- bytes that aren't blanks, up to a blank or the end, are the first word
words-first : (line : List ℕ) (n : ℕ) → 0 < n → AreFirst false line n → words_of line ≡ take n line ∷ words_of (drop n line)
words-first line n some first =
    elim (cases_lt n (length line)) [
      | inl lt ↦ words-up_to line n some lt first
      | inr le ↦
          let within : n ≤ length line = first.within in
          rw (take_all n line le, drop_all n line le) (words-whole line (omega arith) (λ k lt. first.each k (omega arith)))
    ]

pub words-none : (line : List ℕ) (start : ℕ) → AreFirst true line start → eqb (length (take (length line - start) (drop start line))) 0 ≡ true → next_word (words_of line) ≡ None
words-none line start first none =
    let size : length (take (length line - start) (drop start line)) ≡ length line - start = ap length (take_rest line start) ∙ length-drop start line in
    let zero_size : length (take (length line - start) (drop start line)) ≡ 0 = eqb-true _ 0 none in
    let le : length line ≤ start = omega arith in
    let e : words_of line ≡ words_of (drop start line) = words-behind line start first.within first.each in
    rw (e, drop_all start line le) refl

pub words-taken : (line rest : List ℕ) (start end : ℕ) → rest ≡ take (length line - start) (drop start line) → AreFirst true line start → eqb (length rest) 0 ≡ false → AreFirst false rest end →
    next_word (words_of line) ≡ Some (take end rest, words_of (take (length rest - end) (drop end rest)))
words-taken line rest start end is first some second =
    let same : rest ≡ drop start line = is ∙ take_rest line start in
    let size : length rest ≡ length line - start = ap length same ∙ length-drop start line in
    let sized : 0 < length rest = grind (arith, nat_tests) in
    let solid : is_line_blank (get_or rest 0 0) ≡ false =
    rw same (rw (get_or-drop start line 0 0, add-zero start) (first.no_more (omega arith))) in
    let begun : 0 < end = elim (cases_lt 0 end) [
      | inl lt ↦ lt
      | inr le ↦
          let none : end ≡ 0 = omega arith in
          let blank : is_line_blank (get_or rest 0 0) ≡ true = rw none at (second.no_more (omega arith)) in
          absurd cc
    ] in
    let e : words_of line ≡ words_of rest = words-behind line start first.within first.each ∙ ap words_of (sym same) in
    rw (e, words-first rest end begun second, take_rest) refl

-- ---- without the first word

pub skip-none : (ws : List (List ℕ)) → next_word ws ≡ None → ws ≡ drop 1 ws
skip-none [] e = refl
skip-none (w ∷ ws) e = absurd cc

pub skip-some : (ws rest : List (List ℕ)) (w : List ℕ) → next_word ws ≡ Some (w, rest) → rest ≡ drop 1 ws
skip-some [] rest w e = absurd cc
skip-some (v ∷ ws) rest w e = sym (some_pair_parts v w ws rest e).1

pub over-none : (ws : List (List ℕ)) → next_word ws ≡ None → true ≡ eqb (length ws) 0
over-none [] e = refl
over-none (w ∷ ws) e = absurd cc

pub over-some : (ws rest : List (List ℕ)) (w : List ℕ) → next_word ws ≡ Some (w, rest) → false ≡ eqb (length ws) 0
over-some [] rest w e = absurd cc
over-some (v ∷ ws) rest w e = grind (arith, nat_tests)

pub ruleset skip_steps = (skip-none, skip-some, over-none, over-some)
