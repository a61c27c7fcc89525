-- The words behind a printed power: the flags that are set, and the name of a WMM rule.
use Rattle.std.proofs.Common.{◌≡◌, ℕ, ◌+◌, ◌≤◌, Bool, true, false, List, [], ◌∷◌, ◌++◌, length, All, Option, Some, None, arith, refl, sym, subst, ap, ◌∙◌, append-nil}
use Rattle.std.specs.Prelude.{codes, fold}
use Rattle.std.proofs.lemmas.List.Concat.{flat_map-append}
use Rattle.std.proofs.lemmas.List.Elements.{All-append, All-cons, All-nil}
use Rattle.std.proofs.lemmas.List.Sums.{fold-append}
use Rattle.freq_range.specs.declared.flags.RuleFlags.{RuleFlags}
use Rattle.text_lines.specs.declared.form.Flag.{Flag}
use Rattle.text_lines.specs.declared.form.Flag.TheVariants.{NoOfdm, NoOutdoor, Dfs, NoIr, AutoBw}
use Rattle.db_text.specs.PrintedRules.{flag_part, flags_part, name_part}
use Rattle.text_lines.specs.Spelling.{AreWords, IsKeptWord, IsWmmName, IsWord, Word, flags_named, list_of, names_in, no_flags, with_word, word_text, words_text}
use Rattle.text_lines.specs.Spelling.Word.{OfFlag, OfName}
use Rattle.db_text.proofs.PlainLines.{Prints, joined}

-- a flag that is set, as a word
abbrev pub word_if : Bool → Flag → List Word
word_if true flag = OfFlag flag ∷ []
word_if false flag = []

-- the flags that are set, as words
unfoldable pub flag_words : RuleFlags → List Word
flag_words f = word_if f.no_ofdm NoOfdm ++ word_if f.no_outdoor NoOutdoor ++ word_if f.dfs Dfs ++ word_if f.auto_bw AutoBw ++ word_if f.no_ir NoIr

abbrev pub name_words : Option (List ℕ) → List Word
name_words None = []
name_words (Some name) = OfName name ∷ []

unfoldable pub printed_words : RuleFlags → Option (List ℕ) → List Word
printed_words f name = flag_words f ++ name_words name

-- ---- what they say

abbrev flags_so : Bool → Bool → Bool → Bool → Bool → RuleFlags
flags_so a b c d e = record { no_ofdm = a; no_outdoor = b; dfs = c; no_ir = e; auto_bw = d }

flags_step1 : (a : Bool) → fold (λ flags word. with_word word flags) (flags_so false false false false false) (word_if a NoOfdm) ≡ flags_so a false false false false
flags_step1 true = refl
flags_step1 false = refl

flags_step2 : (a b : Bool) → fold (λ flags word. with_word word flags) (flags_so a false false false false) (word_if b NoOutdoor) ≡ flags_so a b false false false
flags_step2 a true = refl
flags_step2 a false = refl

flags_step3 : (a b c : Bool) → fold (λ flags word. with_word word flags) (flags_so a b false false false) (word_if c Dfs) ≡ flags_so a b c false false
flags_step3 a b true = refl
flags_step3 a b false = refl

flags_step4 : (a b c d : Bool) → fold (λ flags word. with_word word flags) (flags_so a b c false false) (word_if d AutoBw) ≡ flags_so a b c d false
flags_step4 a b c true = refl
flags_step4 a b c false = refl

flags_step5 : (a b c d e : Bool) → fold (λ flags word. with_word word flags) (flags_so a b c d false) (word_if e NoIr) ≡ flags_so a b c d e
flags_step5 a b c d true = refl
flags_step5 a b c d false = refl

abbrev gathered : RuleFlags → List Word → RuleFlags
gathered f words = fold (λ flags word. with_word word flags) f words

gathered-append : (f : RuleFlags) (xs ys : List Word) → gathered f (xs ++ ys) ≡ gathered (gathered f xs) ys
gathered-append f xs ys = fold-append (λ flags word. with_word word flags) f xs ys

gathered-name : (f : RuleFlags) (name : Option (List ℕ)) → gathered f (name_words name) ≡ f
gathered-name f None = refl
gathered-name f (Some name) = refl

gathered-flags : (f : RuleFlags) → gathered no_flags (flag_words f) ≡ f
unfolding flag_words
gathered-flags f =
    let a = word_if f.no_ofdm NoOfdm in
    let b = word_if f.no_outdoor NoOutdoor in
    let c = word_if f.dfs Dfs in
    let d = word_if f.auto_bw AutoBw in
    let e = word_if f.no_ir NoIr in
    gathered-append no_flags (a ++ b ++ c ++ d) e
    ∙ ap (λ x. gathered x e) (
    gathered-append no_flags (a ++ b ++ c) d
    ∙ ap (λ x. gathered x d) (
    gathered-append no_flags (a ++ b) c
    ∙ ap (λ x. gathered x c) (gathered-append no_flags a b ∙ ap (λ x. gathered x b) (flags_step1 f.no_ofdm) ∙ flags_step2 f.no_ofdm f.no_outdoor)
    ∙ flags_step3 f.no_ofdm f.no_outdoor f.dfs
    )
    ∙ flags_step4 f.no_ofdm f.no_outdoor f.dfs f.auto_bw
    )
    ∙ flags_step5 f.no_ofdm f.no_outdoor f.dfs f.auto_bw f.no_ir

pub printed_flags : (f : RuleFlags) (name : Option (List ℕ)) → f ≡ flags_named (printed_words f name)
unfolding printed_words
printed_flags f name =
    sym (gathered-append no_flags (flag_words f) (name_words name) ∙ ap (λ x. gathered x (name_words name)) (gathered-flags f) ∙ gathered-name f name)

-- ---- which words they are

names-append : (xs ys : List Word) → names_in (xs ++ ys) ≡ names_in xs ++ names_in ys
names-append [] ys = refl
names-append (OfFlag flag ∷ xs) ys = names-append xs ys
names-append (OfName name ∷ xs) ys = ap (λ ns. name ∷ ns) (names-append xs ys)

no_names : (set : Bool) (flag : Flag) → names_in (word_if set flag) ≡ []
no_names true flag = refl
no_names false flag = refl

nothing : (xs ys : List Word) → names_in xs ≡ [] → names_in ys ≡ [] → names_in (xs ++ ys) ≡ []
nothing xs ys p q = names-append xs ys ∙ rw (p, q) refl

flags-names : (f : RuleFlags) → names_in (flag_words f) ≡ []
unfolding flag_words
flags-names f =
    let a = word_if f.no_ofdm NoOfdm in
    let b = word_if f.no_outdoor NoOutdoor in
    let c = word_if f.dfs Dfs in
    let d = word_if f.auto_bw AutoBw in
    let e = word_if f.no_ir NoIr in
    nothing (a ++ b ++ c ++ d) e
    (nothing (a ++ b ++ c) d (nothing (a ++ b) c (nothing a b (no_names f.no_ofdm NoOfdm) (no_names f.no_outdoor NoOutdoor)) (no_names f.dfs Dfs)) (no_names f.auto_bw AutoBw))
    (no_names f.no_ir NoIr)

name-names : (name : Option (List ℕ)) → names_in (name_words name) ≡ list_of name
name-names None = refl
name-names (Some name) = refl

pub printed_names : (f : RuleFlags) (name : Option (List ℕ)) → names_in (printed_words f name) ≡ list_of name
unfolding printed_words
printed_names f name = names-append (flag_words f) (name_words name) ∙ rw (flags-names f) (name-names name)

-- a fact of the five flags and of the name holds for each word
each_if : (P : Word → Type 0) (set : Bool) (flag : Flag) → P (OfFlag flag) → All P (word_if set flag)
each_if P true flag is = All-cons P (OfFlag flag) [] is (All-nil P)
each_if P false flag is = All-nil P

each_flag : (P : Word → Type 0) (f : RuleFlags) → P (OfFlag NoOfdm) → P (OfFlag NoOutdoor) → P (OfFlag Dfs) → P (OfFlag AutoBw) → P (OfFlag NoIr) → All P (flag_words f)
unfolding flag_words
each_flag P f p q r s t =
    let a = word_if f.no_ofdm NoOfdm in
    let b = word_if f.no_outdoor NoOutdoor in
    let c = word_if f.dfs Dfs in
    let d = word_if f.auto_bw AutoBw in
    let e = word_if f.no_ir NoIr in
    All-append P (a ++ b ++ c ++ d) e
    (All-append P (a ++ b ++ c) d
    (All-append P (a ++ b) c (All-append P a b (each_if P f.no_ofdm NoOfdm p) (each_if P f.no_outdoor NoOutdoor q)) (each_if P f.dfs Dfs r))
    (each_if P f.auto_bw AutoBw s))
    (each_if P f.no_ir NoIr t)

-- a name that can be printed
abbrev pub IsNamed : Option (List ℕ) → Type 0
IsNamed None = Unit {0}
IsNamed (Some name) = IsWmmName name × Prints name name 21

each_name : (P : Word → Type 0) (name : Option (List ℕ)) → ((n : List ℕ) → name ≡ Some n → P (OfName n)) → All P (name_words name)
each_name P None is = All-nil P
each_name P (Some name) is = All-cons P (OfName name) [] (is name refl) (All-nil P)

named_is : (name : Option (List ℕ)) (n : List ℕ) → IsNamed name → name ≡ Some n → IsWmmName n
named_is None n is e = absurd cc
named_is (Some m) n is e = let same : m ≡ n = cc in subst IsWmmName same is.0

pub printed_kept : (f : RuleFlags) (name : Option (List ℕ)) → All IsKeptWord (printed_words f name)
unfolding printed_words
printed_kept f name = All-append IsKeptWord (flag_words f) (name_words name) (each_flag IsKeptWord f tt tt tt tt tt) (each_name IsKeptWord name (λ n e. tt))

few_names : (name : Option (List ℕ)) → length (list_of name) ≤ 1
few_names None = omega arith
few_names (Some name) = omega arith

pub printed_are_words : (f : RuleFlags) (name : Option (List ℕ)) → IsNamed name → AreWords (words_text (printed_words f name)) (printed_words f name)
unfolding printed_words
printed_are_words f name is = record {
  each = All-append IsWord (flag_words f) (name_words name) (each_flag IsWord f tt tt tt tt tt) (each_name IsWord name (λ n e. named_is name n is e));
  one_name = let e = printed_names f name in rw e (few_names name);
  spelled = refl;
}

-- ---- how they are printed

prints_if : (set : Bool) (flag : Flag) → Prints (flag_part true flag) (codes "," ++ word_text (OfFlag flag)) 12 → Prints (flag_part set flag) (words_text (word_if set flag)) 12
prints_if true flag is = rw append-nil is
prints_if false flag is = record { plain = refl; solid = refl; short = omega arith }

words-append : (xs ys : List Word) → words_text (xs ++ ys) ≡ words_text xs ++ words_text ys
words-append xs ys = flat_map-append (λ word. codes "," ++ word_text word) xs ys

more_words : (a b : List ℕ) (xs ys : List Word) (m n k : ℕ) → Prints a (words_text xs) m → Prints b (words_text ys) n → m + n ≤ k → Prints (a ++ b) (words_text (xs ++ ys)) k
more_words a b xs ys m n k one two le = subst (λ t. Prints (a ++ b) t k) (sym (words-append xs ys)) (joined a b (words_text xs) (words_text ys) m n k one two le)

pub prints_flags : (f : RuleFlags) → Prints (flags_part f) (words_text (flag_words f)) 60
unfolding flags_part flag_words
prints_flags f =
    let a = word_if f.no_ofdm NoOfdm in
    let b = word_if f.no_outdoor NoOutdoor in
    let c = word_if f.dfs Dfs in
    let d = word_if f.auto_bw AutoBw in
    let e = word_if f.no_ir NoIr in
    let p = flag_part f.no_ofdm NoOfdm in
    let q = flag_part f.no_outdoor NoOutdoor in
    let r = flag_part f.dfs Dfs in
    let t = flag_part f.auto_bw AutoBw in
    let one = prints_if f.no_ofdm NoOfdm (record { plain = refl; solid = refl; short = omega arith }) in
    let two = prints_if f.no_outdoor NoOutdoor (record { plain = refl; solid = refl; short = omega arith }) in
    let three = prints_if f.dfs Dfs (record { plain = refl; solid = refl; short = omega arith }) in
    let four = prints_if f.auto_bw AutoBw (record { plain = refl; solid = refl; short = omega arith }) in
    let five = prints_if f.no_ir NoIr (record { plain = refl; solid = refl; short = omega arith }) in
    more_words (p ++ q ++ r ++ t) (flag_part f.no_ir NoIr) (a ++ b ++ c ++ d) e 48 12 60
    (more_words (p ++ q ++ r) t (a ++ b ++ c) d 36 12 48 (more_words (p ++ q) r (a ++ b) c 24 12 36 (more_words p q a b 12 12 24 one two (omega arith)) three (omega arith)) four (omega arith))
    five (omega arith)

prints_name : (name : Option (List ℕ)) → IsNamed name → Prints (name_part name) (words_text (name_words name)) 32
prints_name None is = record { plain = refl; solid = refl; short = omega arith }
prints_name (Some name) is =
    rw append-nil (joined (codes ", wmmrule=") name (codes ",wmmrule=") name 10 21 32 (record { plain = refl; solid = refl; short = omega arith }) is.1 (omega arith))

pub prints_words : (f : RuleFlags) (name : Option (List ℕ)) → IsNamed name → Prints (flags_part f ++ name_part name) (words_text (printed_words f name)) 92
unfolding printed_words
prints_words f name is = more_words (flags_part f) (name_part name) (flag_words f) (name_words name) 60 32 92 (prints_flags f) (prints_name name is) (omega arith)
