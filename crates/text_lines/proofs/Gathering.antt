-- What words say together.
use Rattle.std.proofs.Common.{◌≡◌, ℕ, ◌≤◌, List, [], ◌∷◌, ◌++◌, Bool, true, false, ◌&&◌, cond, length, map, drop, get_or, Option, Some, None, refl, ap, ◌∙◌, sym, subst, arith, rules, append-nil}
use denote.Ref.{Bor}
use Rattle.std.specs.Bool.{Decides}
use Rattle.std.specs.Option.{option_copied}
use Rattle.std.specs.Prelude.{All, ◌==◌, fold, MatchOption}
use Rattle.std.specs.List.{list_all}
use Rattle.std.proofs.lemmas.Bool.{eqb-true}
use Rattle.std.proofs.lemmas.Bool.Decides.{Decides-by_and}
use Rattle.std.proofs.lemmas.List.Elements.{All-cons, All-head, All-map, All-tail}
use Rattle.std.proofs.lemmas.Option.{same_Some}
use Rattle.text_lines.specs.declared.form.Flag.{Flag}
use Rattle.text_lines.specs.declared.form.Flag.TheVariants.{NoOfdm, NoOutdoor, Dfs, NoIr, AutoBw, NoCck, NoIndoor, PtpOnly, PtmpOnly}
use Rattle.reg_base.specs.Texts.{◌>>=◌}
use Rattle.text_lines.specs.inner.Reading.{Gathered, behind_of, front_of, gather, gather_word, is_kept, nothing_gathered, parts_of, with_name, word_of, words_at}
use Rattle.text_lines.specs.Spelling.{AreWords, HasBit, IsKeptWord, IsWord, Word, flags_named, list_of, names_in, with_flag, with_word, word_text, words_text}
use Rattle.text_lines.specs.Spelling.Word.{OfFlag, OfName}
use Rattle.text_lines.proofs.Cuts.{parts-cut, parts-cut_by}
use Rattle.text_lines.proofs.Lists.{Lacks, listed, listed-parts, parts-listed}
use Rattle.text_lines.proofs.WordTexts.{word-lacks, word_of-again, word_of-reads}
use Rattle.text_lines.proofs.Words.{bind_some}

-- ---- kept flags

abbrev kept_word : Word → Bool
kept_word (OfFlag flag) = is_kept flag
kept_word (OfName name) = true

flag_kept : (flag : Flag) → Decides (is_kept flag) (HasBit flag)
flag_kept NoOfdm = (λ e. tt, λ h. refl)
flag_kept NoOutdoor = (λ e. tt, λ h. refl)
flag_kept Dfs = (λ e. tt, λ h. refl)
flag_kept NoIr = (λ e. tt, λ h. refl)
flag_kept AutoBw = (λ e. tt, λ h. refl)
flag_kept NoCck = (λ e. absurd cc, λ h. absurd h)
flag_kept NoIndoor = (λ e. absurd cc, λ h. absurd h)
flag_kept PtpOnly = (λ e. absurd cc, λ h. absurd h)
flag_kept PtmpOnly = (λ e. absurd cc, λ h. absurd h)

word_kept : (word : Word) → Decides (kept_word word) (IsKeptWord word)
word_kept (OfFlag flag) = flag_kept flag
word_kept (OfName name) = (λ e. tt, λ h. refl)

all_kept : (words : List Word) → Decides (list_all kept_word words) (All IsKeptWord words)
all_kept = Decides-by_and kept_word IsKeptWord (list_all kept_word) word_kept refl (λ _ _. refl)

-- ---- words, in order

-- what was gathered says what the words say behind what was gathered before
record Says (g h : Gathered) (words : List Word) : Type 0 where
  flags : h.flags ≡ fold (λ flags word. with_word word flags) g.flags words
  names : list_of h.name ≡ list_of g.name ++ names_in words
  kept : h.kept ≡ (g.kept && list_all kept_word words)

and-true : (b : Bool) → (b && true) ≡ b
and-true true = refl
and-true false = refl

and-assoc : (a b c : Bool) → ((a && b) && c) ≡ (a && (b && c))
and-assoc true b c = refl
and-assoc false b c = refl

says-nothing : (g : Gathered) → Says g g []
says-nothing g = record { flags = refl; names = sym (append-nil (list_of g.name)); kept = sym (and-true g.kept) }

says-named : (name : List ℕ) (o : Option (List ℕ)) (g m h : Gathered) (words : List Word) → o ≡ g.name → with_name name o g ≡ Some m → Says m h words → Says g h (OfName name ∷ words)
says-named name None g m h words is e says =
    let same : record { flags = g.flags; name = Some name; kept = g.kept } ≡ m = same_Some _ m e in
    let more = subst (λ (x : Gathered). Says x h words) (sym same) says in
    record { flags = more.flags; names = more.names ∙ rw (← is) refl; kept = more.kept }
says-named name (Some other) g m h words is e says = absurd cc

says-more : (word : Word) (g m h : Gathered) (words : List Word) → gather_word word g ≡ Some m → Says m h words → Says g h (word ∷ words)
unfolding gather_word
says-more (OfFlag flag) g m h words e says =
    let same : record { flags = with_flag flag g.flags; name = g.name; kept = g.kept && is_kept flag } ≡ m = same_Some _ m e in
    let more = subst (λ (x : Gathered). Says x h words) (sym same) says in
    record { flags = more.flags; names = more.names; kept = more.kept ∙ and-assoc g.kept (is_kept flag) (list_all kept_word words) }
says-more (OfName name) g m h words e says = says-named name g.name g m h words refl e says

-- the words that were gathered
record Gathers (g h : Gathered) (parts : List (List ℕ)) : Type 0 where
  words : List Word
  each : All IsWord words
  spelled : parts ≡ map word_text words
  says : Says g h words

abbrev gather_behind : List (List ℕ) → Gathered → Option Gathered
gather_behind parts more = gather more parts

abbrev with_parts : Gathered → List (List ℕ) → Word → Option Gathered
with_parts g parts word = gather_word word g >>= gather_behind parts

gather-reads : (g h : Gathered) (parts : List (List ℕ)) → gather g parts ≡ Some h → Gathers g h parts
unfolding gather
gather-reads g h [] e =
    let same : g ≡ h = same_Some g h e in
    record { words = []; each = search rules; spelled = refl; says = subst (λ (x : Gathered). Says g x []) same (says-nothing g) }
gather-reads g h (part ∷ parts) e =
    let one = bind_some (word_of part) (with_parts g parts) h e in
    let two = bind_some (gather_word one.0 g) (gather_behind parts) h one.2 in
    let word = word_of-reads part one.0 one.1 in
    let more = gather-reads two.0 h parts two.2 in
    record {
      words = one.0 ∷ more.words;
      each = All-cons IsWord one.0 more.words word.0 more.each;
      spelled = rw (← word.1, ← more.spelled) refl;
      says = says-more one.0 g two.0 h more.words two.1 more.says;
    }

names-grow : (g : Gathered) (name : List ℕ) (o : Option (List ℕ)) (names : List (List ℕ)) → o ≡ g.name → length (list_of o ++ (name ∷ names)) ≤ 1 → (more : Gathered) × (with_name name o g ≡ Some more) × (list_of more.name ++ names ≡ list_of o ++ (name ∷ names))
names-grow g name None names is few = (record { flags = g.flags; name = Some name; kept = g.kept }, refl, refl)
names-grow g name (Some other) names is few = absurd (omega arith)

gather-again : (g : Gathered) (words : List Word) → All IsWord words → length (list_of g.name ++ names_in words) ≤ 1 → (h : Gathered) × (gather g (map word_text words) ≡ Some h)
unfolding gather gather_word
gather-again g [] each few = (g, refl)
gather-again g (OfFlag flag ∷ words) each few =
    let more : Gathered = record { flags = with_flag flag g.flags; name = g.name; kept = g.kept && is_kept flag } in
    let rest = gather-again more words (All-tail IsWord (OfFlag flag) words each) few in
    (rest.0, rw (word_of-again (OfFlag flag) tt) rest.1)
gather-again g (OfName name ∷ words) each few =
    let more = names-grow g name g.name (names_in words) refl few in
    let rest = gather-again more.0 words (All-tail IsWord (OfName name) words each) (rw more.2 few) in
    (rest.0, rw (word_of-again (OfName name) (All-head IsWord (OfName name) words each), more.1) rest.1)

-- ---- the list of words

listed-words : (words : List Word) → listed (map word_text words) ≡ words_text words
listed-words [] = refl
listed-words (word ∷ words) = ap (λ (xs : List ℕ). 44 ∷ (word_text word ++ xs)) (listed-words words)

lack_comma : (words : List Word) → All IsWord words → All (Lacks 44) (map word_text words)
lack_comma words each = All-map (Lacks 44) word_text words (λ i d in_range. word-lacks (get_or words i d) (each i d in_range))

pub parts-words : (word : Word) (words : List Word) → All IsWord (word ∷ words) → parts_of 44 (Some (word_text word ++ words_text words)) ≡ map word_text (word ∷ words)
parts-words word words each =
    rw (← listed-words words) (
    parts-listed (word_text word) (map word_text words) (word-lacks word (All-head IsWord word words each)) (lack_comma words (All-tail IsWord word words each)))

-- the words that are read behind a power
pub record ReadsWords (bs : List ℕ) (h : Gathered) : Type 0 where
  pub words : List Word
  pub are : AreWords bs words
  pub flags : h.flags ≡ flags_named words
  pub names : names_in words ≡ list_of h.name
  pub kept : h.kept ≡ list_all kept_word words

few-names : (o : Option (List ℕ)) (names : List (List ℕ)) → names ≡ list_of o → length names ≤ 1
few-names None names e = rw e (omega arith)
few-names (Some name) names e = rw e (omega arith)

reads_words : (bs : List ℕ) (h : Gathered) (parts : List (List ℕ)) → Gathers nothing_gathered h parts → bs ≡ listed parts → ReadsWords bs h
reads_words bs h parts g spelled =
    let names : names_in g.words ≡ list_of h.name = sym g.says.names in
    record {
      words = g.words;
      are = record { each = g.each; one_name = few-names h.name (names_in g.words) names; spelled = spelled ∙ ap listed g.spelled ∙ listed-words g.words };
      flags = g.says.flags;
      names = names;
      kept = g.says.kept;
    }

no_words : (h : Gathered) → nothing_gathered ≡ h → Gathers nothing_gathered h []
no_words h same = record { words = []; each = search rules; spelled = refl; says = subst (λ (x : Gathered). Says nothing_gathered x []) same (says-nothing nothing_gathered) }

pub words_at-reads : (bs : List ℕ) (h : Gathered) → words_at bs ≡ Some h → ReadsWords bs h
unfolding words_at
words_at-reads [] h e = reads_words [] h [] (no_words h (same_Some nothing_gathered h e)) refl
words_at-reads (b ∷ bs) h e = list (b == 44) refl e
  where
    list : (t : Bool) → t ≡ (b == 44) → cond t (gather nothing_gathered (parts_of 44 (Some bs))) None ≡ Some h → ReadsWords (b ∷ bs) h
    list true is e2 =
        let comma : b ≡ 44 = eqb-true b 44 (sym is) in
        reads_words (b ∷ bs) h (parts_of 44 (Some bs)) (gather-reads nothing_gathered h (parts_of 44 (Some bs)) e2) (rw comma (sym (listed-parts bs)))
    list false is e2 = absurd cc

pub words_at-again : (bs : List ℕ) (words : List Word) → AreWords bs words → (h : Gathered) × (words_at bs ≡ Some h)
unfolding words_at
words_at-again bs [] are = (nothing_gathered, rw are.spelled refl)
words_at-again bs (word ∷ words) are =
    let read = gather-again nothing_gathered (word ∷ words) are.each are.one_name in
    (read.0, rw (are.spelled, parts-words word words are.each) read.1)

-- a list spells its words in one way
texts-unique : (xs ys : List Word) → All IsWord xs → All IsWord ys → map word_text xs ≡ map word_text ys → xs ≡ ys
texts-unique [] [] p q e = refl
texts-unique [] (y ∷ ys) p q e = absurd cc
texts-unique (x ∷ xs) [] p q e = absurd cc
texts-unique (x ∷ xs) (y ∷ ys) p q e =
    let heads : word_text x ≡ word_text y = ap (λ (ts : List (List ℕ)). get_or ts 0 []) e in
    let first : x ≡ y = same_Some x y (sym (word_of-again x (All-head IsWord x xs p)) ∙ ap word_of heads ∙ word_of-again y (All-head IsWord y ys q)) in
    let others : xs ≡ ys = texts-unique xs ys (All-tail IsWord x xs p) (All-tail IsWord y ys q) (ap (drop 1) e) in
    cc

pub AreWords-unique : (bs : List ℕ) (xs ys : List Word) → AreWords bs xs → AreWords bs ys → xs ≡ ys
AreWords-unique bs [] [] p q = refl
AreWords-unique bs [] (y ∷ ys) p q = let e = sym p.spelled ∙ q.spelled in absurd cc
AreWords-unique bs (x ∷ xs) [] p q = let e = sym p.spelled ∙ q.spelled in absurd cc
AreWords-unique bs (x ∷ xs) (y ∷ ys) p q =
    let same : word_text x ++ words_text xs ≡ word_text y ++ words_text ys = ap (drop 1) (sym p.spelled ∙ q.spelled) in
    texts-unique (x ∷ xs) (y ∷ ys) p.each q.each (sym (parts-words x xs p.each) ∙ ap (λ (bs : List ℕ). parts_of 44 (Some bs)) same ∙ parts-words y ys q.each)

pub kept-all : (h : Gathered) (words : List Word) → h.kept ≡ list_all kept_word words → h.kept ≡ true → All IsKeptWord words
kept-all h words is e = (all_kept words).0 (sym is ∙ e)

pub unkept-some : (h : Gathered) (words : List Word) → h.kept ≡ list_all kept_word words → h.kept ≡ false → All IsKeptWord words → ⊥
unkept-some h words is e each = let t : h.kept ≡ true = is ∙ (all_kept words).1 each in cc

-- ---- the loop over the list

-- where the loop stands: what was gathered, with the words of what is left, is what the whole gives
abbrev pub GatheredSoFar : List ℕ → Option (List ℕ) → Gathered → Type 0
GatheredSoFar list left g = gather g (parts_of 44 left) ≡ gather nothing_gathered (parts_of 44 (Some list))

pub gathered-more : (list text part : List ℕ) (behind : Option (Bor (List ℕ))) (g more : Gathered) (word : Word) → part ≡ front_of 44 text → MatchOption behind (behind_of 44 text ≡ None) (λ rest. behind_of 44 text ≡ Some rest.now) → word_of part ≡ Some word → gather_word word g ≡ Some more → GatheredSoFar list (Some text) g → GatheredSoFar list (option_copied behind) more
unfolding gather
gathered-more list text part behind g more word front cut e f h =
    let here : gather g (part ∷ parts_of 44 (option_copied behind)) ≡ gather more (parts_of 44 (option_copied behind)) = rw (e, f) refl in
    sym here ∙ ap (gather g) (sym (parts-cut_by 44 text part behind front cut)) ∙ h

cut-front : (byte : ℕ) (text part : List ℕ) → part ≡ front_of byte text → parts_of byte (Some text) ≡ part ∷ parts_of byte (behind_of byte text)
cut-front byte text part front = parts-cut byte text ∙ ap (λ (xs : List ℕ). xs ∷ parts_of byte (behind_of byte text)) (sym front)

pub gathered-no_word : (list text part : List ℕ) (g : Gathered) → part ≡ front_of 44 text → word_of part ≡ None → GatheredSoFar list (Some text) g → gather nothing_gathered (parts_of 44 (Some list)) ≡ None
unfolding gather
gathered-no_word list text part g front e h =
    let here : gather g (part ∷ parts_of 44 (behind_of 44 text)) ≡ None = rw e refl in
    sym h ∙ ap (gather g) (cut-front 44 text part front) ∙ here

pub gathered-two_names : (list text part : List ℕ) (g : Gathered) (word : Word) → part ≡ front_of 44 text → word_of part ≡ Some word → gather_word word g ≡ None → GatheredSoFar list (Some text) g → gather nothing_gathered (parts_of 44 (Some list)) ≡ None
unfolding gather
gathered-two_names list text part g word front e f h =
    let here : gather g (part ∷ parts_of 44 (behind_of 44 text)) ≡ None = rw (e, f) refl in
    sym h ∙ ap (gather g) (cut-front 44 text part front) ∙ here

pub gathered-end : (list : List ℕ) (g : Gathered) → GatheredSoFar list None g → gather nothing_gathered (parts_of 44 (Some list)) ≡ Some g
unfolding gather
gathered-end list g h = sym h
