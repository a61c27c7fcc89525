-- The codes and the region of a header.
use Rattle.std.proofs.Common.{◌≡◌, ◌≢◌, ℕ, ◌<◌, List, [], ◌∷◌, ◌++◌, true, false, length, get_or, map, drop, Option, Some, None, ◌⊎◌, inl, inr, refl, ap, ◌∙◌, sym, subst, arith, append_assoc, append-nil, rules}
use denote.Ref.{Bor}
use Rattle.std.specs.Option.{option_copied}
use Rattle.std.specs.Prelude.{codes, All, MatchOption}
use Rattle.std.specs.List.{flat_map}
use Rattle.std.proofs.lemmas.Bool.Decides.{nat_tests}
use Rattle.std.proofs.lemmas.List.Elements.{All-append, All-cons, All-head, All-map, All-tail}
use Rattle.std.proofs.lemmas.Option.{some_pair_parts, cond_some, same_Some}
use Rattle.rule_tables.specs.Code.{IsCode}
use Rattle.rule_tables.specs.declared.code.Alpha2.{Alpha2}
use Rattle.rule_tables.specs.declared.code.Region.{Region}
use Rattle.rule_tables.specs.declared.code.Region.TheVariants.{Unset, Fcc, Etsi, Jp}
use Rattle.text_lines.specs.declared.fault.TextKind.{TextKind}
use Rattle.text_lines.specs.declared.fault.LineStop.{LineStop}
use Rattle.text_lines.specs.declared.fault.LineStop.TheVariants.{Kind, OutOfMemory}
use Rattle.text_lines.specs.declared.fault.TextKind.TheVariants.{LineTooLong, NotUtf8, BadLine, NoBlock, BadCountry, BadRegion, RegionDiffers, BadBand, BadPower, BadFlag, FlagNotInVersion, NoWmm, BadWmm, WmmTwice, TooManyRules, WmmShort, NoRules}
use Rattle.rule_tables.specs.Code.{is_code}
use Rattle.reg_base.specs.Texts.{same_bytes}
use Rattle.reg_base.specs.Texts.{◌>>=◌}
use Rattle.text_lines.specs.LineFaults.{IsHeaderKind, IsHeaderStop}
use Rattle.text_lines.specs.inner.Reading.{IsCodeStop, code_from, codes_of, header_codes, parts_of, region_from_text, titled_at, front_of, behind_of}
use Rattle.text_lines.specs.Spelling.{AreCodes, HasCodes, IsHeader, codes_text, region_name}
use Rattle.text_lines.proofs.Cuts.{parts-cut, parts-cut_by}
use Rattle.text_lines.proofs.Lists.{Lacks, listed, listed-parts, parts-listed}
use Rattle.text_lines.proofs.Names.{titled_at-again, titled_at-reads}
use Rattle.text_lines.proofs.Words.{bind_some, chosen, known, same_bytes-reads}

-- ---- one code

pub is_code-from : (c : Alpha2) → IsCode c → is_code c.a c.b ≡ true
is_code-from c h = grind (arith, nat_tests)

pub is_code-not : (c : Alpha2) → (IsCode c → ⊥) → is_code c.a c.b ≡ false
is_code-not c h = grind (arith, nat_tests)

is_code-to : (a b : ℕ) → is_code a b ≡ true → IsCode (record { a = a; b = b })
is_code-to a b h = grind (arith, nat_tests)

pub ruleset codes_read = (is_code-from, is_code-not)

abbrev code_bytes : Alpha2 → List ℕ
code_bytes c = c.a ∷ c.b ∷ []

code_of-reads : (part : List ℕ) (code : Alpha2) → code_from part ≡ Some code → IsCode code × (part ≡ code_bytes code)
unfolding code_from
code_of-reads [] code e = absurd cc
code_of-reads (a ∷ []) code e = absurd cc
code_of-reads (a ∷ b ∷ []) code e =
    let made : Alpha2 = record { a = a; b = b } in
    let t = cond_some (is_code a b) made code e in
    subst (λ (c : Alpha2). IsCode c × (a ∷ b ∷ [] ≡ code_bytes c)) t.1 (is_code-to a b t.0, refl)
code_of-reads (a ∷ b ∷ c ∷ bs) code e = absurd cc

code_of-again : (code : Alpha2) → IsCode code → code_from (code_bytes code) ≡ Some code
unfolding code_from
code_of-again code h = rw (is_code-from code h) refl

code-lacks : (byte : ℕ) (c : Alpha2) → byte ≢ 48 → (byte < 65) ⊎ (90 < byte) → IsCode c → Lacks byte (code_bytes c)
code-lacks byte c other out h =
    let first : c.a ≡ byte → ⊥ = λ e. grind arith in
    let second : c.b ≡ byte → ⊥ = λ e. grind arith in
    All-cons (λ b. b ≡ byte → ⊥) c.a (c.b ∷ []) first (All-cons (λ b. b ≡ byte → ⊥) c.b [] second (search rules))

-- ---- codes

abbrev onto_codes : Alpha2 → List Alpha2 → Option (List Alpha2)
onto_codes code cs = Some (code ∷ cs)

abbrev with_others : List (List ℕ) → Alpha2 → Option (List Alpha2)
with_others parts code = codes_of parts >>= onto_codes code

pub codes_of-reads : (parts : List (List ℕ)) (cs : List Alpha2) → codes_of parts ≡ Some cs → All IsCode cs × (parts ≡ map code_bytes cs)
unfolding codes_of
codes_of-reads [] cs e = let same : [] ≡ cs = same_Some [] cs e in rw (← same) (search rules, refl)
codes_of-reads (part ∷ parts) cs e =
    let one = bind_some (code_from part) (with_others parts) cs e in
    let two = bind_some (codes_of parts) (onto_codes one.0) cs one.2 in
    let same : one.0 ∷ two.0 ≡ cs = same_Some (one.0 ∷ two.0) cs two.2 in
    let first = code_of-reads part one.0 one.1 in
    let more = codes_of-reads parts two.0 two.1 in
    rw (← same) (All-cons IsCode one.0 two.0 first.0 more.0, rw (← first.1, ← more.1) refl)

pub codes_of-again : (cs : List Alpha2) → All IsCode cs → codes_of (map code_bytes cs) ≡ Some cs
unfolding codes_of
codes_of-again [] each = refl
codes_of-again (c ∷ cs) each = rw (code_of-again c (All-head IsCode c cs each), codes_of-again cs (All-tail IsCode c cs each)) refl

abbrev tail_text : List Alpha2 → List ℕ
tail_text cs = flat_map (λ (d : Alpha2). codes "," ++ d.a ∷ d.b ∷ []) cs

listed-codes : (cs : List Alpha2) → listed (map code_bytes cs) ≡ tail_text cs
listed-codes [] = refl
listed-codes (c ∷ cs) = ap (λ (xs : List ℕ). 44 ∷ c.a ∷ c.b ∷ xs) (listed-codes cs)

-- the parts of a list are codes exactly where they are its text
list-codes : (list : List ℕ) (cs : List Alpha2) → parts_of 44 (Some list) ≡ map code_bytes cs → (0 < length cs) × (list ≡ codes_text cs)
list-codes list [] e = let joined = sym (listed-parts list) ∙ ap listed e in absurd cc
list-codes list (c ∷ cs) e =
    let joined : 44 ∷ list ≡ 44 ∷ c.a ∷ c.b ∷ tail_text cs = sym (listed-parts list) ∙ ap listed e ∙ listed-codes (c ∷ cs) in
    (omega arith, ap (drop 1) joined)

pub codes_of-spelled : (list : List ℕ) (cs : List Alpha2) → codes_of (parts_of 44 (Some list)) ≡ Some cs → AreCodes cs × (list ≡ codes_text cs)
codes_of-spelled list cs e =
    let read = codes_of-reads (parts_of 44 (Some list)) cs e in
    let text = list-codes list cs read.1 in
    (record { some = text.0; each = read.0 }, text.1)

lack_comma : (cs : List Alpha2) → All IsCode cs → All (Lacks 44) (map code_bytes cs)
lack_comma cs each = All-map (Lacks 44) code_bytes cs (λ i d in_range. code-lacks 44 (get_or cs i d) (λ e. absurd (omega (arith, e))) (inl (omega arith)) (each i d in_range))

pub codes_of-text : (cs : List Alpha2) → AreCodes cs → codes_of (parts_of 44 (Some (codes_text cs))) ≡ Some cs
codes_of-text [] h = absurd (omega (arith, h.some))
codes_of-text (c ∷ cs) h =
    let each = All-tail IsCode c cs h.each in
    let lacks = code-lacks 44 c (λ e. absurd (omega (arith, e))) (inl (omega arith)) (All-head IsCode c cs h.each) in
    let parts : parts_of 44 (Some (c.a ∷ c.b ∷ tail_text cs)) ≡ map code_bytes (c ∷ cs) = rw (← listed-codes cs) (parts-listed (code_bytes c) (map code_bytes cs) lacks (lack_comma cs each)) in
    rw parts (codes_of-again (c ∷ cs) h.each)

tail-lacks : (cs : List Alpha2) → All IsCode cs → Lacks 58 (tail_text cs)
tail-lacks [] each = search rules
tail-lacks (c ∷ cs) each =
    let here = code-lacks 58 c (λ e. absurd (omega (arith, e))) (inl (omega arith)) (All-head IsCode c cs each) in
    let comma : 44 ≡ 58 → ⊥ = λ e. absurd (omega (arith, e)) in
    All-append (λ b. b ≡ 58 → ⊥) (44 ∷ code_bytes c) (tail_text cs) (All-cons (λ b. b ≡ 58 → ⊥) 44 (code_bytes c) comma here) (tail-lacks cs (All-tail IsCode c cs each))

codes-lack_colon : (cs : List Alpha2) → All IsCode cs → Lacks 58 (codes_text cs)
codes-lack_colon [] each = search rules
codes-lack_colon (c ∷ cs) each =
    All-append (λ b. b ≡ 58 → ⊥) (code_bytes c) (tail_text cs) (code-lacks 58 c (λ e. absurd (omega (arith, e))) (inl (omega arith)) (All-head IsCode c cs each)) (tail-lacks cs (All-tail IsCode c cs each))

-- ---- the loop over the parts of a list

-- the codes of the parts, behind those that were read
abbrev pub onto_read : List Alpha2 → Option (List Alpha2) → Option (List Alpha2)
onto_read read None = None
onto_read read (Some cs) = Some (read ++ cs)

pub onto_read-more : (read : List Alpha2) (part : List ℕ) (parts : List (List ℕ)) (code : Alpha2) → code_from part ≡ Some code → onto_read (read ++ code ∷ []) (codes_of parts) ≡ onto_read read (codes_of (part ∷ parts))
unfolding codes_of
onto_read-more read part parts code e = rw e (behind (codes_of parts))
  where
    behind : (o : Option (List Alpha2)) → onto_read (read ++ code ∷ []) o ≡ onto_read read (o >>= onto_codes code)
    behind None = refl
    behind (Some cs) = ap (λ (xs : List Alpha2). Some xs) (append_assoc read (code ∷ []) cs)

pub onto_read-stop : (read : List Alpha2) (part : List ℕ) (parts : List (List ℕ)) → code_from part ≡ None → onto_read read (codes_of (part ∷ parts)) ≡ None
unfolding codes_of
onto_read-stop read part parts e = rw e refl

pub onto_read-end : (read : List Alpha2) → onto_read read (codes_of []) ≡ Some read
unfolding codes_of
onto_read-end read = ap (λ (xs : List Alpha2). Some xs) (append-nil read)

-- where the loop stands: what was read, before the codes of what is left, are the codes of the whole
abbrev pub ReadSoFar : List ℕ → Option (List ℕ) → List Alpha2 → Type 0
ReadSoFar list left read = onto_read read (codes_of (parts_of 44 left)) ≡ codes_of (parts_of 44 (Some list))

-- behind one part: what is left is behind its comma
pub read_so_far-more : (list text part : List ℕ) (behind : Option (Bor (List ℕ))) (read : List Alpha2) (code : Alpha2) → part ≡ front_of 44 text → MatchOption behind (behind_of 44 text ≡ None) (λ rest. behind_of 44 text ≡ Some rest.now) → code_from part ≡ Some code → ReadSoFar list (Some text) read → ReadSoFar list (option_copied behind) (read ++ code ∷ [])
read_so_far-more list text part behind read code front cut e h =
    onto_read-more read part (parts_of 44 (option_copied behind)) code e ∙ ap (λ (parts : List (List ℕ)). onto_read read (codes_of parts)) (sym (parts-cut_by 44 text part behind front cut)) ∙ h

pub read_so_far-stop : (list text part : List ℕ) (read : List Alpha2) → part ≡ front_of 44 text → code_from part ≡ None → ReadSoFar list (Some text) read → codes_of (parts_of 44 (Some list)) ≡ None
read_so_far-stop list text part read front e h =
    sym h ∙ ap (λ (parts : List (List ℕ)). onto_read read (codes_of parts)) (parts-cut 44 text ∙ rw (← front) refl) ∙ onto_read-stop read part (parts_of 44 (behind_of 44 text)) e

pub read_so_far-end : (list : List ℕ) (read : List Alpha2) → ReadSoFar list None read → codes_of (parts_of 44 (Some list)) ≡ Some read
read_so_far-end list read h = sym h ∙ onto_read-end read

pub onto_read-start : (o : Option (List Alpha2)) → onto_read [] o ≡ o
onto_read-start None = refl
onto_read-start (Some cs) = refl

-- ---- a header's codes

abbrev closed_codes : List ℕ × List ℕ → List Alpha2 → Option (List Alpha2 × List ℕ)
closed_codes title cs = Some (cs, title.1)

abbrev titled_codes : List ℕ × List ℕ → Option (List Alpha2 × List ℕ)
titled_codes title = codes_of (parts_of 44 (Some title.0)) >>= closed_codes title

pub header_codes-reads : (line : List ℕ) (cs : List Alpha2) (rest : List ℕ) → header_codes line ≡ Some (cs, rest) → HasCodes line cs rest
unfolding header_codes
header_codes-reads line cs rest e =
    let one = bind_some (titled_at (codes "country") line) titled_codes (cs, rest) e in
    let two = bind_some (codes_of (parts_of 44 (Some one.0.0))) (closed_codes one.0) (cs, rest) one.2 in
    let p = some_pair_parts two.0 cs one.0.1 rest two.2 in
    let text = codes_of-spelled one.0.0 two.0 two.1 in
    record {
      are = subst AreCodes p.0 text.0;
      spelled = titled_at-reads (codes "country") line one.0.0 one.0.1 one.1 ∙ rw (text.1, p.0, p.1) (simp append_assoc);
    }

pub header_codes-again : (line : List ℕ) (cs : List Alpha2) (rest : List ℕ) → HasCodes line cs rest → header_codes line ≡ Some (cs, rest)
unfolding header_codes
header_codes-again line cs rest h =
    let spelled : line ≡ codes "country" ++ (codes_text cs ++ 58 ∷ rest) = h.spelled ∙ simp append_assoc in
    rw (spelled, titled_at-again (codes "country") (codes_text cs) rest (codes-lack_colon cs h.are.each), codes_of-text cs h.are) refl

pub HasCodes-unique : (line : List ℕ) (cs ds : List Alpha2) (rest other : List ℕ) → HasCodes line cs rest → HasCodes line ds other → (cs ≡ ds) × (rest ≡ other)
HasCodes-unique line cs ds rest other p q = some_pair_parts cs ds rest other (sym (header_codes-again line cs rest p) ∙ header_codes-again line ds other q)

pub header_codes-none : (line : List ℕ) → header_codes line ≡ None → (cs : List Alpha2) (rest : List ℕ) → HasCodes line cs rest → ⊥
header_codes-none line none cs rest h = let read = header_codes-again line cs rest h in cc

-- ---- a header's codes, in the steps of the code

pub header_codes-by : (line list rest : List ℕ) (cs : List Alpha2) → titled_at (codes "country") line ≡ Some (list, rest) → codes_of (parts_of 44 (Some list)) ≡ Some cs → header_codes line ≡ Some (cs, rest)
unfolding header_codes
header_codes-by line list rest cs e f = rw (e, f) refl

untitled : (line : List ℕ) → titled_at (codes "country") line ≡ None → header_codes line ≡ None
unfolding header_codes
untitled line e = rw e refl

pub no_title : (line : List ℕ) → titled_at (codes "country") line ≡ None → IsHeaderKind line BadCountry
no_title line e = header_codes-none line (untitled line e)

no_codes : (line list rest : List ℕ) → titled_at (codes "country") line ≡ Some (list, rest) → codes_of (parts_of 44 (Some list)) ≡ None → header_codes line ≡ None
unfolding header_codes
no_codes line list rest e f = rw (e, f) refl

pub code_stop-header : (line list rest : List ℕ) (stop : LineStop) → titled_at (codes "country") line ≡ Some (list, rest) → IsCodeStop list stop → IsHeaderStop line stop
code_stop-header line list rest OutOfMemory e h = tt
code_stop-header line list rest (Kind BadCountry) e h = header_codes-none line (no_codes line list rest e h)
code_stop-header line list rest (Kind LineTooLong) e h = absurd h
code_stop-header line list rest (Kind NotUtf8) e h = absurd h
code_stop-header line list rest (Kind BadLine) e h = absurd h
code_stop-header line list rest (Kind NoBlock) e h = absurd h
code_stop-header line list rest (Kind BadRegion) e h = absurd h
code_stop-header line list rest (Kind RegionDiffers) e h = absurd h
code_stop-header line list rest (Kind BadBand) e h = absurd h
code_stop-header line list rest (Kind BadPower) e h = absurd h
code_stop-header line list rest (Kind BadFlag) e h = absurd h
code_stop-header line list rest (Kind FlagNotInVersion) e h = absurd h
code_stop-header line list rest (Kind NoWmm) e h = absurd h
code_stop-header line list rest (Kind BadWmm) e h = absurd h
code_stop-header line list rest (Kind WmmTwice) e h = absurd h
code_stop-header line list rest (Kind TooManyRules) e h = absurd h
code_stop-header line list rest (Kind WmmShort) e h = absurd h
code_stop-header line list rest (Kind NoRules) e h = absurd h

-- ---- the region

pub region_of-reads : (bs : List ℕ) (region : Region) → region_from_text bs ≡ Some region → bs ≡ region_name region
unfolding region_from_text
region_of-reads bs region =
    let P : Region → Type 0 = λ region. bs ≡ region_name region in
    chosen P (same_bytes bs []) Unset _ region (same_bytes-reads bs []) (
    chosen P (same_bytes bs (codes "DFS-FCC")) Fcc _ region (same_bytes-reads bs (codes "DFS-FCC")) (
    chosen P (same_bytes bs (codes "DFS-ETSI")) Etsi _ region (same_bytes-reads bs (codes "DFS-ETSI")) (
    chosen P (same_bytes bs (codes "DFS-JP")) Jp None region (same_bytes-reads bs (codes "DFS-JP")) (λ e. absurd cc))))

pub region_of-again : (region : Region) → region_from_text (region_name region) ≡ Some region
unfolding region_from_text
region_of-again Unset = refl
region_of-again Fcc = refl
region_of-again Etsi = refl
region_of-again Jp = refl

-- ---- the whole header

pub header-reads : (line : List ℕ) (cs : List Alpha2) (rest : List ℕ) (region : Region) → header_codes line ≡ Some (cs, rest) → region_from_text rest ≡ Some region → IsHeader line cs region
header-reads line cs rest region e r = subst (HasCodes line cs) (region_of-reads rest region r) (header_codes-reads line cs rest e)

pub header-no_region : (line : List ℕ) (cs : List Alpha2) (rest : List ℕ) → header_codes line ≡ Some (cs, rest) → region_from_text rest ≡ None → IsHeaderKind line BadRegion
header-no_region line cs rest e none = ((cs, rest, header_codes-reads line cs rest e), no_region)
  where
    no_region : (ds : List Alpha2) (region : Region) → IsHeader line ds region → ⊥
    no_region ds region h =
        let p = some_pair_parts cs ds rest (region_name region) (sym e ∙ header_codes-again line ds (region_name region) h) in
        let read : region_from_text rest ≡ Some region = ap region_from_text p.1 ∙ region_of-again region in
        cc

pub IsHeader-unique : (line : List ℕ) (cs ds : List Alpha2) (r s : Region) → IsHeader line cs r → IsHeader line ds s → (cs ≡ ds) × (r ≡ s)
IsHeader-unique line cs ds r s p q =
    let same = HasCodes-unique line cs ds (region_name r) (region_name s) p q in
    (same.0, same_Some r s (sym (region_of-again r) ∙ ap region_from_text same.1 ∙ region_of-again s))

pub decide_header : (line : List ℕ) → ((cs : List Alpha2) × (region : Region) × IsHeader line cs region) ⊎ ((kind : TextKind) × IsHeaderKind line kind)
decide_header line = known (header_codes line) (λ none. inr (BadCountry, header_codes-none line none)) (λ x e. known (region_from_text x.1) (λ none. inr (BadRegion, header-no_region line x.0 x.1 e none)) (λ region r. inl (x.0, region, header-reads line x.0 x.1 region e r)))
