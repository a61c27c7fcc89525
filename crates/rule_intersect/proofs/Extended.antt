-- The tuples of a list of domains with one more at its end are those of the list, each with each choice of the new domain
-- that keeps a common range.
use Rattle.std.proofs.Common.{◌≡◌, ℕ, ◌<◌, max, min, nat_lt, Bool, true, false, List, [], ◌∷◌, ◌++◌, length, map, All, AllPairs, Contains, if◌then◌else◌, arith, refl, sym, ◌∙◌, subst, inl, inr}
use Rattle.std.proofs.lemmas.Bool.Decides.{nat_tests}
use Rattle.std.proofs.lemmas.List.{map-append}
use Rattle.std.proofs.lemmas.List.Elements.{All-contains, All-tail, All-head, Contains-append_left, Contains-append_right, Contains-append_cases}
use Rattle.std.proofs.lemmas.List.Kept.{AllPairs-cons}
use Rattle.std.proofs.lemmas.Option.{slice_get_within}
use Rattle.freq_range.proofs.Members.{Contains-head, Contains-later, Contains-cases, Contains-nothing}
use Rattle.rule_tables.proofs.Ascending.{before_rest, pairs_rest}
use Rattle.rule_tables.specs.declared.domain.Domain.{Domain}
use Rattle.rule_intersect.specs.declared.row.Row.{Row}
use Rattle.rule_intersect.specs.inner.Pairs.{join_one}
use Rattle.rule_intersect.specs.inner.Pairs.{join_all}
use Rattle.rule_intersect.specs.Joining.{meets, join}
use Rattle.rule_intersect.specs.inner.Own.{AreChoices, AreOwnRows, row_alone}
use Rattle.rule_intersect.specs.Tables.{AreTuples, AreRows}
use Rattle.rule_intersect.specs.Tuples.{Choice, IsChoice, IsTuple, IsBefore, HasCommonRange, row_of}
use Rattle.rule_intersect.proofs.Greatest.{row_of-push}
use Rattle.rule_intersect.proofs.Longer.{IsTuple-push, IsTuple-split, IsBefore-last, IsBefore-push, length-tuple}
use Rattle.rule_intersect.proofs.Ordered.{All-from_members, AllPairs-append}

abbrev pub extend_one : List Choice → List Choice → List (List Choice)
extend_one t [] = []
extend_one t (c ∷ cs) = if meets (row_of t) (row_alone c) then (t ++ c ∷ []) ∷ extend_one t cs else extend_one t cs

abbrev pub extend : List (List Choice) → List Choice → List (List Choice)
extend [] cs = []
extend (t ∷ ts) cs = extend_one t cs ++ extend ts cs

row_of-longer : (t : List Choice) (c : Choice) → 0 < length t → row_of (t ++ c ∷ []) ≡ join (row_of t) (row_alone c)
row_of-longer [] c some = absurd (omega arith)
row_of-longer (x ∷ xs) c some = row_of-push x xs c

rows_of_one : (t : List Choice) (cs : List Choice) → 0 < length t → map row_of (extend_one t cs) ≡ join_one (row_of t) (map row_alone cs)
rows_of_one t [] some = refl
rows_of_one t (c ∷ cs) some = step (meets (row_of t) (row_alone c)) (extend_one t cs) (rows_of_one t cs some)
  where
    step : (b : Bool) (rest : List (List Choice)) → map row_of rest ≡ join_one (row_of t) (map row_alone cs)
        → map row_of (if b then (t ++ c ∷ []) ∷ rest else rest)
        ≡ (if b then join (row_of t) (row_alone c) ∷ join_one (row_of t) (map row_alone cs) else join_one (row_of t) (map row_alone cs))
    step true rest same = cons_same (row_of-longer t c some) same
      where
        cons_same : {x y : Row} {xs ys : List Row} → x ≡ y → xs ≡ ys → x ∷ xs ≡ y ∷ ys
        cons_same {x} {y} {xs} {ys} p q = cc
    step false rest same = same

rows_of_all : (ts : List (List Choice)) (cs : List Choice) → All (λ t. 0 < length t) ts → map row_of (extend ts cs) ≡ join_all (map row_of ts) (map row_alone cs)
rows_of_all [] cs some = refl
rows_of_all (t ∷ ts) cs some =
    map-append row_of (extend_one t cs) (extend ts cs)
    ∙ both (rows_of_one t cs (All-head (λ t. 0 < length t) t ts some)) (rows_of_all ts cs (All-tail (λ t. 0 < length t) t ts some))
  where
    both : {xs ys vs ws : List Row} → xs ≡ ys → vs ≡ ws → xs ++ vs ≡ ys ++ ws
    both {xs} {ys} {vs} {ws} p q = cc

one_has : (t cs : List Choice) (c : Choice) → Contains cs c → meets (row_of t) (row_alone c) ≡ true → Contains (extend_one t cs) (t ++ c ∷ [])
one_has t [] c has common = absurd (Contains-nothing c has)
one_has t (e ∷ cs) c has common = elim (Contains-cases e cs c has) [
  | inl same ↦
      let test : meets (row_of t) (row_alone e) ≡ true = subst (λ x. meets (row_of t) (row_alone x) ≡ true) (sym same) common in
      taken (meets (row_of t) (row_alone e)) test (extend_one t cs) same
  | inr later ↦ kept (meets (row_of t) (row_alone e)) (extend_one t cs) (one_has t cs c later common)
]
  where
    taken : (b : Bool) → b ≡ true → (rest : List (List Choice)) → e ≡ c → Contains (if b then (t ++ e ∷ []) ∷ rest else rest) (t ++ c ∷ [])
    taken true is rest same = subst (λ x. Contains ((t ++ e ∷ []) ∷ rest) (t ++ x ∷ [])) same (Contains-head (t ++ e ∷ []) rest)
    taken false is rest same = absurd cc

    kept : (b : Bool) (rest : List (List Choice)) → Contains rest (t ++ c ∷ []) → Contains (if b then (t ++ e ∷ []) ∷ rest else rest) (t ++ c ∷ [])
    kept true rest has = Contains-later (t ++ e ∷ []) rest (t ++ c ∷ []) has
    kept false rest has = has

one_from : (t cs : List Choice) (x : List Choice) → Contains (extend_one t cs) x
    → (c : Choice) × Contains cs c × (meets (row_of t) (row_alone c) ≡ true) × (t ++ c ∷ [] ≡ x)
one_from t [] x has = absurd (Contains-nothing x has)
one_from t (e ∷ cs) x has = by_test (λ rest. one_from t cs x rest) (meets (row_of t) (row_alone e)) refl has
  where
    later : (c : Choice) × Contains cs c × (meets (row_of t) (row_alone c) ≡ true) × (t ++ c ∷ [] ≡ x)
        → (c : Choice) × Contains (e ∷ cs) c × (meets (row_of t) (row_alone c) ≡ true) × (t ++ c ∷ [] ≡ x)
    later (c, has_c, common, is) = (c, Contains-later e cs c has_c, common, is)

    by_test : (Contains (extend_one t cs) x → (c : Choice) × Contains cs c × (meets (row_of t) (row_alone c) ≡ true) × (t ++ c ∷ [] ≡ x))
        → (b : Bool) → meets (row_of t) (row_alone e) ≡ b → Contains (if b then (t ++ e ∷ []) ∷ extend_one t cs else extend_one t cs) x
        → (c : Choice) × Contains (e ∷ cs) c × (meets (row_of t) (row_alone c) ≡ true) × (t ++ c ∷ [] ≡ x)
    by_test from true is has_x = elim (Contains-cases (t ++ e ∷ []) (extend_one t cs) x has_x) [
      | inl same ↦ (e, Contains-head e cs, is, same)
      | inr rest ↦ later (from rest)
    ]
    by_test from false is has_x = later (from has_x)

all_have : (ts : List (List Choice)) (cs t x : List Choice) → Contains ts t → Contains (extend_one t cs) x → Contains (extend ts cs) x
all_have [] cs t x has has_x = absurd (Contains-nothing t has)
all_have (s ∷ ts) cs t x has has_x = elim (Contains-cases s ts t has) [
  | inl same ↦ Contains-append_left (extend_one s cs) (extend ts cs) x (subst (λ y. Contains (extend_one y cs) x) (sym same) has_x)
  | inr later ↦ Contains-append_right (extend_one s cs) (extend ts cs) x (all_have ts cs t x later has_x)
]

all_from : (ts : List (List Choice)) (cs x : List Choice) → Contains (extend ts cs) x → (t : List Choice) × Contains ts t × Contains (extend_one t cs) x
all_from [] cs x has = absurd (Contains-nothing x has)
all_from (t ∷ ts) cs x has = elim (Contains-append_cases (extend_one t cs) (extend ts cs) x has) [
  | inl here ↦ (t, Contains-head t ts, here)
  | inr later ↦ behind (all_from ts cs x later)
]
  where
    behind : (s : List Choice) × Contains ts s × Contains (extend_one s cs) x → (s : List Choice) × Contains (t ∷ ts) s × Contains (extend_one s cs) x
    behind (s, has_s, has_x) = (s, Contains-later t ts s has_s, has_x)

one_in_order : (t cs : List Choice) → AllPairs (λ c e. c.number < e.number) cs → AllPairs IsBefore (extend_one t cs)
one_in_order t [] up = λ i j d less in_range. absurd (omega arith)
one_in_order t (c ∷ cs) up = by_test (one_in_order t cs (pairs_rest (λ a b. a.number < b.number) c cs up)) (meets (row_of t) (row_alone c))
  where
    before : (x : List Choice) → Contains (extend_one t cs) x → IsBefore (t ++ c ∷ []) x
    before x has =
        let one = one_from t cs x has in
        subst (λ y. IsBefore (t ++ c ∷ []) y) one.3 (IsBefore-last t c one.0 (before_rest (λ a b. a.number < b.number) c cs one.0 up one.1))

    by_test : AllPairs IsBefore (extend_one t cs) → (b : Bool) → AllPairs IsBefore (if b then (t ++ c ∷ []) ∷ extend_one t cs else extend_one t cs)
    by_test rest true = AllPairs-cons IsBefore (t ++ c ∷ []) (extend_one t cs) (All-from_members (IsBefore (t ++ c ∷ [])) (extend_one t cs) before) rest
    by_test rest false = rest

all_in_order : (ts : List (List Choice)) (cs : List Choice) → AllPairs IsBefore ts → AllPairs (λ c e. c.number < e.number) cs → AllPairs IsBefore (extend ts cs)
all_in_order [] cs up_t up = λ i j d less in_range. absurd (omega arith)
all_in_order (t ∷ ts) cs up_t up =
    AllPairs-append IsBefore (extend_one t cs) (extend ts cs) (one_in_order t cs up) (all_in_order ts cs (pairs_rest IsBefore t ts up_t) up) between
  where
    between : (x y : List Choice) → Contains (extend_one t cs) x → Contains (extend ts cs) y → IsBefore x y
    between x y has_x has_y =
        let one = one_from t cs x has_x in
        let group = all_from ts cs y has_y in
        let other = one_from group.0 cs y group.2 in
        let front = before_rest IsBefore t ts group.0 up_t group.1 in
        subst (λ z. IsBefore z y) one.3 (subst (λ z. IsBefore (t ++ one.0 ∷ []) z) other.3 (IsBefore-push t group.0 one.0 other.0 front))

-- common ranges
test_from_less : (a b : ℕ) → a < b → nat_lt a b ≡ true
test_from_less a b less = grind (arith, nat_tests)

less_from_test : (a b : ℕ) → nat_lt a b ≡ true → a < b
less_from_test a b test = grind (arith, nat_tests)

meets_from_common : (t : List Choice) (c : Choice) → 0 < length t → HasCommonRange (t ++ c ∷ []) → meets (row_of t) (row_alone c) ≡ true
meets_from_common t c some common =
    test_from_less _ _ (subst (λ (row : Row). row.start_khz < row.end_khz) (row_of-longer t c some) common)

common_from_meets : (t : List Choice) (c : Choice) → 0 < length t → meets (row_of t) (row_alone c) ≡ true → HasCommonRange (t ++ c ∷ [])
common_from_meets t c some test =
    subst (λ (row : Row). row.start_khz < row.end_khz) (sym (row_of-longer t c some)) (less_from_test _ _ test)

common_before : (t : List Choice) (c : Choice) → meets (row_of t) (row_alone c) ≡ true → HasCommonRange t
common_before t c test = apart _ _ _ _ (less_from_test _ _ test)
  where
    apart : (a b m n : ℕ) → max a b < min m n → a < m
    apart a b m n less = omega arith

pub AreTuples-more : (ds : List Domain) (d : Domain) (ts : List (List Choice)) (cs : List Choice) → 0 < length ds → AreTuples ds ts → AreChoices d.rules (length d.rules) cs
    → AreTuples (ds ++ d ∷ []) (extend ts cs)
AreTuples-more ds d ts cs some tuples choices = record {
  all = λ t is common. whole t common (IsTuple-split ds d t is);
  only = All-from_members (λ t. IsTuple (ds ++ d ∷ []) t × HasCommonRange t) (extend ts cs) only_these;
  in_order = all_in_order ts cs tuples.in_order choices.in_order;
}
  where
    filled : (front : List Choice) → IsTuple ds front → 0 < length front
    filled front is = let len = length-tuple ds front is in omega arith

    whole : (t : List Choice) → HasCommonRange t
        → (front : List Choice) × (c : Choice) × IsTuple ds front × IsChoice d.rules c × (front ++ c ∷ [] ≡ t) → Contains (extend ts cs) t
    whole t common (front, c, is, choice, same) =
        let test = meets_from_common front c (filled front is) (subst HasCommonRange (sym same) common) in
        let has_front = tuples.all front is (common_before front c test) in
        let has_c = choices.all c choice (slice_get_within d.rules c.number c.rule choice.rule) in
        all_have ts cs front t has_front (subst (λ x. Contains (extend_one front cs) x) same (one_has front cs c has_c test))

    only_these : (t : List Choice) → Contains (extend ts cs) t → IsTuple (ds ++ d ∷ []) t × HasCommonRange t
    only_these t has =
        let group = all_from ts cs t has in
        let one = one_from group.0 cs t group.2 in
        let is = (All-contains (λ t. IsTuple ds t × HasCommonRange t) ts group.0 tuples.only group.1).0 in
        let choice = (All-contains (λ c. IsChoice d.rules c × (c.number < length d.rules)) cs one.0 choices.only one.1).0 in
        subst (λ x. IsTuple (ds ++ d ∷ []) x × HasCommonRange x) one.3
        (IsTuple-push ds d group.0 one.0 is choice, common_from_meets group.0 one.0 (filled group.0 is) one.2)

pub AreRows-more : (ds : List Domain) (d : Domain) (rows own : List Row) → 0 < length ds → AreRows ds rows → AreOwnRows d.rules (length d.rules) own
    → AreRows (ds ++ d ∷ []) (join_all rows own)
AreRows-more ds d rows own some are (cs, choices, alone) = record {
  tuples = extend are.tuples cs;
  are_tuples = AreTuples-more ds d are.tuples cs some are.are_tuples choices;
  rows_of_tuples = same_join are.rows_of_tuples alone ∙ sym (rows_of_all are.tuples cs filled);
}
  where
    same_join : {xs ys vs ws : List Row} → xs ≡ ys → vs ≡ ws → join_all xs vs ≡ join_all ys ws
    same_join {xs} {ys} {vs} {ws} p q = λ i. join_all (p i) (q i)

    filled : All (λ t. 0 < length t) are.tuples
    filled = All-from_members (λ t. 0 < length t) are.tuples (λ t has.
        let is = (All-contains (λ t. IsTuple ds t × HasCommonRange t) are.tuples t are.are_tuples.only has).0 in
        let len = length-tuple ds t is in omega arith)
