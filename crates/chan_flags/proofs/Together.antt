-- The governing rules of all domains of a list.
use Rattle.std.proofs.Common.{◌≡◌, ℕ, ◌≤◌, ◌⊎◌, Bool, IsTrue, List, [], ◌∷◌, Contains, arith, refl, sym, subst, ap, ◌∙◌, inl, inr}
use Rattle.std.proofs.lemmas.Bool.{cases_lt}
use Rattle.std.proofs.lemmas.List.Folds.{Any-from_list_any, list_any_at}
use Rattle.freq_range.specs.declared.rule.Rule.{Rule}
use Rattle.freq_range.proofs.Firsts.{IsFirst-unique}
use Rattle.freq_range.proofs.Members.{Contains-head, Contains-later, Contains-cases, Contains-nothing}
use Rattle.rule_tables.specs.Governing.{HoldsAt, NoneGoverns}
use Rattle.rule_tables.specs.declared.domain.Domain.{Domain}
use Rattle.rule_intersect.specs.Subchannels.{AreGoverning, SomeLacksRule}
use Rattle.std.specs.List.{list_any}
use Rattle.rule_intersect.specs.Tuples.{Choice, greatest_by, least_by}
use Rattle.rule_intersect.proofs.OwnRows.{IsChoice-unique}
use Rattle.chan_flags.specs.Verdicts.{IsGoverning, SomeGoverning}

-- ---- there is one tuple of them

pub one_governing : (d : Domain) (s : ℕ) (g h : Choice) → IsGoverning d s g → IsGoverning d s h → g ≡ h
one_governing d s g h a b = IsChoice-unique d.rules g h a.0 b.0 (IsFirst-unique (HoldsAt d.rules s) g.number h.number a.1 b.1)

cons_same : {X : Type 0} (x y : X) (xs ys : List X) → x ≡ y → xs ≡ ys → x ∷ xs ≡ y ∷ ys
cons_same x y xs ys p q = cc

pub one_tuple : (ds : List Domain) (s : ℕ) (t u : List Choice) → AreGoverning ds s t → AreGoverning ds s u → t ≡ u
one_tuple [] s [] [] a b = refl
one_tuple [] s [] (h ∷ u) a b = absurd b
one_tuple [] s (g ∷ t) u a b = absurd a
one_tuple (d ∷ ds) s [] u a b = absurd a
one_tuple (d ∷ ds) s (g ∷ t) [] a b = absurd b
one_tuple (d ∷ ds) s (g ∷ t) (h ∷ u) a b = cons_same g h t u (one_governing d s g h a.0 b.0) (one_tuple ds s t u a.1 b.1)

-- where each domain has one, none lacks it
pub none_lacks : (ds : List Domain) (s : ℕ) (t : List Choice) → AreGoverning ds s t → SomeLacksRule ds s → ⊥
none_lacks [] s t are (d, has, none) = Contains-nothing d has
none_lacks (d ∷ ds) s [] are lacks = are
none_lacks (d ∷ ds) s (g ∷ t) are (e, has, none) = elim (Contains-cases d ds e has) [
  | inl same ↦ not_here (subst (λ x. NoneGoverns x.rules s) (sym same) none)
  | inr later ↦ none_lacks ds s t are.1 (e, later, none)
]
  where
    not_here : NoneGoverns d.rules s → ⊥
    not_here none = none g.number g.rule are.0.1.here.0 (are.0.1.here.1 g.rule)

-- ---- its members

governing_member : (ds : List Domain) (s : ℕ) (t : List Choice) (d : Domain) (g : Choice) → AreGoverning ds s t → Contains ds d → IsGoverning d s g → Contains t g
governing_member [] s t d g are has is = absurd (Contains-nothing d has)
governing_member (e ∷ ds) s [] d g are has is = absurd are
governing_member (e ∷ ds) s (h ∷ t) d g are has is = elim (Contains-cases e ds d has) [
  | inl same ↦ subst (λ z. Contains (h ∷ t) z) (one_governing e s h g are.0 (subst (λ x. IsGoverning x s g) (sym same) is)) (Contains-head h t)
  | inr later ↦ Contains-later h t g (governing_member ds s t d g are.1 later is)
]

member_governing : (ds : List Domain) (s : ℕ) (t : List Choice) (g : Choice) → AreGoverning ds s t → Contains t g → (d : Domain) × Contains ds d × IsGoverning d s g
member_governing [] s [] g are has = absurd (Contains-nothing g has)
member_governing [] s (h ∷ t) g are has = absurd are
member_governing (d ∷ ds) s [] g are has = absurd are
member_governing (d ∷ ds) s (h ∷ t) g are has = elim (Contains-cases h t g has) [
  | inl same ↦ (d, Contains-head d ds, subst (IsGoverning d s) same are.0)
  | inr later ↦ let found = member_governing ds s t g are.1 later in (found.0, Contains-later d ds found.0 found.1, found.2)
]

pub SomeGoverning-member : (P : Choice → Type 0) (ds : List Domain) (s : ℕ) (t : List Choice) (g : Choice) → AreGoverning ds s t → Contains t g → P g → SomeGoverning P ds s
SomeGoverning-member P ds s t g are has p = let found = member_governing ds s t g are has in (found.0, found.1, g, found.2, p)

pub member_from : (P : Choice → Type 0) (ds : List Domain) (s : ℕ) (t : List Choice) → AreGoverning ds s t → SomeGoverning P ds s → (g : Choice) × Contains t g × P g
member_from P ds s t are (d, has, g, is, p) = (g, governing_member ds s t d g are has is, p)

-- ---- what they allow together

pub least_by-le : {X : Type 0} (f : X → ℕ) (xs : List X) (x : X) → Contains xs x → least_by f xs ≤ f x
least_by-le f [] x has = absurd (Contains-nothing x has)
least_by-le f (y ∷ []) x has = elim (Contains-cases y [] x has) [
  | inl same ↦ subst (λ z. f y ≤ f z) same (omega arith)
  | inr later ↦ absurd (Contains-nothing x later)
]
least_by-le f (y ∷ z ∷ zs) x has = elim (Contains-cases y (z ∷ zs) x has) [
  | inl same ↦ let e = ap f same in omega (arith, e)
  | inr later ↦ let rest = least_by-le f (z ∷ zs) x later in omega (arith, rest)
]

pub least_by-some : {X : Type 0} (f : X → ℕ) (x : X) (xs : List X) → (y : X) × Contains (x ∷ xs) y × (least_by f (x ∷ xs) ≡ f y)
least_by-some f x [] = (x, Contains-head x [], refl)
least_by-some f x (z ∷ zs) =
    let rest = least_by-some f z zs in
    let least = rest.2 in
    elim (cases_lt (f x) (least_by f (z ∷ zs))) [
      | inl less ↦ (x, Contains-head x (z ∷ zs), omega (arith, less))
      | inr more ↦ (rest.0, Contains-later x (z ∷ zs) rest.0 rest.1, omega (arith, more, least))
    ]

pub greatest_by-ge : {X : Type 0} (f : X → ℕ) (xs : List X) (x : X) → Contains xs x → f x ≤ greatest_by f xs
greatest_by-ge f [] x has = absurd (Contains-nothing x has)
greatest_by-ge f (y ∷ ys) x has = elim (Contains-cases y ys x has) [
  | inl same ↦ let e = ap f same in omega (arith, e)
  | inr later ↦ let rest = greatest_by-ge f ys x later in omega (arith, rest)
]

pub greatest_by-some : {X : Type 0} (f : X → ℕ) (xs : List X) → (greatest_by f xs ≡ 0) ⊎ ((x : X) × Contains xs x × (greatest_by f xs ≡ f x))
greatest_by-some f [] = inl refl
greatest_by-some f (y ∷ ys) = elim (cases_lt (greatest_by f ys) (f y)) [
  | inl less ↦ inr (y, Contains-head y ys, omega (arith, less))
  | inr more ↦ elim (greatest_by-some f ys) [
    | inl none ↦ inl (omega (arith, more, none))
    | inr found ↦ let is = found.2 in inr (found.0, Contains-later y ys found.0 found.1, omega (arith, more, is))
  ]
]

-- some rule of the tuple has the flag
abbrev pub some_rule : (Rule → Bool) → List Choice → Bool
some_rule flag t = list_any (λ c. flag c.rule) t

pub some_rule-found : (flag : Rule → Bool) (t : List Choice) → IsTrue (some_rule flag t) → (g : Choice) × Contains t g × IsTrue (flag g.rule)
some_rule-found flag t some =
    let found = Any-from_list_any (λ c. flag c.rule) t some in
    (found.1, (found.0, found.2, found.3), found.4)

pub some_rule-from : (flag : Rule → Bool) (t : List Choice) (g : Choice) → Contains t g → IsTrue (flag g.rule) → IsTrue (some_rule flag t)
some_rule-from flag t g (k, in_range, is) has = list_any_at (λ c. flag c.rule) t k g in_range (ap (λ c. flag c.rule) is ∙ has)
