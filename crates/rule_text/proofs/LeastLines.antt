-- The least line of some elements of a list.
use Rattle.std.proofs.Common.{◌≡◌, ℕ, zero, suc, ◌+◌, ◌<◌, ◌≤◌, ◌⊎◌, List, [], ◌∷◌, ◌++◌, length, take, get_or, min, Contains, Option, Some, None, MatchOption, All, arith, sym, subst, ◌∙◌, ap, inl, inr}
use Rattle.std.specs.Option.{option_map_or}
use Rattle.std.proofs.Math.Nat.{min-eq_left, min-eq_right}
use Rattle.std.proofs.lemmas.Bool.{cases_lt}
use Rattle.std.proofs.lemmas.List.{get_or_default, take_all, take_more}
use Rattle.std.proofs.lemmas.List.Elements.{All-append, All-contains, Contains-append_cases, Contains-append_left, Contains-append_right}
use Rattle.freq_range.proofs.Members.{Contains-cases, Contains-head, Contains-nothing}
use Rattle.rule_text.specs.inner.State.{IsLeastLine}

-- each element is good, or the least line of those that are bad is this one
abbrev pub IsLeast : {X : Type 0} → (Bad Good : X → Type 0) → (X → ℕ) → List X → Option ℕ → Type 0
IsLeast Bad Good line xs None = All Good xs
IsLeast Bad Good line xs (Some n) = IsLeastLine Bad line xs n

All-one : {X : Type 0} (P : X → Type 0) (y : X) → P y → All P (y ∷ [])
All-one P y holds zero d in_range = holds
All-one P y holds (suc k) d in_range = absurd (omega (arith, in_range))

one : {X : Type 0} (y x : X) → Contains (y ∷ []) x → y ≡ x
one y x has = elim (Contains-cases y [] x has) [
  | inl same ↦ same
  | inr none ↦ absurd (Contains-nothing x none)
]

-- a good element
pub least_without : {X : Type 0} (Bad Good : X → Type 0) (line : X → ℕ) (xs : List X) (y : X) (o : Option ℕ) → Good y → (Bad y → ⊥) → IsLeast Bad Good line xs o
    → IsLeast Bad Good line (xs ++ y ∷ []) o
least_without Bad Good line xs y None good lacks is = All-append Good xs (y ∷ []) is (All-one Good y good)
least_without Bad Good line xs y (Some n) good lacks is = record {
  here = (is.here.0, Contains-append_left xs (y ∷ []) is.here.0 is.here.1, is.here.2, is.here.3);
  least = λ x has holds. elim (Contains-append_cases xs (y ∷ []) x has) [
    | inl early ↦ is.least x early holds
    | inr late ↦ absurd (lacks (subst Bad (sym (one y x late)) holds))
  ];
}

-- a bad element
pub least_with : {X : Type 0} (Bad Good : X → Type 0) (line : X → ℕ) → ((x : X) → Bad x → Good x → ⊥) → (xs : List X) (y : X) (o : Option ℕ) (n : ℕ) → Bad y
    → n ≡ option_map_or (λ other. min other (line y)) o (line y) → IsLeast Bad Good line xs o → IsLeastLine Bad line (xs ++ y ∷ []) n
least_with Bad Good line clash xs y None n holds is none = record {
  here = (y, Contains-append_right xs (y ∷ []) y (Contains-head y []), holds, sym is);
  least = λ x has p. elim (Contains-append_cases xs (y ∷ []) x has) [
    | inl early ↦ absurd (clash x p (All-contains Good xs x none early))
    | inr late ↦ let same = ap line (one y x late) in omega (arith, is, same)
  ];
}
least_with Bad Good line clash xs y (Some m) n holds is before = by_cases (cases_lt m (line y))
  where
    by_cases : (m < line y) ⊎ (line y ≤ m) → IsLeastLine Bad line (xs ++ y ∷ []) n
    by_cases (inl below) =
        let same : n ≡ m = is ∙ min-eq_left (omega (arith, below)) in
        record {
          here = (before.here.0, Contains-append_left xs (y ∷ []) before.here.0 before.here.1, before.here.2, before.here.3 ∙ sym same);
          least = λ x has p. elim (Contains-append_cases xs (y ∷ []) x has) [
            | inl early ↦ let least = before.least x early p in omega (arith, least, same)
            | inr late ↦ let line_same = ap line (one y x late) in omega (arith, below, same, line_same)
          ];
        }
    by_cases (inr above) =
        let same : n ≡ line y = is ∙ min-eq_right above in
        record {
          here = (y, Contains-append_right xs (y ∷ []) y (Contains-head y []), holds, sym same);
          least = λ x has p. elim (Contains-append_cases xs (y ∷ []) x has) [
            | inl early ↦ let least = before.least x early p in omega (arith, least, same, above)
            | inr late ↦ let line_same = ap line (one y x late) in omega (arith, same, line_same)
          ];
        }

-- a loop over a list
pub least_skips : {X : Type 0} (Bad Good : X → Type 0) (line : X → ℕ) (xs : List X) (i : ℕ) (y : X) (o : Option ℕ) → i < length xs → y ≡ get_or xs i y → Good y → (Bad y → ⊥)
    → IsLeast Bad Good line (take i xs) o → IsLeast Bad Good line (take (i + 1) xs) o
least_skips Bad Good line xs i y o in_range at good lacks is =
    subst (λ l. IsLeast Bad Good line l o) (sym (take_more xs i y in_range ∙ ap (λ z. take i xs ++ z ∷ []) (sym at)))
    (least_without Bad Good line (take i xs) y o good lacks is)

pub least_takes : {X : Type 0} (Bad Good : X → Type 0) (line : X → ℕ) → ((x : X) → Bad x → Good x → ⊥) → (xs : List X) (i : ℕ) (y : X) (o : Option ℕ) (n : ℕ) → i < length xs
    → y ≡ get_or xs i y → Bad y → n ≡ option_map_or (λ other. min other (line y)) o (line y) → IsLeast Bad Good line (take i xs) o → IsLeastLine Bad line (take (i + 1) xs) n
least_takes Bad Good line clash xs i y o n in_range at bad is before =
    subst (λ l. IsLeastLine Bad line l n) (sym (take_more xs i y in_range ∙ ap (λ z. take i xs ++ z ∷ []) (sym at)))
    (least_with Bad Good line clash (take i xs) y o n bad is before)

pub least_end : {X : Type 0} (Bad Good : X → Type 0) (line : X → ℕ) (xs : List X) (i : ℕ) (o : Option ℕ) → length xs ≤ i → IsLeast Bad Good line (take i xs) o
    → MatchOption o (All Good xs) (IsLeastLine Bad line xs)
least_end Bad Good line xs i None past is = subst (All Good) (take_all i xs past) is
least_end Bad Good line xs i (Some n) past is = subst (λ l. IsLeastLine Bad line l n) (take_all i xs past) is

pub get_or_same : {X : Type 0} (xs : List X) (i : ℕ) (d : X) → i < length xs → get_or xs i d ≡ get_or xs i (get_or xs i d)
get_or_same xs i d in_range = get_or_default xs i d (get_or xs i d) in_range
