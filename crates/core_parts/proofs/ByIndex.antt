-- Interfaces that stand by their indexes, each by another one.
use Rattle.std.proofs.Common.{◌≡◌, ◌≢◌, ℕ, ◌==◌, Bool, true, false, not, cond, nat_eq, List, [], ◌∷◌, ◌++◌, map, filter, Contains, Option, Some, None, arith, refl, sym, subst, ap, ◌∙◌, inl, inr, eq-eqb, ne_eqb}
use Rattle.std.specs.List.{AllByRecursion, IsDistinct}
use Rattle.std.specs.Map.{keys_of, values_of, lookup, remove_entry, set_value}
use Rattle.std.proofs.lemmas.Bool.{cases_eq}
use Rattle.std.proofs.lemmas.Map.Keys.{IsDistinct-head, IsDistinct-tail}
use Rattle.freq_range.proofs.Members.{Contains-head, Contains-later}
use Rattle.indexmap.specs.IndexMap.{insert_entry}
use Rattle.core_parts.specs.ByIndex.{AreByIndex}
use Rattle.core_parts.specs.Interfaces.{AreOthers, is_other}
use Rattle.core_parts.specs.declared.interface.Interface.{Interface}

-- ---- a new one goes last

pub added_last : (i : ℕ) (p : Interface) (es : List (ℕ × Interface)) → AreByIndex es → AreOthers i (values_of es) → values_of (insert_entry nat_eq es i p) ≡ values_of es ++ p ∷ []
added_last i p [] are others = refl
added_last i p (e ∷ es) (is, are) others =
    rw (ne_eqb i e.0 (λ same. others e.1 (Contains-head e.1 (values_of es)) (sym is ∙ sym same)))
    (ap (λ ps. e.1 ∷ ps) (added_last i p es are (λ q has. others q (Contains-later e.1 (values_of es) q has))))

pub by_index_added : (p : Interface) (es : List (ℕ × Interface)) → AreByIndex es → AreByIndex (insert_entry nat_eq es p.index p)
by_index_added p [] are = (refl, tt)
by_index_added p (e ∷ es) (is, are) = elim (cases_eq p.index e.0) [
  | inl same ↦ rw (eq-eqb p.index e.0 same) (sym same, are)
  | inr other ↦ rw (ne_eqb p.index e.0 other) (is, by_index_added p es are)
]

-- ---- one goes

-- no key is the index
abbrev LacksKey : ℕ → List (ℕ × Interface) → Type 0
LacksKey i es = AllByRecursion (λ y. nat_eq i y ≡ false) (keys_of es)

all_others : (i : ℕ) (es : List (ℕ × Interface)) → AreByIndex es → LacksKey i es → filter (is_other i) (values_of es) ≡ values_of es
all_others i [] are lacks = refl
all_others i (e ∷ es) (is, are) (lack, lacks) =
    rw (ne_eqb e.1.index i (λ same. let bad : true ≡ false = sym (eq-eqb i e.0 (sym same ∙ sym is)) ∙ lack in cc)) (ap (λ ps. e.1 ∷ ps) (all_others i es are lacks))

pub others_stay : (i : ℕ) (es : List (ℕ × Interface)) → AreByIndex es → IsDistinct nat_eq (keys_of es) → values_of (remove_entry (nat_eq i) es) ≡ filter (is_other i) (values_of es)
others_stay i [] are distinct = refl
others_stay i (e ∷ es) (is, are) distinct = elim (cases_eq i e.0) [
  | inl same ↦ rw (eq-eqb i e.0 same) (rw (eq-eqb e.1.index i (sym is ∙ sym same)) (sym (all_others i es are (lacks same))))
  | inr other ↦ rw (ne_eqb i e.0 other) (rw (ne_eqb e.1.index i (λ same. other (sym same ∙ sym is)))
      (ap (λ ps. e.1 ∷ ps) (others_stay i es are (IsDistinct-tail nat_eq e.0 (keys_of es) distinct))))
]
  where
    lacks : i ≡ e.0 → LacksKey i es
    lacks same = rw same (IsDistinct-head nat_eq e.0 (keys_of es) distinct)

pub by_index_left : (i : ℕ) (es : List (ℕ × Interface)) → AreByIndex es → AreByIndex (remove_entry (nat_eq i) es)
by_index_left i [] are = tt
by_index_left i (e ∷ es) (is, are) = elim (cases_eq i e.0) [
  | inl same ↦ rw (eq-eqb i e.0 same) are
  | inr other ↦ rw (ne_eqb i e.0 other) (is, by_index_left i es are)
]

-- ---- one changes

-- the interface of the index becomes what f makes of it
abbrev pub changed : (Interface → Interface) → ℕ → Interface → Interface
changed f i p = cond (p.index == i) (f p) p

all_unchanged : (f : Interface → Interface) (i : ℕ) (es : List (ℕ × Interface)) → AreByIndex es → LacksKey i es → map (changed f i) (values_of es) ≡ values_of es
all_unchanged f i [] are lacks = refl
all_unchanged f i (e ∷ es) (is, are) (lack, lacks) =
    rw (ne_eqb e.1.index i (λ same. let bad : true ≡ false = sym (eq-eqb i e.0 (sym same ∙ sym is)) ∙ lack in cc)) (ap (λ ps. e.1 ∷ ps) (all_unchanged f i es are lacks))

-- where the index is found, the one that stands by it changes
pub one_changes : (f : Interface → Interface) (i : ℕ) (p : Interface) (es : List (ℕ × Interface)) → AreByIndex es → IsDistinct nat_eq (keys_of es)
    → lookup (nat_eq i) es ≡ Some p → values_of (set_value (nat_eq i) es (f p)) ≡ map (changed f i) (values_of es)
one_changes f i p [] are distinct found = let bad : None ≡ Some p = found in cc
one_changes f i p (e ∷ es) (is, are) distinct found = elim (cases_eq i e.0) [
  | inl same ↦
      let here : Some e.1 ≡ Some p = rw (eq-eqb i e.0 same) at found in
      let it : e.1 ≡ p = cc in
      rw (eq-eqb i e.0 same) (rw (eq-eqb e.1.index i (sym is ∙ sym same)) (ap (λ q. f q ∷ values_of es) (sym it) ∙ ap (λ ps. f e.1 ∷ ps) (sym (all_unchanged f i es are (lacks same)))))
  | inr other ↦
      let there : lookup (nat_eq i) es ≡ Some p = rw (ne_eqb i e.0 other) at found in
      rw (ne_eqb i e.0 other) (rw (ne_eqb e.1.index i (λ same. other (sym same ∙ sym is)))
      (ap (λ ps. e.1 ∷ ps) (one_changes f i p es are (IsDistinct-tail nat_eq e.0 (keys_of es) distinct) there)))
]
  where
    lacks : i ≡ e.0 → LacksKey i es
    lacks same = rw same (IsDistinct-head nat_eq e.0 (keys_of es) distinct)

-- where it isn't, none does
pub none_changes : (f : Interface → Interface) (i : ℕ) (es : List (ℕ × Interface)) → AreByIndex es → lookup (nat_eq i) es ≡ None → map (changed f i) (values_of es) ≡ values_of es
none_changes f i [] are none = refl
none_changes f i (e ∷ es) (is, are) none = elim (cases_eq i e.0) [
  | inl same ↦ let bad : Some e.1 ≡ None = rw (eq-eqb i e.0 same) at none in cc
  | inr other ↦
      let there : lookup (nat_eq i) es ≡ None = rw (ne_eqb i e.0 other) at none in
      rw (ne_eqb e.1.index i (λ same. other (sym same ∙ sym is))) (ap (λ ps. e.1 ∷ ps) (none_changes f i es are there))
]

pub by_index_changed : (i : ℕ) (p : Interface) (es : List (ℕ × Interface)) → AreByIndex es → p.index ≡ i → AreByIndex (set_value (nat_eq i) es p)
by_index_changed i p [] are own = tt
by_index_changed i p (e ∷ es) (is, are) own = elim (cases_eq i e.0) [
  | inl same ↦ rw (eq-eqb i e.0 same) (sym same ∙ sym own, are)
  | inr other ↦ rw (ne_eqb i e.0 other) (is, by_index_changed i p es are own)
]

-- the one that is found has the index
pub found_own : (i : ℕ) (p : Interface) (es : List (ℕ × Interface)) → AreByIndex es → lookup (nat_eq i) es ≡ Some p → p.index ≡ i
found_own i p [] are found = let bad : None ≡ Some p = found in cc
found_own i p (e ∷ es) (is, are) found = elim (cases_eq i e.0) [
  | inl same ↦
      let here : Some e.1 ≡ Some p = rw (eq-eqb i e.0 same) at found in
      let it : e.1 ≡ p = cc in
      ap (λ (q : Interface). q.index) (sym it) ∙ sym is ∙ sym same
  | inr other ↦ let there : lookup (nat_eq i) es ≡ Some p = rw (ne_eqb i e.0 other) at found in found_own i p es are there
]

-- ---- as the map's calls tell of it

pub map_adds : (i : ℕ) (p : Interface) (es es' : List (ℕ × Interface)) (ps : List Interface) → AreByIndex es → es' ≡ insert_entry nat_eq es i p → values_of es ≡ ps
    → AreOthers i ps → values_of es' ≡ ps ++ p ∷ []
map_adds i p es es' ps are is seen others = ap values_of is ∙ added_last i p es are (subst (AreOthers i) (sym seen) others) ∙ ap (λ qs. qs ++ p ∷ []) seen

pub map_removes : (i : ℕ) (es es' : List (ℕ × Interface)) (ps : List Interface) → AreByIndex es → IsDistinct nat_eq (keys_of es) → es' ≡ remove_entry (nat_eq i) es
    → values_of es ≡ ps → values_of es' ≡ filter (is_other i) ps
map_removes i es es' ps are distinct is seen = ap values_of is ∙ others_stay i es are distinct ∙ ap (filter (is_other i)) seen

pub map_changes : (f : Interface → Interface) (i : ℕ) (p q : Interface) (es es' : List (ℕ × Interface)) (ps : List Interface) → AreByIndex es → IsDistinct nat_eq (keys_of es)
    → Some p ≡ lookup (nat_eq i) es → q ≡ f p → es' ≡ set_value (nat_eq i) es q → values_of es ≡ ps → values_of es' ≡ map (changed f i) ps
map_changes f i p q es es' ps are distinct found made is seen =
    ap values_of is ∙ ap (λ w. values_of (set_value (nat_eq i) es w)) made ∙ one_changes f i p es are distinct (sym found) ∙ ap (map (changed f i)) seen

pub map_stays : (f : Interface → Interface) (i : ℕ) (es es' : List (ℕ × Interface)) (ps : List Interface) → AreByIndex es → None ≡ lookup (nat_eq i) es → es' ≡ es → values_of es ≡ ps
    → values_of es' ≡ map (changed f i) ps
map_stays f i es es' ps are none is seen = ap values_of is ∙ sym (none_changes f i es are (sym none)) ∙ ap (map (changed f i)) seen

pub by_index_kept : (i : ℕ) (p q : Interface) (es es' : List (ℕ × Interface)) → AreByIndex es → Some p ≡ lookup (nat_eq i) es → q.index ≡ p.index
    → es' ≡ set_value (nat_eq i) es q → AreByIndex es'
by_index_kept i p q es es' are found same is = subst AreByIndex (sym is) (by_index_changed i q es are (same ∙ found_own i p es are (sym found)))
