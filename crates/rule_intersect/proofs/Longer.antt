-- Tuples of a list of domains with one more domain at its end.
use Rattle.std.proofs.Common.{◌≡◌, ◌<◌, List, [], ◌∷◌, ◌++◌, length, arith, refl, ap, inl, inr}
use Rattle.rule_tables.specs.declared.domain.Domain.{Domain}
use Rattle.rule_intersect.specs.Tuples.{Choice, IsChoice, IsTuple, IsBefore}

pub IsTuple-push : (ds : List Domain) (d : Domain) (t : List Choice) (c : Choice) → IsTuple ds t → IsChoice d.rules c → IsTuple (ds ++ d ∷ []) (t ++ c ∷ [])
IsTuple-push [] d [] c is choice = (choice, tt)
IsTuple-push [] d (e ∷ t) c is choice = absurd is
IsTuple-push (e ∷ ds) d [] c is choice = absurd is
IsTuple-push (e ∷ ds) d (x ∷ t) c is choice = (is.0, IsTuple-push ds d t c is.1 choice)

-- a tuple of the longer list is one of the shorter list with one choice more
pub IsTuple-split : (ds : List Domain) (d : Domain) (t : List Choice) → IsTuple (ds ++ d ∷ []) t
    → (front : List Choice) × (c : Choice) × IsTuple ds front × IsChoice d.rules c × (front ++ c ∷ [] ≡ t)
IsTuple-split [] d [] is = absurd is
IsTuple-split [] d (c ∷ []) is = ([], c, tt, is.0, refl)
IsTuple-split [] d (c ∷ e ∷ t) is = absurd is.1
IsTuple-split (e ∷ ds) d [] is = absurd is
IsTuple-split (e ∷ ds) d (x ∷ t) is =
    let rest = IsTuple-split ds d t is.1 in
    (x ∷ rest.0, rest.1, (is.0, rest.2), rest.3, ap (λ xs. x ∷ xs) rest.4)

pub length-tuple : (ds : List Domain) (t : List Choice) → IsTuple ds t → length t ≡ length ds
length-tuple [] [] is = refl
length-tuple [] (c ∷ t) is = absurd is
length-tuple (d ∷ ds) [] is = absurd is
length-tuple (d ∷ ds) (c ∷ t) is = let rest = length-tuple ds t is.1 in omega arith

pub IsBefore-last : (t : List Choice) (c e : Choice) → c.number < e.number → IsBefore (t ++ c ∷ []) (t ++ e ∷ [])
IsBefore-last [] c e less = inl less
IsBefore-last (x ∷ t) c e less = inr (refl, IsBefore-last t c e less)

pub IsBefore-push : (t s : List Choice) (c e : Choice) → IsBefore t s → IsBefore (t ++ c ∷ []) (s ++ e ∷ [])
IsBefore-push [] s c e before = absurd before
IsBefore-push (x ∷ t) [] c e before = absurd before
IsBefore-push (x ∷ t) (y ∷ s) c e (inl less) = inl less
IsBefore-push (x ∷ t) (y ∷ s) c e (inr (same, rest)) = inr (same, IsBefore-push t s c e rest)

pub IsBefore-asymmetric : (t s : List Choice) → IsBefore t s → IsBefore s t → ⊥
IsBefore-asymmetric [] s before after = before
IsBefore-asymmetric (x ∷ t) [] before after = before
IsBefore-asymmetric (x ∷ t) (y ∷ s) (inl less) (inl more) = omega arith
IsBefore-asymmetric (x ∷ t) (y ∷ s) (inl less) (inr (same, rest)) = omega arith
IsBefore-asymmetric (x ∷ t) (y ∷ s) (inr (same, rest)) (inl more) = omega arith
IsBefore-asymmetric (x ∷ t) (y ∷ s) (inr (same, rest)) (inr (same', rest')) = IsBefore-asymmetric t s rest rest'
