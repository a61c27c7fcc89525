-- Lists whose parts each stand behind a comma.
use Rattle.std.proofs.Common.{◌≡◌, ℕ, List, [], ◌∷◌, ◌++◌, Bool, true, false, drop, Some, refl, ap, ◌∙◌, cond, append-nil, arith, not, rules}
use Rattle.std.specs.Prelude.{All, ◌==◌}
use Rattle.std.specs.List.{slice_split, onto_first, flat_map, list_all}
use Rattle.std.proofs.lemmas.Bool.{and_parts, eqb-false, not-true}
use Rattle.std.proofs.lemmas.Bool.Decides.{nat_tests}
use Rattle.std.proofs.lemmas.List.Elements.{All-cons, All-head, All-tail}
use Rattle.text_lines.specs.inner.Reading.{parts_of}
use Rattle.text_lines.proofs.Cuts.{parts-cut, front_of-again, behind_of-again, front_of-whole, behind_of-none}

-- the parts, each behind a comma
abbrev pub listed : List (List ℕ) → List ℕ
listed parts = flat_map (λ part. 44 ∷ part) parts

-- the byte stands nowhere in the list
abbrev pub Lacks : ℕ → List ℕ → Type 0
Lacks byte xs = All (λ b. b ≡ byte → ⊥) xs

-- ---- parts, then the list

onto-first : (b : ℕ) (bs : List ℕ) (parts : List (List ℕ)) → listed parts ≡ 44 ∷ bs → listed (onto_first b parts) ≡ 44 ∷ b ∷ bs
onto-first b bs [] e = absurd cc
onto-first b bs (part ∷ parts) e = let same : part ++ listed parts ≡ bs = ap (drop 1) e in ap (λ (xs : List ℕ). 44 ∷ b ∷ xs) same

pub listed-parts : (bs : List ℕ) → listed (parts_of 44 (Some bs)) ≡ 44 ∷ bs
listed-parts [] = refl
listed-parts (b ∷ bs) = split (b == 44) refl (listed-parts bs)
  where
    split : (t : Bool) → t ≡ (b == 44) → listed (slice_split (λ x. x == 44) bs) ≡ 44 ∷ bs → listed (cond t ([] ∷ slice_split (λ x. x == 44) bs) (onto_first b (slice_split (λ x. x == 44) bs))) ≡ 44 ∷ b ∷ bs
    split true is more = let comma : b ≡ 44 = grind (arith, nat_tests) in rw (more, comma) refl
    split false is more = onto-first b bs (slice_split (λ x. x == 44) bs) more

-- ---- the list, then parts

pub parts-listed : (part : List ℕ) (parts : List (List ℕ)) → Lacks 44 part → All (Lacks 44) parts → parts_of 44 (Some (part ++ listed parts)) ≡ part ∷ parts
parts-listed part [] lacks each = rw append-nil (parts-cut 44 part ∙ rw (front_of-whole 44 part lacks, behind_of-none 44 part lacks) refl)
parts-listed part (next ∷ parts) lacks each =
    parts-cut 44 (part ++ (44 ∷ (next ++ listed parts)))
    ∙ rw (front_of-again 44 part (next ++ listed parts) lacks, behind_of-again 44 part (next ++ listed parts) lacks) (
    ap (λ (xs : List (List ℕ)). part ∷ xs) (parts-listed next parts (All-head (Lacks 44) next parts each) (All-tail (Lacks 44) next parts each)))

-- ---- a list without a byte, by a test

pub lacks-by : (byte : ℕ) (xs : List ℕ) → list_all (λ b. not (b == byte)) xs ≡ true → Lacks byte xs
lacks-by byte [] e = search rules
lacks-by byte (x ∷ xs) e =
    let p = and_parts (not (x == byte)) (list_all (λ b. not (b == byte)) xs) e in
    All-cons (λ b. b ≡ byte → ⊥) x xs (eqb-false x byte (not-true (x == byte) p.0)) (lacks-by byte xs p.1)
