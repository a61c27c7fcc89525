-- What was taken of an input that is told.
use Rattle.std.proofs.Common.{◌≡◌, ℕ, zero, suc, List, [], ◌∷◌, ◌++◌, take, Option, Some, None, refl, sym, ap, ◌∙◌, append-nil}
use Rattle.std.specs.Io.KnownBytes.{Consumes, IsAtEnd}
use Rattle.db_commands.specs.Devices.{StreamAround}
use Rattle.script_run.specs.Taken.{IsTaken}

pub consumed_front : (before after : Option (List ℕ)) (given taken : List ℕ) → before ≡ Some given → Consumes before after taken → (left : List ℕ) × (given ≡ taken ++ left)
consumed_front None after given taken told all = absurd cc
consumed_front (Some xs) None given taken told all = absurd all
consumed_front (Some xs) (Some ys) given taken told all = let same : xs ≡ given = cc in (ys, sym same ∙ all)

pub consumed_whole : (before after : Option (List ℕ)) (given taken : List ℕ) → before ≡ Some given → Consumes before after taken → IsAtEnd after → given ≡ taken
consumed_whole None after given taken told all end = absurd cc
consumed_whole (Some xs) None given taken told all end = absurd all
consumed_whole (Some xs) (Some ys) given taken told all end = let same : xs ≡ given = cc in sym same ∙ all ∙ ap (λ l. taken ++ l) end ∙ append-nil taken

-- what is cut off a front is cut off the whole
take_front : (n : ℕ) (xs ys : List ℕ) → (rest : List ℕ) × (take n (xs ++ ys) ≡ take n xs ++ rest)
take_front zero xs ys = ([], refl)
take_front (suc n) [] ys = (take (suc n) ys, refl)
take_front (suc n) (x ∷ xs) ys = let (rest, is) = take_front n xs ys in (rest, ap (λ l. x ∷ l) is)

-- what was taken within so many bytes begins what is told within these
pub taken_within : (n : ℕ) (input : StreamAround) (given : List ℕ) (P : List ℕ → Type 0) → input.before ≡ Some given → IsTaken input (λ taken. P (take n taken))
    → (front : List ℕ) × (rest : List ℕ) × (take n given ≡ front ++ rest) × P front
taken_within n input given P told taken =
    let (left, parts) = consumed_front input.before input.after given taken.taken told taken.consumed in
    let (rest, is) = take_front n taken.taken left in
    (take n taken.taken, rest, ap (take n) parts ∙ is, taken.holds)
