-- Lists of one, two or three, by their elements.
use Rattle.std.proofs.Common.{arith, ◌≡◌, ◌<◌, ◌≤◌, length, List, [], ◌∷◌, get_or, sym, ap}

pub only_one : {A : Type 0} (xs : List A) (x : A) → 1 ≤ length xs → length xs < 2 → x ≡ get_or xs 0 x → xs ≡ x ∷ []
only_one [] x some few here = absurd (omega arith)
only_one (y ∷ []) x some few here = ap (λ z. z ∷ []) (sym here)
only_one (y ∷ z ∷ rest) x some few here = absurd (omega arith)

pub only_two : {A : Type 0} (xs : List A) (x y : A) → 2 ≤ length xs → length xs < 3 → x ≡ get_or xs 0 x → y ≡ get_or xs 1 y → xs ≡ x ∷ y ∷ []
only_two [] x y some few here there = absurd (omega arith)
only_two (a ∷ []) x y some few here there = absurd (omega arith)
only_two (a ∷ b ∷ []) x y some few here there = cc
only_two (a ∷ b ∷ c ∷ rest) x y some few here there = absurd (omega arith)

pub only_three : {A : Type 0} (xs : List A) (x y z : A) → 3 ≤ length xs → length xs < 4 → x ≡ get_or xs 0 x → y ≡ get_or xs 1 y → z ≡ get_or xs 2 z → xs ≡ x ∷ y ∷ z ∷ []
only_three [] x y z some few here there last = absurd (omega arith)
only_three (a ∷ []) x y z some few here there last = absurd (omega arith)
only_three (a ∷ b ∷ []) x y z some few here there last = absurd (omega arith)
only_three (a ∷ b ∷ c ∷ []) x y z some few here there last = cc
only_three (a ∷ b ∷ c ∷ d ∷ rest) x y z some few here there last = absurd (omega arith)
