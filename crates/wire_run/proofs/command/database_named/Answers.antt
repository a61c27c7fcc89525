use Rattle.std.proofs.Common.{arith, codes, ◌≡◌, ◌<◌, ◌≤◌, length, List, [], ◌∷◌, get_or, refl}
use Rattle.std.proofs.lemmas.Bool.Decides.{Decides-eqb}
use Rattle.std.proofs.lemmas.Slice.Eq.{slice_eq-Decides}
use Rattle.wire_run.proofs.command.database_named.Goals as goal

only_two : {A : Type 0} (xs : List A) (x y : A) → 2 ≤ length xs → length xs < 3 → x ≡ get_or xs 0 x → y ≡ get_or xs 1 y → xs ≡ x ∷ y ∷ []
only_two [] x y some few here there = absurd (omega arith)
only_two (a ∷ []) x y some few here there = absurd (omega arith)
only_two (a ∷ b ∷ []) x y some few here there = cc
only_two (a ∷ b ∷ c ∷ rest) x y some few here there = absurd (omega arith)

pub returns-in-len2 : goal.returns-in-len2
returns-in-len2 c =
    let both : c.args.words.now ≡ c.command-item.result ∷ c.name-item.result ∷ [] = only_two _ _ _ c.in-len2.len_at_least c.in-len2.len_below c.command-item.is c.name-item.is in
    let same : c.as_str.result.now ≡ codes "wire" = (slice_eq-Decides Decides-eqb _ _ _ c.eq.ensures).0 c.if-eq.true in
    rw (both, ← c.as_str.ensures.value, ← c.as_str-in-len2.ensures.value, same) refl
