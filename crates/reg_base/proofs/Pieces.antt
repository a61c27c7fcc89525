-- A piece of which a front was written.
use Rattle.std.proofs.Common.{◌≡◌, ℕ, ◌≤◌, List, ◌++◌, length, take, drop, sym, ap, ◌∙◌, subst, append_assoc, take-append-drop, arith}
use Rattle.std.specs.Prelude.{Option}
use Rattle.std.proofs.Math.Seq.{take-append_seam}
use Rattle.std.proofs.lemmas.Grind.{common_steps}
use Rattle.std.specs.Io.KnownBytes.{Appends}
use Rattle.reg_base.specs.Appended.{AppendsFront}

pub front_written : (a b : Option (List ℕ)) (all done rest : List ℕ) → all ≡ done ++ rest → Appends a b done → AppendsFront a b all
front_written a b all done rest split wrote =
    let front : done ≡ take (length done) all = sym (ap (take (length done)) split ∙ take-append_seam done rest) in
    let within : length done ≤ length all = grind (arith, common_steps) in
    (length done, within, subst (Appends a b) front wrote)

-- n bytes more are gone from the rest
pub front_moves : (all done rest : List ℕ) (n : ℕ) → all ≡ done ++ rest → all ≡ (done ++ take n rest) ++ drop n rest
front_moves all done rest n split =
    split ∙ ap (λ l. done ++ l) (sym (take-append-drop n rest)) ∙ sym (append_assoc done (take n rest) (drop n rest))
