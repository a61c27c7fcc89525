use Rattle.std.proofs.Common.{[], ◌∷◌, ap}
use Rattle.std.proofs.lemmas.Bool.Decides.{Decides-eqb}
use Rattle.std.proofs.lemmas.Slice.Eq.{slice_eq-Decides}
use Rattle.db_commands.proofs.FewWords.{only_one}
use Rattle.db_commands.proofs.words.are_only.Goals as goal

pub returns-in-len1 : goal.returns-in-len1
returns-in-len1 c =
    let alone = only_one _ _ c.in-len1.len_at_least c.in-len1.len_below c.word-item.is in
    let same = slice_eq-Decides Decides-eqb _ _ _ c.eq.ensures in
    rw (alone, ← c.as_str.ensures.value) (λ yes. ap (λ w. w ∷ []) (same.0 yes), λ is. same.1 (cc))
