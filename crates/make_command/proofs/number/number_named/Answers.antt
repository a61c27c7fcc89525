use Rattle.std.proofs.Common.{codes, ◌≡◌, [], ◌∷◌, refl, sym}
use Rattle.std.proofs.lemmas.Bool.Decides.{Decides-eqb}
use Rattle.std.proofs.lemmas.Slice.Eq.{slice_eq-Decides}
use Rattle.db_commands.proofs.FewWords.{only_two}
use Rattle.make_command.proofs.number.number_named.Goals as goal

pub returns-in_ok-number-in-len2-clause-named : goal.returns-in_ok-number-in-len2-clause-named
returns-in_ok-number-in-len2-clause-named c =
    let both : c.args.words.now ≡ c.command-item.result ∷ c.word-item.result ∷ [] = only_two _ _ _ c.in-len2.len_at_least c.in-len2.len_below c.command-item.is c.word-item.is in
    let same : c.as_str.result.now ≡ codes "make" = (slice_eq-Decides Decides-eqb _ _ _ c.eq.ensures).0 c.if-eq.true in
    (c.as_bytes.result.now, rw (both, ← c.as_str.ensures.value, ← c.as_bytes.ensures.value, same) refl, sym c.in_ok-number-in-len2.ensures.number)
