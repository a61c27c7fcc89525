use Rattle.std.proofs.Common.{◌∙◌, ◌∷◌, ◌++◌, [], ap, append-nil, sym}
use Rattle.std.proofs.lemmas.List.{append_assoc}
use Rattle.db_lint.proofs.Noted.{notes_none, notes_push}
use Rattle.db_lint.proofs.notes.push_notes.Goals as goal

pub loop-k-init : goal.loop-k-init
loop-k-init c = ([], sym (append-nil _), notes_none c.args.domain.now)

pub loop-k-preserved : goal.loop-k-preserved
loop-k-preserved c =
    let (own, parts, are) = c.loop-k.invariant in
    rw c.in_ok-push.ensures.ok
    (own ++ c.note_on.result ∷ [], ap (λ xs. xs ++ c.note_on.result ∷ []) parts ∙ append_assoc _ own (c.note_on.result ∷ []), notes_push c.args.domain.now c.loop-k.k own c.note_on.result are c.note_on.ensures.note)
