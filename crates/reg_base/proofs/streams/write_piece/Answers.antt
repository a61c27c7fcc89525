use Rattle.std.proofs.Common.{◌≡◌, ◌++◌, [], rules, take, drop, sym, ap, ◌∙◌, subst, append-nil, drop_of_length-le}
use Rattle.std.proofs.lemmas.List.{take_rest}
use Rattle.std.specs.Io.KnownBytes.{Appends}
use Rattle.std.proofs.KnownBytes.{Appends-trans, Appends-kept}
use Rattle.reg_base.proofs.Pieces.{front_written, front_moves}
use Rattle.reg_base.proofs.streams.write_piece.Goals as goal

pub returns-in-Ok-eq0 : goal.returns-in-Ok-eq0
returns-in-Ok-eq0 g c =
    let (done, split, appended) = c.loop-rest.invariant in
    let rest = c.loop-rest.rest.now in
    let n = c.in-Ok-eq0.field-0 in
    front_written _ _ _ (done ++ take n rest) (drop n rest) (front_moves _ done rest n split)
    (Appends-trans _ _ _ _ _ appended c.in-Ok-eq0.ensures.bytes)

pub loop-rest-preserved : goal.loop-rest-preserved
loop-rest-preserved g c =
    let (done, split, appended) = c.loop-rest.invariant in
    let rest = c.loop-rest.rest.now in
    let n = c.in-Ok.count in (
      done ++ take n rest,
      front_moves _ done rest n split ∙ ap (λ l. (done ++ take n rest) ++ l) (sym (take_rest rest n)),
      Appends-trans _ _ _ _ _ appended c.in-Ok.ensures.bytes,
    )

pub returns-in-Err : goal.returns-in-Err
returns-in-Err g c =
    let (done, split, appended) = c.loop-rest.invariant in
    front_written _ _ _ done c.loop-rest.rest.now split (Appends-kept _ _ _ _ appended c.in-Err.ensures.bytes)

pub returns-in-Ok-flush : goal.returns-in-Ok-flush
returns-in-Ok-flush g c =
    let (done, split, appended) = c.loop-rest.invariant in
    let rest = c.loop-rest.rest.now in
    let empty : rest ≡ [] = drop_of_length-le rest {i = 0} (search rules) in
    subst (Appends _ _) (sym (split ∙ ap (λ l. done ++ l) empty ∙ append-nil done)) (Appends-kept _ _ _ _ appended c.in-Ok-flush.ensures.bytes)

pub returns-in-Err-flush : goal.returns-in-Err-flush
returns-in-Err-flush g c =
    let (done, split, appended) = c.loop-rest.invariant in
    front_written _ _ _ done c.loop-rest.rest.now split (Appends-kept _ _ _ _ appended c.in-Err-flush.ensures.bytes)
