use Rattle.std.proofs.Common.{rules, sym, ◌∙◌, Ok, Err}
use Rattle.std.proofs.lemmas.List.Sorted.{answers_always}
use Rattle.std.proofs.lemmas.Option.{slice_get-get_or}
use Rattle.chan_flags.proofs.Searched.{searched}
use Rattle.chan_flags.specs.declared.record.Chan.{Chan}
use Rattle.chan_flags.proofs.barred.channel_at.Goals as goal

pub returns-in-Ok : goal.returns-in-Ok
returns-in-Ok c =
    let by_key = c.in-Ok.ensures.position (λ (chan : Chan). chan.khz) (answers_always _ _ _ (λ f a r g called. search rules)) in
    sym (searched c.args.chans.now c.args.khz (Ok c.in-Ok.place) c.requires c.in-Ok.ensures.bound by_key ∙ slice_get-get_or c.args.chans.now c.in-Ok.place _ c.in-Ok.ensures.bound)

pub returns-in-Err : goal.returns-in-Err
returns-in-Err c =
    let by_key = c.in-Err.ensures.position (λ (chan : Chan). chan.khz) (answers_always _ _ _ (λ f a r g called. search rules)) in
    sym (searched c.args.chans.now c.args.khz (Err c.in-Err._place) c.requires c.in-Err.ensures.bound by_key)
