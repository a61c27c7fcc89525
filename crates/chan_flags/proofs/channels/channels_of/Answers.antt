use Rattle.std.proofs.Common.{◌≡◌, None, refl, sym, subst}
use Rattle.std.proofs.lemmas.List.{map-append}
use Rattle.std.proofs.lemmas.List.Elements.{All-push}
use Rattle.freq_range.specs.Ascending.{AreAllAscending}
use Rattle.freq_range.specs.Channels.{IsCentre}
use Rattle.freq_range.proofs.Picked.{picked-all, picked-keep, picked-leave}
use Rattle.chan_flags.specs.Lists.{IsRadioChannel}
use Rattle.chan_flags.specs.declared.record.Chan.{Chan}
use Rattle.chan_flags.proofs.channels.channels_of.Goals as goal
use Rattle.chan_flags.proofs.channels.channels_of.Goals.{then-is_of_bands+in_ok-push, else-is_of_bands}

pub loop-khz-preserved : goal.loop-khz-preserved
loop-khz-preserved c = elim c.if-is_of_bands.branch [
  | then-is_of_bands+in_ok-push w ↦ rw (w.chans-is, w.in_ok-push.ensures.items) (record {
    channels = rw map-append (picked-keep IsCentre (IsRadioChannel c.args.bands) _ _ _ _
        (subst (AreAllAscending IsCentre) (sym c.as_slice-khz-items.ensures.items) c.in_ok-all.ensures.channels) c.loop-khz-test.true refl (c.is_of_bands.ensures.0 w.if-is_of_bands.true) c.loop-khz.invariant.channels);
    unfit = All-push (λ (x : Chan). x.fit ≡ None) _ _ c.loop-khz.invariant.unfit refl;
  })
  | else-is_of_bands w ↦ rw w.chans-is (record {
    channels = picked-leave (IsRadioChannel c.args.bands) _ _ _ _ c.loop-khz-test.true refl
        (λ is. let one = c.is_of_bands.ensures.1 is in let other = w.if-is_of_bands.false in cc) c.loop-khz.invariant.channels;
    unfit = c.loop-khz.invariant.unfit;
  })
]

pub returns-clause-channels : goal.returns-clause-channels
returns-clause-channels c = picked-all IsCentre (IsRadioChannel c.args.bands) _ _ _
    (subst (AreAllAscending IsCentre) (sym c.as_slice-khz-items.ensures.items) c.in_ok-all.ensures.channels)
    c.loop-khz-test.false (λ khz (band, n, is, has). (band, n, is)) c.loop-khz.invariant.channels
