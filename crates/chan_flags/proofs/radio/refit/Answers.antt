use Rattle.std.proofs.Common.{◌<◌, length, arith, refl, ◌∙◌}
use Rattle.std.proofs.Math.Seq.{map-set_same}
use Rattle.std.proofs.lemmas.List.Elements.{AllWithin-more_set}
use Rattle.chan_flags.specs.Records.{IsRecord, IsRowFit}
use Rattle.chan_flags.proofs.radio.refit.Goals as goal

pub loop-chan-preserved : goal.loop-chan-preserved
loop-chan-preserved c =
    let in_range : c.loop-chan.chan-index < length c.loop-chan.chans = omega arith in
    record {
      records = AllWithin-more_set c.loop-chan.chans _ _ in_range (λ x. IsRowFit c.args.t.now.rows x.khz x.fit) c.loop-chan.invariant.records c.fit_of-chan.ensures.row;
      channels = map-set_same (λ x. x.khz) c.loop-chan.chans c.loop-chan.chan-index _ _ refl ∙ c.loop-chan.invariant.channels;
      law = λ ds is. AllWithin-more_set c.loop-chan.chans _ _ in_range (λ x. IsRecord ds x.khz x.fit) (c.loop-chan.invariant.law ds is) (c.fit_of-chan.ensures.law ds is);
    }
