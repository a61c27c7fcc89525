use Rattle.freq_range.proofs.Listed.{listed-nothing, listed-all}
use Rattle.freq_range.proofs.listing.all_channels.Goals as goal

pub returns : goal.returns
returns c = record {
  channels = listed-all _ (c.in_ok-push_band-3.ensures.channels (c.in_ok-push_band-2.ensures.channels
      (c.in_ok-push_band.ensures.channels (rw c.new-centres.ensures.empty listed-nothing))));
}
