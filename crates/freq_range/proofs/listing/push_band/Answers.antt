use Rattle.freq_range.proofs.Listed.{listed-none, listed-push}
use Rattle.freq_range.proofs.listing.push_band.Goals as goal
use Rattle.freq_range.proofs.listing.push_band.Goals.{in-Some+in_ok-push, in_default}

pub loop-n-preserved : goal.loop-n-preserved
loop-n-preserved c = elim c.match-channel_khz.branch [
  | in-Some+in_ok-push w ↦ rw (w.centres-is, w.in_ok-push.ensures.ok) (λ before. listed-push c.args.band c.loop-n.n _ _ w.in-Some.ensures.table (c.loop-n.invariant before))
  | in_default w ↦ rw w.centres-is (λ before. listed-none c.args.band c.loop-n.n _ c.loop-n-test.true w.in_default.ensures.table (c.loop-n.invariant before))
]
