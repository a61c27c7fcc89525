use Rattle.std.proofs.Common.{◌≡◌, ◌≤◌, arith}
use Rattle.chan_flags.proofs.Covering.{each_covered, each_covered_of_most}
use Rattle.chan_flags.proofs.Fitting.{EachBelow-fit, one_of_records}
use Rattle.chan_flags.specs.ByRecords.{chan_with_centre, IfFit}
use Rattle.chan_flags.proofs.limits.limit_mbm_by.Goals as goal

pub returns-in_default : goal.returns-in_default
returns-in_default c = record {
  radio = c.loop-i.invariant.radio;
  records = each_covered (λ s. IfFit (λ fit. c.loop-i.limit_mbm ≤ fit.limit_mbm) (chan_with_centre c.args.chans.now s)) c.args.asked.now.chan _ c.in_default.ensures.subchannel c.loop-i.invariant.records;
  least = c.loop-i.invariant.least;
}

pub loop-i-preserved : goal.loop-i-preserved
loop-i-preserved c =
    let most = c.lesser_limit-limit_mbm.ensures.most in
    let radio = c.loop-i.invariant.radio in
    record {
      radio = omega (arith, most, radio);
      records = EachBelow-fit (λ fit. c.loop-i.limit_mbm ≤ fit.limit_mbm) (λ fit. c.lesser_limit-limit_mbm.result ≤ fit.limit_mbm) c.args.chans.now c.args.asked.now.chan _ _
          (λ fit more. omega (arith, most, more)) c.loop-i.invariant.records c.in-Some.ensures.subchannel (rw c.channel_at.ensures at c.lesser_limit-limit_mbm.ensures.record);
      least = one_of_records (λ n fit. n ≡ fit.limit_mbm) c.args.chans.now c.args.asked.now.chan _ _ _ _ _ c.in-Some.ensures.subchannel c.loop-i.invariant.least
          (rw c.channel_at.ensures at c.lesser_limit-limit_mbm.ensures.one);
    }

pub returns : goal.returns
returns c = record {
  radio = c.loop-i.invariant.radio;
  records = each_covered_of_most (λ s. IfFit (λ fit. c.loop-i.limit_mbm ≤ fit.limit_mbm) (chan_with_centre c.args.chans.now s)) c.args.asked.now.chan _ c.loop-i-test.false c.loop-i.invariant.records;
  least = c.loop-i.invariant.least;
}
