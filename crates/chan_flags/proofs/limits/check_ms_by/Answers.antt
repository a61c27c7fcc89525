use Rattle.std.proofs.Common.{◌≡◌, ◌≤◌, IsTrue, arith}
use Rattle.chan_flags.proofs.Covering.{each_covered, each_covered_of_most}
use Rattle.chan_flags.proofs.Fitting.{EachBelow-fit, one_of_records}
use Rattle.chan_flags.specs.ByRecords.{chan_with_centre, IfFit}
use Rattle.chan_flags.proofs.limits.check_ms_by.Goals as goal

pub returns-in_default : goal.returns-in_default
returns-in_default c = record {
  records = each_covered (λ s. IfFit (λ fit. IsTrue fit.flags.dfs → fit.check_ms ≤ c.loop-i.length_ms) (chan_with_centre c.args.chans.now s)) c.args.asked.now.chan _
      c.in_default.ensures.subchannel c.loop-i.invariant.records;
  greatest = c.loop-i.invariant.greatest;
}

pub loop-i-preserved : goal.loop-i-preserved
loop-i-preserved c =
    let least = c.greater_length-length_ms.ensures.least in
    record {
      records = EachBelow-fit (λ fit. IsTrue fit.flags.dfs → fit.check_ms ≤ c.loop-i.length_ms) (λ fit. IsTrue fit.flags.dfs → fit.check_ms ≤ c.greater_length-length_ms.result)
          c.args.chans.now c.args.asked.now.chan _ _ (λ fit less dfs. let before = less dfs in omega (arith, least, before)) c.loop-i.invariant.records c.in-Some.ensures.subchannel
          (rw c.channel_at.ensures at c.greater_length-length_ms.ensures.record);
      greatest = one_of_records (λ n fit. IsTrue fit.flags.dfs × (n ≡ fit.check_ms)) c.args.chans.now c.args.asked.now.chan _ _ _ _ _ c.in-Some.ensures.subchannel
          c.loop-i.invariant.greatest (rw c.channel_at.ensures at c.greater_length-length_ms.ensures.one);
    }

pub returns : goal.returns
returns c = record {
  records = each_covered_of_most (λ s. IfFit (λ fit. IsTrue fit.flags.dfs → fit.check_ms ≤ c.loop-i.length_ms) (chan_with_centre c.args.chans.now s)) c.args.asked.now.chan _
      c.loop-i-test.false c.loop-i.invariant.records;
  greatest = c.loop-i.invariant.greatest;
}
