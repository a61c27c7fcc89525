use Rattle.chan_flags.proofs.Covering.{each_covered, each_covered_of_most, BarsFirst-here, EachBelow-more}
use Rattle.reg_journal.specs.Permits.{IsBoundOn}
use Rattle.core_parts.specs.Demands.{FailsDemand, MeetsDemand}
use Rattle.core_parts.proofs.radar.lowest_failing.Goals as goal

pub returns-in_err-khz : goal.returns-in_err-khz
returns-in_err-khz c = rw c.from_residual.ensures (λ db J r rules.
    each_covered (λ s. IsBoundOn db J r s → MeetsDemand db J r c.args.demand s) c.args.chan.now _ c.in_err-khz.ensures.subchannel (c.loop-i.invariant db J r rules))

pub returns-then-fails : goal.returns-then-fails
returns-then-fails c = λ db J r rules.
    BarsFirst-here (FailsDemand db J r c.args.demand) c.args.chan.now _ _ (λ s j below at. λ failing. failing.1 (c.loop-i.invariant db J r rules s j below at failing.0)) c.in_ok-khz.ensures.subchannel
    (c.if-fails.ensures db J r rules (c.loop-i.i, c.in_ok-khz.ensures.subchannel))

pub loop-i-preserved : goal.loop-i-preserved
loop-i-preserved c = λ db J r rules.
    EachBelow-more (λ s. IsBoundOn db J r s → MeetsDemand db J r c.args.demand s) c.args.chan.now _ _ (c.loop-i.invariant db J r rules) c.in_ok-khz.ensures.subchannel
    (c.if-fails.ensures db J r rules (c.loop-i.i, c.in_ok-khz.ensures.subchannel))

pub returns : goal.returns
returns c = λ db J r rules.
    each_covered_of_most (λ s. IsBoundOn db J r s → MeetsDemand db J r c.args.demand s) c.args.chan.now _ c.loop-i-test.false (c.loop-i.invariant db J r rules)
