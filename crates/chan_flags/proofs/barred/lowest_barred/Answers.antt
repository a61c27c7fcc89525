use Rattle.std.proofs.Common.{refl}
use Rattle.chan_flags.proofs.Covering.{each_covered, each_covered_of_most, BarsFirst-here, EachBelow-more}
use Rattle.chan_flags.specs.ByRecords.{BarsBy}
use Rattle.chan_flags.proofs.barred.lowest_barred.Goals as goal

pub returns-in_err-khz : goal.returns-in_err-khz
returns-in_err-khz c = rw c.from_residual.ensures
    (each_covered (λ s. BarsBy c.args.chans.now c.args.asked.now c.args.obstacle s → ⊥) c.args.asked.now.chan _ c.in_err-khz.ensures.subchannel c.loop-i.invariant)

pub returns-then-bars : goal.returns-then-bars
returns-then-bars c =
    let bar = rw c.channel_at.ensures at c.if-bars.ensures.0 refl in
    BarsFirst-here (BarsBy c.args.chans.now c.args.asked.now c.args.obstacle) c.args.asked.now.chan _ _ c.loop-i.invariant c.in_ok-khz.ensures.subchannel bar

pub loop-i-preserved : goal.loop-i-preserved
loop-i-preserved c =
    let told = rw c.channel_at.ensures at c.if-bars.ensures.1 in
    EachBelow-more (λ s. BarsBy c.args.chans.now c.args.asked.now c.args.obstacle s → ⊥) c.args.asked.now.chan _ _ c.loop-i.invariant c.in_ok-khz.ensures.subchannel
    (λ bar. let so = told bar in cc)

pub returns : goal.returns
returns c = each_covered_of_most (λ s. BarsBy c.args.chans.now c.args.asked.now c.args.obstacle s → ⊥) c.args.asked.now.chan _ c.loop-i-test.false c.loop-i.invariant
