use Rattle.std.proofs.Common.{below_more, refl}
use Rattle.rule_tables.specs.Governing.{RuleHolds}
use Rattle.db_lint.proofs.Noted.{least_found, least_none}
use Rattle.db_lint.proofs.least.least_held.Goals as goal

pub returns-then-holds : goal.returns-then-holds
returns-then-holds c = record {
  least = least_found (λ khz. RuleHolds khz c.args.rule.now) c.args.channels.now c.loop-khz.khz-index _ c.requires.channels c.loop-khz-test.true refl (c.holds.ensures.0 c.if-holds.true) c.loop-khz.invariant;
}

pub loop-khz-preserved : goal.loop-khz-preserved
loop-khz-preserved c = below_more _ _ c.loop-khz.invariant (λ is. let one = c.holds.ensures.1 is in let other = c.if-holds.false in cc)

pub returns : goal.returns
returns c = record { least = least_none (λ khz. RuleHolds khz c.args.rule.now) c.args.channels.now c.loop-khz.khz-index c.requires.channels c.loop-khz-test.false c.loop-khz.invariant }
