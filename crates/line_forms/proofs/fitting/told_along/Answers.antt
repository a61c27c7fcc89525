use Rattle.std.proofs.Common.{◌<◌, length, rules}
use Rattle.line_forms.proofs.FormsOfWords.{leads-back, leads-more, leads-none}
use Rattle.line_forms.proofs.fitting.told_along.Goals as goal

pub returns-then-not-tell : goal.returns-then-not-tell
returns-then-not-tell c =
    let word : c.loop-i.i < length c.args.words.now = search rules in
    λ e h. leads-none (λ w. w.now) c.args.words.now c.args.row.now c.loop-i.i _ _ c.loop-i.draft e word c.loop-i-test.true c.if-not-tell.ensures (c.loop-i.invariant.1 e h)

pub loop-i-preserved : goal.loop-i-preserved
loop-i-preserved c =
    let word : c.loop-i.i < length c.args.words.now = search rules in (
      λ e h. c.loop-i.invariant.0 e (leads-more (λ w. w.now) c.args.words.now c.args.row.now c.loop-i.i _ _ c.loop-i.draft _ e word c.loop-i-test.true c.if-not-tell.ensures h),
      λ e h. leads-back (λ w. w.now) c.args.words.now c.args.row.now c.loop-i.i _ _ c.loop-i.draft _ e word c.loop-i-test.true c.if-not-tell.ensures (c.loop-i.invariant.1 e h),
    )
