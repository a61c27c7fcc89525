use Rattle.std.proofs.Common.{◌≡◌, ◌≤◌, ◌+◌, drop, length, rules, subst, sym, add-zero, arith}
use Rattle.line_forms.specs.Told.{nothing}
use Rattle.line_forms.specs.inner.Walking.{StopsAlong}
use Rattle.line_forms.specs.declared.walker.End.TheVariants.{Bad, Short}
use Rattle.line_forms.proofs.Walks.{walk-bad, walk-end, walk-more, walk-short}
use Rattle.line_forms.proofs.walker.walk.Goals as goal

pub returns-in_default-clause-stops : goal.returns-in_default-clause-stops
returns-in_default-clause-stops c =
    rw (c.stop_at.ensures.taken, c.stop_at.ensures.end) (subst (λ n. StopsAlong c.args.slots.now nothing c.args.words.now n Short c.loop-i.draft) (add-zero c.loop-i.i)
    (c.loop-i.invariant 0 Short c.loop-i.draft (walk-short c.args.slots.now c.loop-i.i c.loop-i.draft c.loop-i.words c.loop-i-test.true c.in_default.ensures.word)))

pub returns-in-None-clause-stops : goal.returns-in-None-clause-stops
returns-in-None-clause-stops c =
    rw (c.stop_at-in-None.ensures.taken, c.stop_at-in-None.ensures.end) (subst (λ n. StopsAlong c.args.slots.now nothing c.args.words.now n (Bad c.reason.result) c.loop-i.draft) (add-zero c.loop-i.i)
    (c.loop-i.invariant 0 (Bad c.reason.result) c.loop-i.draft (subst (λ b. StopsAlong (drop c.loop-i.i c.args.slots.now) c.loop-i.draft c.loop-i.words 0 (Bad b) c.loop-i.draft) (sym c.reason.ensures)
    (walk-bad c.args.slots.now c.loop-i.i _ c.loop-i.draft c.loop-i.words _ c.in-Some.word.now c.loop-i-test.true c.in-Some.ensures.word c.in-None.ensures))))

pub loop-i-preserved : goal.loop-i-preserved
loop-i-preserved c = λ k end e stops.
    let same : c.loop-i.i + (k + 1) ≡ c.loop-i.i + 1 + k = omega arith in
    subst (λ n. StopsAlong c.args.slots.now nothing c.args.words.now n end e) same
    (c.loop-i.invariant (k + 1) end e (walk-more c.args.slots.now c.loop-i.i _ c.loop-i.draft c.in-Some-step.next c.loop-i.words _ c.in-Some.word.now k end e c.loop-i-test.true c.in-Some.ensures.word c.in-Some-step.ensures stops))

pub returns-clause-stops : goal.returns-clause-stops
returns-clause-stops c =
    let past : length c.args.slots.now ≤ c.loop-i.i = search rules in
    let same : c.loop-i.i + 0 ≡ length c.args.slots.now = search rules in
    rw (c.stop_at-2.ensures.taken, c.stop_at-2.ensures.end) (subst (λ n. StopsAlong c.args.slots.now nothing c.args.words.now n c.end_of.result c.loop-i.draft) same
    (c.loop-i.invariant 0 c.end_of.result c.loop-i.draft (walk-end c.args.slots.now c.loop-i.i c.loop-i.draft c.loop-i.words c.end_of.result past c.end_of.ensures)))
