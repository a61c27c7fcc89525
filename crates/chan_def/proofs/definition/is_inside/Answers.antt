use Rattle.std.proofs.Common.{arith}
use Rattle.chan_def.proofs.Inside.{inside_iff}
use Rattle.chan_def.proofs.definition.is_inside.Goals as goal

pub returns-then-above-eq0 : goal.returns-then-above-eq0
returns-then-above-eq0 c =
    let first = c.from-first.ensures in
    let khz = c.from.ensures in
    let half = c.from-2.ensures in
    let whole = rw (khz, half, first) at c.if-above-eq0.true in
    rw (c.from-then-above-eq0.ensures, khz, half, first)
    (inside_iff c.args.width_khz c.args.centre_khz c.args.khz (omega (arith, first, khz, half)) whole)
