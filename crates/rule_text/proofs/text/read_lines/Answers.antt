use Rattle.std.proofs.Common.{subst, sym}
use Rattle.rule_text.specs.TextOf.{IsParseFault}
use Rattle.rule_text.proofs.ReadSoFar.{count_so_far, cut_lines, cut_shorter, read_more, read_nothing, sound_so_far, stopped}
use Rattle.rule_text.proofs.text.read_lines.Goals as goal

pub loop-left-init : goal.loop-left-init
loop-left-init c = read_nothing c.args.text.now c.new-parser.result c.new-parser.ensures

pub loop-left-preserved : goal.loop-left-preserved
loop-left-preserved c =
    let so_far = rw c.in-Some.is at c.loop-left.invariant in
    read_more c.args.text.now c.in-Some.bytes.now c.cut_line.result.0.now _ _ _ _ so_far
    (cut_lines c.in-Some.bytes.now c.cut_line.result.0.now c.cut_line.result.1 c.cut_line.ensures.lines)
    (cut_shorter c.in-Some.bytes.now c.cut_line.result.1 c.cut_line.ensures.shorter)
    (c.in_default-take_line.ensures so_far.forms (count_so_far _ _ _ _ so_far) (sound_so_far _ _ _ _ so_far) so_far.stands)

pub returns-in-Err : goal.returns-in-Err
returns-in-Err c =
    let so_far = rw c.in-Some.is at c.loop-left.invariant in
    let fault = stopped c.args.text.now c.in-Some.bytes.now c.cut_line.result.0.now _ c.loop-left.number _ c.in-Err.stop so_far
    (cut_lines c.in-Some.bytes.now c.cut_line.result.0.now c.cut_line.result.1 c.cut_line.ensures.lines)
    (c.in-Err.ensures so_far.forms (count_so_far _ _ _ _ so_far) (sound_so_far _ _ _ _ so_far) so_far.stands) in
    subst (IsParseFault c.args.text.now) (sym c.fault_at.ensures) fault
