use Rattle.text_lines.proofs.Codes.{read_so_far-end, read_so_far-more, read_so_far-stop}
use Rattle.text_lines.proofs.country_header.read_codes.Goals as goal

pub returns-in_default-code_of : goal.returns-in_default-code_of
returns-in_default-code_of c =
    read_so_far-stop c.args.list.now c.in-Some.text.now _ _ c.cut_at.ensures.front c.in_default-code_of.ensures (rw c.in-Some.is at c.loop-left.invariant)

pub loop-left-preserved : goal.loop-left-preserved
loop-left-preserved c =
    rw c.in_ok-push.ensures.items (
    read_so_far-more c.args.list.now c.in-Some.text.now _ _ _ c.in-Some-code_of.code c.cut_at.ensures.front c.cut_at.ensures.behind c.in-Some-code_of.ensures (rw c.in-Some.is at c.loop-left.invariant))

pub returns : goal.returns
returns c = read_so_far-end c.args.list.now _ (rw c.in_default.is at c.loop-left.invariant)
