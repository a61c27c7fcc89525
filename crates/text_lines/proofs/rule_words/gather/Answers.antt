use Rattle.text_lines.proofs.Gathering.{gathered-end, gathered-more, gathered-no_word, gathered-two_names}
use Rattle.text_lines.proofs.rule_words.gather.Goals as goal

pub returns-in_err-word : goal.returns-in_err-word
returns-in_err-word c = rw c.from_residual.ensures (gathered-no_word c.args.list.now c.in-Some.text.now _ _ c.cut_at.ensures.front c.in_err-word.ensures (rw c.in-Some.is at c.loop-left.invariant))

pub returns-in_err-words : goal.returns-in_err-words
returns-in_err-words c = rw c.from_residual-in_err-words.ensures (gathered-two_names c.args.list.now c.in-Some.text.now _ _ _ c.cut_at.ensures.front c.in_ok-word.ensures c.in_err-words.ensures (rw c.in-Some.is at c.loop-left.invariant))

pub loop-left-preserved : goal.loop-left-preserved
loop-left-preserved c = gathered-more c.args.list.now c.in-Some.text.now _ _ _ _ _ c.cut_at.ensures.front c.cut_at.ensures.behind c.in_ok-word.ensures c.in_ok-words.ensures (rw c.in-Some.is at c.loop-left.invariant)

pub returns : goal.returns
returns c = gathered-end c.args.list.now _ (rw c.in_default.is at c.loop-left.invariant)
