use Rattle.std.proofs.Common.{◌≡◌, true, false, sym, ◌∙◌}
use Rattle.std.proofs.lemmas.Option.{get_or_from_slice_get, same_Some}
use Rattle.reply_reading.proofs.WrittenAgain.{are_reply, bare_short, written_again}
use Rattle.reply_reading.proofs.reading.reply_of.Goals as goal

pub msgs_of_reply-requires-clause-short : goal.msgs_of_reply-requires-clause-short
msgs_of_reply-requires-clause-short c = rw c.bare_request.ensures.made (bare_short c.seq_and_pid-seq.result.0 c.seq_and_pid-seq.result.1)

pub returns-then-not-are_written-clause-none : goal.returns-then-not-are_written-clause-none
returns-then-not-are_written-clause-none c = λ reply typed are.
    let msgs = c.args.msgs.now in let first = c.in-Some.first.now in
    let same = same_Some c.in-Some-2.reply reply (sym c.in-Some-2.is ∙ c.in_ok-reply.ensures are.request reply typed are.told (c.as_slice.ensures.items ∙ are.messages)) in
    let at = sym (get_or_from_slice_get msgs 0 first first (sym c.in-Some.ensures.item)) in
    let all = written_again are.request reply msgs first are.is are.told are.messages at in
    let yes = c.are_written.ensures.1 (rw (c.as_slice-2.ensures.items, c.as_slice-3.ensures.items, c.in_ok-written.ensures.messages, c.bare_request.ensures.made, c.seq_and_pid-seq.ensures.seq, c.seq_and_pid-seq.ensures.pid, same) all) in
    let clash : true ≡ false = sym yes ∙ c.if-not-are_written.true in
    absurd cc

pub returns-then-not-are_written-clause-again : goal.returns-then-not-are_written-clause-again
returns-then-not-are_written-clause-again c = λ request reply typed told is e.
    let msgs = c.args.msgs.now in let first = c.in-Some.first.now in
    let same = same_Some c.in-Some-2.reply reply (sym c.in-Some-2.is ∙ c.in_ok-reply.ensures request reply typed told (c.as_slice.ensures.items ∙ e)) in
    let at = sym (get_or_from_slice_get msgs 0 first first (sym c.in-Some.ensures.item)) in
    let all = written_again request reply msgs first is told e at in
    let yes = c.are_written.ensures.1 (rw (c.as_slice-2.ensures.items, c.as_slice-3.ensures.items, c.in_ok-written.ensures.messages, c.bare_request.ensures.made, c.seq_and_pid-seq.ensures.seq, c.seq_and_pid-seq.ensures.pid, same) all) in
    let clash : true ≡ false = sym yes ∙ c.if-not-are_written.true in
    absurd cc

pub returns-clause-reply : goal.returns-clause-reply
returns-clause-reply c =
    are_reply c.bare_request.result c.in-Some-2.reply c.args.msgs.now c.bare_request.ensures.request (c.can_be_told.ensures.0 c.if-not-can_be_told.false)
    (rw (c.as_slice-2.ensures.items, c.as_slice-3.ensures.items, c.in_ok-written.ensures.messages) at (c.are_written.ensures.0 c.if-not-are_written.false))
