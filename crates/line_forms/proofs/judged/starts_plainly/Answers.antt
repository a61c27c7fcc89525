use Rattle.std.proofs.Common.{◌<◌, ◌≤◌, rules}
use Rattle.line_forms.proofs.Plainly.{plainly-not, plainly-seven}
use Rattle.line_forms.proofs.judged.starts_plainly.Goals as goal

pub returns-then-stop-lt7 : goal.returns-then-stop-lt7
returns-then-stop-lt7 c =
    let lt : c.walk-draft.result.0.taken < 7 = search rules in
    plainly-not _ _ _ _ (rw c.new-words.ensures at c.walk-draft.ensures.stops) lt

pub returns : goal.returns
returns c =
    let ge : 7 ≤ c.walk-draft.result.0.taken = search rules in
    plainly-seven _ _ _ _ _ (rw c.new-words.ensures at c.walk-draft.ensures.stops) ge (rw c.words_behind.ensures at c.begins_iw_word.ensures)
