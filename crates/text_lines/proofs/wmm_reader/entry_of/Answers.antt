use Rattle.text_lines.proofs.Items.{entry-no_entry, entry-none, entry-reads}
use Rattle.text_lines.proofs.Words.{match_then}
use Rattle.text_lines.proofs.wmm_reader.entry_of.Goals as goal

pub returns-in_err-numbers : goal.returns-in_err-numbers
returns-in_err-numbers c = rw c.from_residual.ensures (record { entry = entry-none c.args.item c.args.line.now c.in_err-numbers.ensures.found })

pub returns : goal.returns
returns c =
    let read = c.in_ok-numbers.ensures.found in
    record { entry = match_then _ _ _ (entry-no_entry c.args.item c.args.line.now c.in_ok-numbers.numbers read) (λ e. entry-reads c.args.item c.args.line.now c.in_ok-numbers.numbers e read) c.entry_from.ensures }
