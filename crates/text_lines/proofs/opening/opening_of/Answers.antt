use Rattle.text_lines.proofs.Openings.{opening_at-none, opening_at-reads}
use Rattle.text_lines.proofs.Words.{match_then}
use Rattle.text_lines.proofs.opening.opening_of.Goals as goal

pub returns : goal.returns
returns c = record { opening = match_then _ _ _ (opening_at-none c.args.line.now) (opening_at-reads c.args.line.now) c.opening_at.ensures }
