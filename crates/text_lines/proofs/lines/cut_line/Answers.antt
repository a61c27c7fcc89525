use Rattle.text_lines.proofs.Cuts.{lines-cut}
use Rattle.text_lines.proofs.lines.cut_line.Goals as goal

pub returns-clause-lines : goal.returns-clause-lines
returns-clause-lines c = lines-cut c.args.text.now _ _ c.cut_at.ensures.front c.cut_at.ensures.behind
